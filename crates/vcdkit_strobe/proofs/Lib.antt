mod WorkLemmas
mod EndLemmas
mod BoundLemmas
mod ProgramLemmas
pub mod MessageLines
