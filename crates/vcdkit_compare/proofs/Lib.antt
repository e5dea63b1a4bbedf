mod WorkLemmas
mod EndLemmas
mod BoundLemmas
mod LineLemmas
mod ProgramLemmas
