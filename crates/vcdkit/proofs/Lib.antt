pub mod NeededLemmas
pub mod TurnLemmas
mod InputsLemmas
mod EndLemmas
mod WorkLemmas
mod RunLemmas
pub mod Statuses
mod WithinLemmas
pub mod Cited
pub mod Facts
