pub mod Listed
pub mod Plan
pub mod Task
pub mod Run
pub mod Outcomes
