pub mod Once
pub mod StepLemmas
pub mod ReadLemmas
pub mod AheadSteps
pub mod OutcomeLemmas
