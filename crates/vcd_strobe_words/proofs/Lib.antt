mod CommandRows
pub mod Cited
pub mod ClocksLemmas
pub mod JobLemmas
