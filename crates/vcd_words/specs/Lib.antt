pub mod Words
pub mod Ticks
pub mod Times
pub mod Job
pub mod Refusal
pub mod Names
pub mod Matches
