pub mod Calls
pub mod Names
