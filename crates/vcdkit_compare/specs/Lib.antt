pub mod Work
pub mod Bound
pub mod Calls
pub mod Names
pub mod Program
pub mod Whole
