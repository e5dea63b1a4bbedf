pub mod Digits
pub mod Rows
pub mod Walk
pub mod Reading
