pub mod Relies
pub mod Beyond
pub mod Echo
pub mod EchoNames
