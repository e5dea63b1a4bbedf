mod MemoryLemmas
mod LentLemmas
mod HostLemmas
pub mod UnderLemmas
mod RunsLemmas
mod VcdkitLemmas
mod OneLemmas
pub mod Cited
pub mod Facts
