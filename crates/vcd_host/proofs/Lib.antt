pub mod AskedLemmas
mod AskedRows
pub mod OpensLemmas
mod LentOutputLemmas
mod PrefetchedLemmas
pub mod Cited
pub mod Facts
