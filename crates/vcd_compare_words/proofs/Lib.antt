mod CommandRows
pub mod Cited
pub mod NamesLemmas
