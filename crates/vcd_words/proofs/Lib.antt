mod WordsLemmas
mod CommandLemmas
mod CommandRows
pub mod TimesLemmas
pub mod PeriodLemmas
pub mod SampleLemmas
pub mod Cited
pub mod Facts
