-- The lemmas of this crate that its answers cite, under one path.
pub use Rattle.vcd_job.proofs.AfterLemmas.{ended_last, ended_passed, no_room}
pub use Rattle.vcd_job.proofs.HeaderLemmas.{begins, begun, failed, head_last, seated}
pub use Rattle.vcd_job.proofs.MessageLemmas.{both-line, fault-line, fault-parts, puts-shows, some-line}
pub use Rattle.vcd_job.proofs.OpenLemmas.{BegunSoFar, Opening, all_begun, counted, goes_on, nothing_begun, nothing_stops, still, still_low, stops, stops_full}
pub use Rattle.vcd_job.proofs.ProgramLemmas.{ends_alone, one_of, passes_alone, set_one}
pub use Rattle.vcd_job.proofs.RunLemmas.{end_low, failed_read, few_writes, has_run, most_one, no_memory, one_last, read_on, refused, shown_once, shows_nothing}
