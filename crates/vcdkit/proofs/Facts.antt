-- The lemmas of this crate that its answers cite, under one path.
pub use Rattle.vcd_job.proofs.AfterLemmas.{ended_last, ended_passed, no_room}
pub use Rattle.vcd_job.proofs.OpenLemmas.{nothing_stops, still_low}
pub use Rattle.vcd_job.proofs.ProgramLemmas.{ends_alone, one_of, passes_alone, set_one}
pub use Rattle.vcd_job.proofs.RunLemmas.{few_writes, most_one, one_last, shown_once, shows_nothing}
pub use Rattle.vcdkit.proofs.EndLemmas.{counted_reads, counts_merge, lends_within, merge_ends, merged_run, part_is, parts_of, stopped}
pub use Rattle.vcdkit.proofs.RunLemmas.{done_well, failed_read, followed, list_last, list_passed, list_reads, list_writes, listed, merged_last, merged_passed, no_ticks, not_answered}
pub use Rattle.vcdkit.proofs.WithinLemmas.{run_within, short_texts}
pub use Rattle.vcdkit.proofs.WorkLemmas.{asked_for, ran_one}
