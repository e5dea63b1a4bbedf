-- What the contracts of this crate cite, under one path.
pub use Rattle.vcd_job.specs.Cited.{name_at, program_line, shown_message, HasNotFailed, MayLend, Puts, PutsTo, chunk_len_of, limit_of, SameLoans, source_of, Write, SameLengths}
pub use Rattle.vcd_job.specs.Calls.{Answers, InputEnds, MayFailOnce}
pub use Rattle.vcd_job.specs.Ends.{answer_end}
pub use Rattle.vcd_job.specs.Failure.{CountsAt, CountsReadsOf, CountsWrites, EndsAtRead, EndsAtReadOf, failure_of, HasPassedOn, head_failure, stop_failure, writes_failed}
pub use Rattle.vcd_job.specs.Inputs.{AddsBegun, BeginsAmong, BeginsBy, HasParts, IsNewIn, IsNewOver, OpensAll, OpensInput, SameParts}
pub use Rattle.vcd_job.specs.Lent.{AreLentWithin}
pub use Rattle.vcd_job.specs.Message.{failure_message, failure_status, Reports, stop_message, stop_status, unopened_outcome, use_outcome}
pub use Rattle.vcd_job.specs.OneRun.{EndsSo, FailOnce, PassesOn, RunsWork, speech_of}
pub use Rattle.vcd_job.specs.declared.failure.Failure.TheVariants.{OutOfMemory}
