-- What the trait of jobs cites, under one path.
pub use Rattle.vcd_job.specs.Cited.{Outcome, shown_message, HasNotFailed, chunk_len_of, SameLoans, source_of}
pub use Rattle.vcd_job.specs.Calls.{Answers, BodyEnds, speech}
pub use Rattle.vcd_job.specs.Failure.{CountsAt, CountsWrites, EndsAtRead, failure_of, HasPassedOn, writes_failed}
pub use Rattle.vcd_job.specs.Message.{Reports}
pub use Rattle.vcd_job.specs.Work.{Work}
