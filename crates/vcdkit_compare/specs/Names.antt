-- What the contracts of the job cite, under one path.
pub use Rattle.vcd_model.specs.Compare.{count_line}
pub use Rattle.vcd_model.specs.Outcome.{program_line}
pub use Rattle.vcd_model.specs.Within.{late, outermost, refused}
pub use Rattle.vcd_text.specs.Advances.{HasNotFailed}
pub use Rattle.vcd_text.specs.Device.{PutsTo}
pub use Rattle.vcd_text.specs.Feed.{chunk_len_of, SameLoans, source_of}
pub use Rattle.vcd_job.specs.Calls.{Answers, BodyEnds}
pub use Rattle.vcd_job.specs.Failure.{CountsAt, CountsWrites, EndsAtRead, failure_of, HasPassedOn, writes_failed}
pub use Rattle.vcdkit_compare.specs.Bound.{IsLentWithin}
pub use Rattle.vcdkit_compare.specs.Calls.{AreOfJob, fault_end, Finishes, IsMemoryFor, IsRoomFor, speech_in}
pub use Rattle.vcdkit_compare.specs.Work.{name_of, names_of, program_name, query_of, refusal_of, work_in}
