-- What the contracts of the job cite, under one path.
pub use Rattle.vcd_model.specs.Outcome.{program_line}
pub use Rattle.vcd_model.specs.Strobe.{no_clock_text}
pub use Rattle.vcd_text.specs.Advances.{HasNotFailed}
pub use Rattle.vcd_text.specs.Device.{PutsTo}
pub use Rattle.vcd_text.specs.Feed.{chunk_len_of, SameLoans, source_of}
pub use Rattle.vcd_job.specs.Calls.{Answers, BodyEnds}
pub use Rattle.vcd_job.specs.Failure.{CountsAt, CountsWrites, EndsAtRead, failure_of, HasPassedOn, writes_failed}
pub use Rattle.vcd_strobe.specs.Named.{model_why}
pub use Rattle.vcd_strobe_words.specs.Asked.{strobe_in}
pub use Rattle.vcdkit_strobe.specs.Bound.{IsLentWithin}
pub use Rattle.vcdkit_strobe.specs.Calls.{AreOfJob, ArePlacesOf, IsHeadMemory, IsRoomFor, IsRoomMemory, speech_in}
pub use Rattle.vcdkit_strobe.specs.Work.{edges_end, no_clock_line, no_edge, program_name, refusal_of, word_at, work_in}
