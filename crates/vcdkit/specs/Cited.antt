-- What the definitions of this crate cite of the crates below, under one path.
pub use Rattle.vcd_job.specs.Cited.{Device, Done, Dump, Ghosts, HasNotFailed, HeadView, Header, Input, IsLeft, IsViewOf, KeepsUp, Lane, Outcome, Read, ReadsAsNeeded, SameLoans, Stop, Supply, Token, Ways, Write, Writes, WritesSome, allowed_after, chunk_len_of, declarations_allowed, fault_outcome, header_of, is_header_over, limit_of, name_at, phrases_of, source_of, stream_of, supply, whole}
pub use Rattle.vcd_body.specs.Answer.{reads_failed}
pub use Rattle.vcd_engine.specs.Plan.{plan_of}
pub use Rattle.vcd_engine.specs.Room.{AnyRoom, AreWithinBound, HasRoomFor, KeepsBound, room_size}
pub use Rattle.vcd_engine.specs.TaskRun.{Does}
pub use Rattle.vcd_engine.specs.declared.task.Room.{Room}
pub use Rattle.vcd_engine.specs.declared.task.Task.{Task}
pub use Rattle.vcd_head.specs.Moments.{asked}
pub use Rattle.vcd_job.specs.Calls.{Answers, MayFailOnce}
pub use Rattle.vcd_job.specs.Ends.{IsOutcome, Speech, end_message, end_status, settled_for}
pub use Rattle.vcd_job.specs.Failure.{CountsReadsOf, CountsWrites, EndsAtReadOf, HasPassedOn, PassesOn, failure_of, merge_end, stop_failure, writes_failed}
pub use Rattle.vcd_job.specs.Inputs.{AreBegun, Stops, headers_in}
pub use Rattle.vcd_job.specs.Lent.{IsLentWithin}
pub use Rattle.vcd_job.specs.Message.{Tells}
pub use Rattle.vcd_job.specs.OneRun.{FailOnce}
pub use Rattle.vcd_job.specs.Work.{Course, Work}
pub use Rattle.vcd_job.specs.declared.answer.Answer.{Answer}
pub use Rattle.vcd_job.specs.declared.answer.Answer.TheVariants.{Status}
pub use Rattle.vcd_job.specs.declared.failure.Failure.{Failure}
pub use Rattle.vcd_job.specs.declared.failure.Failure.TheVariants.{OutOfMemory, Stopped}
pub use Rattle.vcd_merge.specs.MergeRun.{AreReadOnTurn}
pub use Rattle.vcd_model.specs.CheckAndList.{list_text}
pub use Rattle.vcd_model.specs.Due.{due}
pub use Rattle.vcd_model.specs.HeaderReading.{read_header}
pub use Rattle.vcd_model.specs.Laws.{IsValid}
pub use Rattle.vcd_model.specs.Outcome.{Request, clean_outcome, names_of, unmatched_outcome}
pub use Rattle.vcd_model.specs.Selection.{first_unmatched}
pub use Rattle.vcd_model.specs.Settled.{is_settled}
pub use Rattle.vcd_model.specs.SettledMerge.{Seen, is_settled_merge}
pub use Rattle.vcd_words.specs.Job.{HasTicks, is_asked, is_merge, model_want, names_asked}
pub use Rattle.vcd_words.specs.Refusal.{model_refusal}
pub use Rattle.vcd_words.specs.declared.job.Job.{Job}
pub use Rattle.vcd_words.specs.declared.job.Want.{Want}
pub use Rattle.vcd_words.specs.declared.refusal.Refusal.{Refusal}
