-- What the contracts of this crate cite, under one path.
pub use Rattle.vcdkit.specs.Cited.{Header, IsValid, HasNotFailed, chunk_len_of, limit_of, SameLoans, source_of, IsViewOf, asked, reads_failed, HasTicks, is_asked, is_merge, model_want, names_asked, AnyRoom, AreWithinBound, KeepsBound, room_size, Does, CountsReadsOf, CountsWrites, EndsAtReadOf, failure_of, HasPassedOn, merge_end, PassesOn, writes_failed, IsLentWithin}
pub use Rattle.vcd_model.specs.Job.{request_of, Want as ModelWant}
pub use Rattle.vcd_body.specs.Answer.{EndsAtRead as EndsAtStop, writes_failed as stop_writes}
pub use Rattle.vcd_body.specs.Prompt.{HasPassedOn as HasPassedOnAt}
pub use Rattle.vcd_engine.specs.Engine.{request_of as request_of_task}
pub use Rattle.vcdkit.specs.Calls.{AreReaders, AreWithin, EndsSo, FailOnce, MayFailOnce, Merges, Narrows, RunsJob}
pub use Rattle.vcdkit.specs.Tasks.{cut_request, IsEnough, request_for, task_request}
pub use Rattle.vcdkit.specs.Work.{program_name, refusal_of, work_of}
