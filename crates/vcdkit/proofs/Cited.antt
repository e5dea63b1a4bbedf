-- What the proofs of this crate cite of std, of specs/ and of the crates below, under one path.
pub use Rattle.std.proofs.Common.{add-zero, drop, filter, filter_map, is_ok, not, set, ◌&&◌, ◌*◌}
pub use Rattle.std.proofs.Math.Nat.{mul-div_cancel_left}
pub use Rattle.std.proofs.lemmas.List.{length-drop, length-take, length_push, set-get_or}
pub use Rattle.std.proofs.lemmas.Nat.{mul-le}
pub use Rattle.std.specs.List.{AllByRecursion, list_all, list_any, position_or_len, reduce}
pub use Rattle.std.specs.Prelude.{IfErr, IfOk, option_map, ℤ}
pub use Rattle.vcd_body.specs.Answer.{NamesInput, writes_failed}
pub use Rattle.vcd_engine.proofs.RoomLemmas.{no_room_in_each, no_room_within, still_within}
pub use Rattle.vcd_engine.specs.TaskRun.{Belongs, Follows, IsRefused, is_early}
pub use Rattle.vcd_head.proofs.IndexLemmas.{map_map}
pub use Rattle.vcd_job.proofs.Cited.{AreBegun, AreParked, AreShown, AtEnd, AtLast, Bool, CountsRead, CountsReads, Device, Dump, Ending, Ends, EndsAtRead, EndsAtReadOf, Err, Fault, Feed, Ghosts, HasFault, HasGiven, HaveBegun, Head, Header, HeaderPhrase, IfSome, Input, IsAfter, IsBegun, IsLeft, IsOutcome, IsPrefixOf, IsWhole, KeepsUp, Lane, Leaves, List, MatchResult, Near, None, Nothing, Ok, Opened, Option, Outcome, Part, Placed, Read, Reading, ReadsAsNeeded, Result, Seat, Some, Stop, Stops, Supply, Tells, ToEnd, ToToken, Token, Unmatched, Whole, Windows, Write, Writes, [], allowed_after, ap, append_assoc, appends-none, ap₂, arith, codes, cond, declarations_allowed, due_by, end_status, failure_of, failure_status, failures_then, false, fault_outcome, get_or, halt_place, header_fault_of, header_grammar, header_of, headers_in, inl, inr, is_header_over, is_more_due, is_over, length, length-append, length-map, limit_of, map, name_at, nat_lt, nat_tests, over_header, part_len, phrases_of, reading_of, refl, rules, settled_by, settled_for, slice_get, slice_set, stream_of, string_bytes, subst, suc, supply, sym, take, true, whole, whole-more, windows_size, zero, ℕ, ◌++◌, ◌+◌, ◌/◌, ◌<◌, ◌==◌, ◌∙◌, ◌∷◌, ◌≡◌, ◌≢◌, ◌≤◌, ◌⊎◌}
pub use Rattle.vcd_job.specs.Inputs.{IsWhy}
pub use Rattle.vcd_job.specs.Lent.{AreLentWithin}
pub use Rattle.vcd_job.specs.Message.{failure_message}
pub use Rattle.vcd_job.specs.declared.answer.Answer.TheVariants.{Refused}
pub use Rattle.vcd_merge.proofs.PartLemmas.{parts_same}
pub use Rattle.vcd_merge.specs.MergeParts.{AreParts}
pub use Rattle.vcd_merge.specs.MergeRoom.{MergeIsWithinBound}
pub use Rattle.vcd_merge.specs.MergeRun.{AreLeft, AreOpened, HasEnded, ReadOnTurn, known_first, known_whole}
pub use Rattle.vcd_merge.specs.MergeRun.AreReadOnTurn.{OnTurn, Unread}
pub use Rattle.vcd_merge.specs.MergeStep.{failures_with}
pub use Rattle.vcd_merge.specs.Seat.{HasDump}
pub use Rattle.vcd_model.proofs.JobLemmas.{rises_at}
pub use Rattle.vcd_model.specs.BodyReading.{body_fault_of, body_items, read_body}
pub use Rattle.vcd_model.specs.Bytes.{is_white_space}
pub use Rattle.vcd_model.specs.Due.{due_after, due_at, due_of_request}
pub use Rattle.vcd_model.specs.Items.{BodyItem}
pub use Rattle.vcd_model.specs.Job.{Want, over_opened, refusal_outcome, request_of}
pub use Rattle.vcd_model.specs.Merge.{dump_of, factor}
pub use Rattle.vcd_model.specs.Outcome.{dumps_of, ends_early, merge_outcome, open_from, over_dumps, with_opened}
pub use Rattle.vcd_model.specs.Settled.{is_settled_at, is_settled_behind, is_settled_by}
pub use Rattle.vcd_model.specs.SettledMerge.{headers_seen, seen_at, seen_before, settles_merge, tokens_seen, whole_of}
pub use Rattle.vcd_model.specs.SettledMerge.SeenHeaders.{NotWhole}
pub use Rattle.vcd_model.specs.Ticks.{moment_ticks}
pub use Rattle.vcd_model.specs.Tokens.{HaltPlace, Stream, comes_before, earlier_halt, end_at, failed_read, run_at, stream_until, token_places, too_long_tokens, too_much_input}
pub use Rattle.vcd_text.specs.Device.{Counts, Takes}
pub use Rattle.vcd_view.proofs.ListLemmas.{all_weaker, from_all}
pub use Rattle.vcd_words.proofs.PeriodLemmas.{above, from_refused, in_order, ordered, to_refused}
pub use Rattle.vcd_words.proofs.SampleLemmas.{asked_pairs, asked_rises, asked_some, plain_request}
pub use Rattle.vcd_words.specs.Refusal.{tick_refusal}
pub use Rattle.vcd_words.specs.Ticks.{has_units, times_with}
pub use Rattle.vcd_words.specs.declared.job.Want.TheVariants.{Sample}
pub use Rattle.vcdkit.specs.Calls.{AreWithin, IsLimitFor, Narrows, supplies}
pub use Rattle.vcdkit.specs.Cited.{Answer, Answers, AreReadOnTurn, CountsReadsOf, Done, Failure, HasPassedOn, Job, OutOfMemory, Refusal, Request, Seen, Status, Stopped, Task, asked, due, is_asked, is_merge, is_settled, is_settled_merge, list_text, merge_end, model_refusal, model_want, names_asked, names_of, read_header, reads_failed}
pub use Rattle.vcdkit.specs.Run.{AreInTurn, AreMergedInTurn, AreNeeded, AreRead, EndsAll, HasRun, LeavesAll, OneKeepsUp, header_behind, known, settles_among}
pub use Rattle.vcdkit.specs.Run.AreMergedInTurn.{InBodies, InHeaders}
pub use Rattle.vcdkit.specs.Run.HasRun.{NoMemory, WithOutcome}
pub use Rattle.vcdkit.specs.Tasks.{request_for, task_request, taskless}
pub use Rattle.vcdkit.specs.Work.{course_by, course_if, course_of, program_name, refusal_of, work_of}
