-- What the proofs of this crate cite of std, of specs/ and of the crates below, under one path.
pub use Rattle.std.proofs.Common.{Bool, Err, List, None, Ok, Option, Result, Some, [], ap, append_assoc, ap₂, arith, codes, cond, decimal, false, flat_map, get_or, inl, inr, length, map, nat_lt, refl, rules, slice_get, slice_set, subst, suc, sym, take, true, zero, ℕ, ◌++◌, ◌+◌, ◌-◌, ◌/◌, ◌<◌, ◌==◌, ◌∙◌, ◌∷◌, ◌≡◌, ◌≢◌, ◌≤◌, ◌⊎◌}
pub use Rattle.std.proofs.Math.ListN.{get_or-map, length-set}
pub use Rattle.std.proofs.Math.Seq.{set-append_seam}
pub use Rattle.std.proofs.lemmas.Bool.Decides.{nat_tests}
pub use Rattle.std.proofs.lemmas.List.{append-nil, length-append, length-map, map-append}
pub use Rattle.std.proofs.lemmas.List.Elements.{All-push}
pub use Rattle.std.proofs.lemmas.List.Sums.{sum_by-append}
pub use Rattle.std.proofs.lemmas.Option.{get_or_from_slice_get, slice_get_within}
pub use Rattle.std.specs.Io.KnownBytes.{Keeps}
pub use Rattle.std.specs.Prelude.{All, IfSome, string_bytes, sum_by}
pub use Rattle.vcd_body.proofs.StoreLemmas.{get_other, get_set}
pub use Rattle.vcd_body.specs.Items.{AreRegsAfter}
pub use Rattle.vcd_body.specs.Pace.{is_more_due}
pub use Rattle.vcd_head.proofs.WriteLemmas.{texts-some}
pub use Rattle.vcd_head.specs.Reads.{FailsAtEnd, FailsAtToken, HasReadToShown}
pub use Rattle.vcd_head.specs.declared.fault.HeadFault.TheVariants.{EndOfInput, InputTooLong, ReadFailed, TokenTooLong}
pub use Rattle.std.specs.List.{AllZip}
pub use Rattle.std.specs.Prelude.{MatchResult, slice_index}
pub use Rattle.vcd_job.specs.Cited.{AreAllWindows, AtEnd, AtLast, Device, Dump, Ending, Fails, Fault, Feed, GaveParked, Ghosts, GivesHead, HasFault, HasGiven, HasNotFailed, Head, HeadFault, Header, HeaderPhrase, Input, IsGoing, IsLeft, IsPrefixOf, IsSeated, IsWhole, KeepsUp, Lane, Near, Opened, Outcome, Placed, Puts, Read, Reading, ReadsAsNeeded, SameLengths, Seat, Spot, Stop, Supply, Token, Unmatched, Views, Windows, Write, Writes, allowed_after, chunk_len_of, declarations_allowed, end_of_tokens, failures_then, fault_outcome, header_grammar, header_of, is_header_over, limit_of, name_at, part, part_len, phrases_of, program_line, reading_of, shown, shown_message, source_of, stream_of, supply, supply_of, token_of, whole, windows_size}
pub use Rattle.vcd_job.specs.Ends.{Ends, HasRun, IsAfter, IsOfWork, IsOutcome, Leaves, Speech, end_message, end_status, settled_for}
pub use Rattle.vcd_job.specs.Ends.HasRun.{NoMemory, WithOutcome}
pub use Rattle.vcd_job.specs.Ends.IsOutcome.{Part, Whole}
pub use Rattle.vcd_job.specs.Failure.{CountsRead, CountsReads, EndsAtRead, EndsAtReadOf, failure_of, head_failure}
pub use Rattle.vcd_job.specs.Inputs.{AreBegun, AreParked, AreShown, Begins, BeginsAt, HasFailed, HaveBegun, IsBegun, IsNew, SameParts, Stops, headers_in, place_of}
pub use Rattle.vcd_job.specs.Message.{Shows, Tells, failure_status}
pub use Rattle.vcd_job.specs.Work.{Work, due_at, due_by, due_of, fault_as, outcome_of, over_header, settled_at, settled_by, settled_of}
pub use Rattle.vcd_job.specs.declared.answer.Answer.{Answer}
pub use Rattle.vcd_job.specs.declared.failure.Failure.{Failure}
pub use Rattle.vcd_job.specs.declared.failure.Failure.TheVariants.{OutOfMemory, Stopped}
pub use Rattle.vcd_job.specs.declared.inputs.BegunInput.{BegunInput}
pub use Rattle.vcd_merge.proofs.MergeCounts.{map_set, set_last}
pub use Rattle.vcd_merge.proofs.MergeRoomLemmas.{merge_within}
pub use Rattle.vcd_merge.proofs.PartLemmas.{lent_len, part_other, part_put}
pub use Rattle.vcd_model.proofs.SoFarLemmas.{so_far-nothing, whole-more}
pub use Rattle.vcd_model.specs.BodyReading.{body_grammar}
pub use Rattle.vcd_model.specs.HeaderReading.{header_fault_of}
pub use Rattle.vcd_model.specs.Settled.{is_over}
pub use Rattle.vcd_model.specs.Tokens.{halt_place}
pub use Rattle.vcd_text.proofs.Writes.{appends-none, puts-first, puts-twice}
pub use Rattle.vcd_text.specs.Answer.{failed_after}
pub use Rattle.vcd_text.specs.Device.{Appends}
pub use Rattle.vcd_text.specs.Feed.{HasGivenParked, parked_answer, parked_of, seen}
pub use Rattle.vcd_text.specs.ReadAhead.ReadsAsNeeded.{Nothing, ToEnd, ToToken}
pub use Rattle.vcd_text.specs.Registers.{Fits}
pub use Rattle.vcd_text.specs.declared.device.WriteFailed.{WriteFailed}
pub use Rattle.vcd_text.specs.declared.registers.Parked.{Parked}
pub use Rattle.vcd_view.proofs.ListLemmas.{all_zip_push, there}
pub use Rattle.vcd_view.proofs.RowLemmas.{rows_len}
pub use Rattle.vcd_view.specs.Shown.{HeadShown}
