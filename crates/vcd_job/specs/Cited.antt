-- What the definitions of this crate cite of the crates below, under one path.
pub use Rattle.vcd_body.specs.Answer.{IsLeft}
pub use Rattle.vcd_body.specs.Pace.{KeepsUp}
pub use Rattle.vcd_body.specs.declared.answer.Done.{Done}
pub use Rattle.vcd_body.specs.declared.answer.Stop.{Stop}
pub use Rattle.vcd_body.specs.declared.answer.Stop.TheVariants.{Dump, Read, Unmatched, Write}
pub use Rattle.vcd_head.specs.Fault.{fault_number}
pub use Rattle.vcd_head.specs.Merged.{ShowHeaders}
pub use Rattle.vcd_head.specs.Reads.{Fails, GivesHead, HasFault, IsGoing}
pub use Rattle.vcd_head.specs.Shown.{shown}
pub use Rattle.vcd_head.specs.declared.fault.HeadFault.{HeadFault}
pub use Rattle.vcd_head.specs.declared.head.Head.{Head}
pub use Rattle.vcd_merge.specs.MergeParts.{AreParts, SameLengths, part, part_len, spot_of}
pub use Rattle.vcd_merge.specs.MergeRoom.{kept_in, windows_size}
pub use Rattle.vcd_merge.specs.Seat.{GaveParked, IsSeated, Lane, Spot}
pub use Rattle.vcd_merge.specs.declared.seat.Seat.{Seat}
pub use Rattle.vcd_merge.specs.declared.windows.Windows.{Windows}
pub use Rattle.vcd_model.specs.Bound.{AreAllWindows, FitsBound, FitsInput, RoomSize, no_room}
pub use Rattle.vcd_model.specs.Header.{Header, header_of}
pub use Rattle.vcd_model.specs.HeaderPhrases.{HeaderPhrase}
pub use Rattle.vcd_model.specs.HeaderReading.{header_grammar}
pub use Rattle.vcd_model.specs.Input.{Input}
pub use Rattle.vcd_model.specs.Laws.{IsPrefixOf}
pub use Rattle.vcd_model.specs.Outcome.{Opened, Outcome, allowed_after, declarations_allowed, fault_in, fault_outcome, fault_text, items_in, name_at, open_from, program_line, shown_message}
pub use Rattle.vcd_model.specs.Reading.{Ending, Fault, Placed, Reading, phrases_of, reading_of}
pub use Rattle.vcd_model.specs.Reading.Ending.{AtEnd, AtFault, AtLast}
pub use Rattle.vcd_model.specs.Settled.{is_header_over}
pub use Rattle.vcd_model.specs.SoFar.{IsWhole}
pub use Rattle.vcd_model.specs.Tokens.{Token, end_of_tokens, stream_of}
pub use Rattle.vcd_run.specs.Outcomes.{Ways, over_plan}
pub use Rattle.vcd_run.specs.Plan.{Plan, due_with, is_settled_with}
pub use Rattle.vcd_text.specs.Advances.{HasNotFailed}
pub use Rattle.vcd_text.specs.Answer.{whole}
pub use Rattle.vcd_text.specs.Calls.{MayLend}
pub use Rattle.vcd_text.specs.Device.{Device, Puts, PutsTo, Supply, Writes, WritesSome, failures_then, supply}
pub use Rattle.vcd_text.specs.Feed.{HasGiven, SameLoans, chunk_len_of, limit_of, source_of, supply_of, token_of}
pub use Rattle.vcd_text.specs.ReadAhead.{Near, ReadsAsNeeded}
pub use Rattle.vcd_text.specs.declared.device.Source.{Ghosts}
pub use Rattle.vcd_text.specs.declared.feed.Feed.{Feed}
pub use Rattle.vcd_view.specs.Needs.{view_size}
pub use Rattle.vcd_view.specs.Shown.{parts}
pub use Rattle.vcd_view.specs.Views.{IsViewOf, Views}
pub use Rattle.vcd_view.specs.declared.view.HeadView.{HeadView}
pub use Rattle.vcd_words.specs.Words.{use_text}
pub use Rattle.vcd_words.specs.declared.job.UseFault.{UseFault}
