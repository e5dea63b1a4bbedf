-- What the proofs of this crate cite of std, of specs/ and of the crates below, under one path.
pub use Rattle.std.proofs.Common.{Bool, Err, IsTrue, List, None, Ok, Option, Result, Some, [], add-one, ap, append-nil, append_assoc, arith, bytes_eq, cond, drop, false, filter_map, find, fold, get_or, inl, inr, length, map, max, not, refl, replicate, rules, slice_get, subst, suc, sym, take, true, zero, zero-add, ℕ, ◌*◌, ◌++◌, ◌+◌, ◌-◌, ◌<◌, ◌==◌, ◌^◌, ◌∙◌, ◌∷◌, ◌≡◌, ◌≢◌, ◌≤◌, ◌⊎◌}
pub use Rattle.std.proofs.Math.Nat.{pow-succ'}
pub use Rattle.std.proofs.Math.Pow.{pow_mono}
pub use Rattle.std.proofs.lemmas.Bool.{lt-leb}
pub use Rattle.std.proofs.lemmas.Bool.Decides.{eqb_tells}
pub use Rattle.std.proofs.lemmas.Int.Digits.{number_after_append, number_lt, number_push}
pub use Rattle.std.proofs.lemmas.List.{length-map, length-replicate, length-take-le, map-append, replicate_more, take_all, take_more}
pub use Rattle.std.proofs.lemmas.List.Elements.{filter_map-append}
pub use Rattle.std.proofs.lemmas.Nat.{pow-add}
pub use Rattle.std.proofs.lemmas.Result.{err_from_is_err_and}
pub use Rattle.std.proofs.lemmas.Slice.Eq.{bytes_eq-Decides}
pub use Rattle.std.specs.Int.Digits.{AllBelowBase, number_from_digits, number_from_digits_after}
pub use Rattle.std.specs.Prelude.{slice_index, unwrap_or}
pub use Rattle.std.specs.Str.{byte}
pub use Rattle.vcd_body.proofs.CallerLemmas.{gave_none_ahead, gave_nothing}
pub use Rattle.vcd_body.specs.Ahead.{GaveAhead, LooksOver, PassesNoItem}
pub use Rattle.vcd_body.specs.Fault.{call_end, fault_number}
pub use Rattle.vcd_body.specs.Given.{GivesItem, IsItem, item_text, text_of}
pub use Rattle.vcd_body.specs.Items.{AreRegsAfter, model_form, model_section, regs_after}
pub use Rattle.vcd_body.specs.Reads.{BodyHas, Fails, GaveItems}
pub use Rattle.vcd_body.specs.Taken.{IsSection}
pub use Rattle.vcd_body.specs.Walk.{Begins, Further, Past, Trail, Walks, stage_at}
pub use Rattle.vcd_body.specs.declared.fault.BodyFault.{BodyFault}
pub use Rattle.vcd_body.specs.declared.fault.BodyFault.TheVariants.{BadTime, BadValue, EndOfInput, InputTooLong, OutOfPlace, ReadFailed, RealTooLong, TimeBack, TimeInSection, TokenTooLong, TooWide, UnknownCode, UnknownCommand}
pub use Rattle.vcd_body.specs.declared.item.Form.{Form}
pub use Rattle.vcd_body.specs.declared.item.Item.{Item}
pub use Rattle.vcd_body.specs.declared.item.Item.TheVariants.{Begin, End, Finish, Time}
pub use Rattle.vcd_body.specs.declared.item.Regs.{Regs}
pub use Rattle.vcd_body.specs.declared.item.Section.{Section}
pub use Rattle.vcd_body.specs.declared.item.Section.TheVariants.{All, Off, On, Vars}
pub use Rattle.vcd_body.specs.declared.walk.WalkEnd.{WalkEnd}
pub use Rattle.vcd_body.specs.declared.walk.WalkEnd.TheVariants.{AtItem, AtLines, Over}
pub use Rattle.vcd_changes.specs.Digits.{digits_in, is_known, is_one, number_where}
pub use Rattle.vcd_changes.specs.Reading.{EndsAt, Finds, FindsUnder, GoesOnUnder, HasCodes, IsAfter, IsLimitEnough, place_of, regs_of, section_at, section_number, status_of}
pub use Rattle.vcd_changes.specs.Rows.{EndsSo, GaveRows, row_added, row_in, row_of, rows_of}
pub use Rattle.vcd_changes.specs.Walk.{Added, Came, HasRoom, RowStage, SameRows, TakesRow, filled, is_full, passed_at, passed_with, rows_at}
pub use Rattle.vcd_changes.specs.declared.digits.Digits.{Digits}
pub use Rattle.vcd_changes.specs.declared.reading.Place.{Place}
pub use Rattle.vcd_changes.specs.declared.reading.Reading.{Reading}
pub use Rattle.vcd_changes.specs.declared.row.ChangeRow.{ChangeRow}
pub use Rattle.vcd_changes.specs.declared.rows.Filled.{Filled}
pub use Rattle.vcd_changes.specs.declared.walk.Collecting.{Collecting}
pub use Rattle.vcd_changes.specs.declared.walk.Rows.{Rows}
pub use Rattle.vcd_head.specs.Reads.{GivesHead, HasFault}
pub use Rattle.vcd_head.specs.Views.{Views}
pub use Rattle.vcd_head.specs.declared.fault.HeadFault.{HeadFault}
pub use Rattle.vcd_head.specs.declared.fault.HeadFault.TheVariants.{OutOfMemory}
pub use Rattle.vcd_head.specs.declared.head.Head.{Head}
pub use Rattle.vcd_model.proofs.BodyGrammar.{body_reading_is_unique}
pub use Rattle.vcd_model.proofs.Growing.{entries-append}
pub use Rattle.vcd_model.proofs.HeaderGrammar.{header_reading_is_unique}
pub use Rattle.vcd_model.proofs.SoFarLemmas.{whole-more}
pub use Rattle.vcd_model.specs.BodyPhrases.{BodyPhrase}
pub use Rattle.vcd_model.specs.BodyReading.{body_fault_of, body_grammar, body_items, read_body}
pub use Rattle.vcd_model.specs.Bytes.{is_white_space}
pub use Rattle.vcd_model.specs.Declarations.{IdCode, has_text}
pub use Rattle.vcd_model.specs.Header.{Header, header_of}
pub use Rattle.vcd_model.specs.HeaderPhrases.{HeaderPhrase}
pub use Rattle.vcd_model.specs.HeaderReading.{header_fault_of, header_grammar, read_header}
pub use Rattle.vcd_model.specs.Input.{Clean, Failed, Input}
pub use Rattle.vcd_model.specs.Items.{BodyItem, Change, Entry, entries, entry_after, marks, time_after, time_mark}
pub use Rattle.vcd_model.specs.Laws.{IsPrefixOf}
pub use Rattle.vcd_model.specs.Reading.{Ending, Fault, Grammar, IsReading, Placed, missing, phrases_of, reading_of}
pub use Rattle.vcd_model.specs.Reading.Ending.{AtEnd, AtFault, AtLast}
pub use Rattle.vcd_model.specs.SoFar.{IsWhole}
pub use Rattle.vcd_model.specs.Tokens.{Stream, Token, stream_of}
pub use Rattle.vcd_model.specs.Values.{extend, extension}
pub use Rattle.vcd_text.proofs.AdvancesLemmas.{advances_nowhere, advances_on}
pub use Rattle.vcd_text.proofs.Known.{parked-stands}
pub use Rattle.vcd_text.proofs.Steps.{before_or_from, live-end, live-first, live-others, live-whites, token_to}
pub use Rattle.vcd_text.proofs.Streams.{clean-stream, given-first, long-stream, much-stream}
pub use Rattle.vcd_text.specs.Advances.{Advances, CallEnd, HasNotFailed}
pub use Rattle.vcd_text.specs.Ahead.{ahead_of, bytes_of, lines_of, longest_of, passed_of}
pub use Rattle.vcd_text.specs.Answer.{Ends, whole}
pub use Rattle.vcd_text.specs.Feed.{HasGiven, HasGivenTo, chunk_len_of, limit_of, seen, token_of}
pub use Rattle.vcd_text.specs.Given.{HasGivenAt, InPhase}
pub use Rattle.vcd_text.specs.LookedAt.{HasLookedAt}
pub use Rattle.vcd_text.specs.Passed.{Passed}
pub use Rattle.vcd_text.specs.Registers.{IsOffset, phase_at, registers_at, settled}
pub use Rattle.vcd_text.specs.declared.ahead.Ahead.{Ahead}
pub use Rattle.vcd_text.specs.declared.device.Source.{Ghosts}
pub use Rattle.vcd_text.specs.declared.device.WriteFailed.{WriteFailed}
pub use Rattle.vcd_text.specs.declared.feed.Feed.{Feed}
pub use Rattle.vcd_text.specs.declared.offset.Offset.{Offset}
pub use Rattle.vcd_text.specs.declared.registers.Parked.{Parked}
pub use Rattle.vcd_text.specs.declared.registers.Phase.{Phase}
pub use Rattle.vcd_text.specs.declared.registers.Phase.TheVariants.{Ended, Going, Halted}
pub use Rattle.vcd_view.proofs.ListLemmas.{same_bytes}
pub use Rattle.vcd_view.proofs.LookUpLemmas.{same_place}
pub use Rattle.vcd_view.specs.Shown.{HeadShown}
pub use Rattle.vcd_view.specs.Views.{IsIndex, IsViewOf}
pub use Rattle.vcd_view.specs.declared.view.HeadView.{HeadView}
