-- What the proofs of this crate cite of std, of specs/ and of the crates below, under one path.
pub use Rattle.std.proofs.Common.{Bool, Err, Fits, IfOk, IfSome, List, None, Ok, Option, Result, Some, T, [], add-one, ap, append-nil, append_assoc, ap₂, arith, cond, count_by, decimal, drop, false, filter_map, fold, get_or, inl, inr, is_some, length, ltb, ltb→lt, map, max, min, nat_le, nat_lt, not, refl, replicate, rules, slice_get, slice_set, subst, suc, sym, take, take-append-drop, true, w64, w8, zero, ℕ, ◌%◌, ◌&&◌, ◌*◌, ◌++◌, ◌+◌, ◌-◌, ◌/◌, ◌<◌, ◌==◌, ◌^◌, ◌||◌, ◌∙◌, ◌∷◌, ◌≡◌, ◌≢◌, ◌≤◌, ◌⊎◌}
pub use Rattle.std.proofs.Math.ListN.{length-set}
pub use Rattle.std.proofs.Math.Nat.{div-div-eq-div-mul, div-eq_of_lt, div-lt_iff_lt-mul, div-one, lt-div-mul-add, mod-eq_of_lt, pow-le-pow_right, zero-mul}
pub use Rattle.std.proofs.Math.Seq.{drop-cons, take-append_seam, take-length, take-suc}
pub use Rattle.std.proofs.lemmas.Bool.{agree_below, agree_below_at, and_from, and_parts, and_right, cases_lt, eq-eqb, eqb-false, eqb-true, false≢true, le-leb, le-ltb, leb-true, lt-leb, lt-ltb, ltb-true, ne_eqb}
pub use Rattle.std.proofs.lemmas.Bool.Decides.{Decides-eqb, nat_tests, same_from_decides}
pub use Rattle.std.proofs.lemmas.Fmt.{decimal-digits_value, length-decimal-le}
pub use Rattle.std.proofs.lemmas.Grind.{div_ceil_times, same_number_lists}
pub use Rattle.std.proofs.lemmas.List.{drop-append-le, drop-drop, drop-map, drop-take, ext_get_or, get_or-drop, get_or-map, get_or-replicate, get_or-take, get_or_append_left, length-append, length-drop, length-map, length-replicate, length-take, length-take-le, map-append, take-append-le, take-take, take_all, take_at}
pub use Rattle.std.proofs.lemmas.List.Elements.{filter_map-append}
pub use Rattle.std.proofs.lemmas.List.FromFn.{get_or-map-range_with_len, length-map-range_with_len}
pub use Rattle.std.proofs.lemmas.List.Sums.{sum_by-append, sum_by-cons, sum_by_more, sum_by_more_le}
pub use Rattle.std.proofs.lemmas.Nat.{mod-pow-add, mod_below, pow-add, pow_below, pow_pos}
pub use Rattle.std.proofs.lemmas.Nat.Bits.{bit_at-trailing_zeros, bit_at-zero, bit_at_and, bit_at_ones}
pub use Rattle.std.proofs.lemmas.Option.{cond_some, get_or_from_slice_get, same_Some, slice_get-get_or, slice_get-map, slice_get_past, slice_get_within, unwrap_or-slice_get}
pub use Rattle.std.proofs.lemmas.Result.{err_from_is_err_and}
pub use Rattle.std.proofs.lemmas.Simd.{Each1-get_or, SwzOk, SwzOk-from_below, bit_mask_l, bitmask_splat, chunk-fits, get_or-chunk, get_or-put_chunk_at, get_or-put_chunk_below, get_or-zip2, length-chunk, length-zip2, mask_l-lt, mask_l-mod, splat_is_map, swz_l, tops_compared, zip2_of_maps, zip2_splat}
pub use Rattle.std.proofs.lemmas.Slice.{between-put_mid, drop-put_mid, take-put_mid_below}
pub use Rattle.std.proofs.lemmas.Slice.Eq.{bytes_eq-Decides}
pub use Rattle.std.proofs.lemmas.Str.Parse.{IsNumeralModel, numerals_by_weight}
pub use Rattle.std.specs.Bool.{Decides}
pub use Rattle.std.specs.Borrow.{Bor}
pub use Rattle.std.specs.Char.{is_ascii_digit, to_ascii_lowercase}
pub use Rattle.std.specs.Int.{bit_at}
pub use Rattle.std.specs.Io.KnownBytes.{Appends}
pub use Rattle.std.specs.List.{AllZip, IsFirstAndRest, last_or, list_all, list_any}
pub use Rattle.std.specs.Option.{option_eq}
pub use Rattle.std.specs.Prelude.{IsTrue, MatchBool, bit_and, option_and_then, option_map, slice_index, slice_range, sum_by, unwrap_or}
pub use Rattle.std.specs.Result.{result_and, result_ok}
pub use Rattle.std.specs.Str.{byte, bytes_eq, str_to_ascii_lowercase}
pub use Rattle.vcd_body.specs.Ahead.{AreWords, EndsAhead, GaveAhead, GaveLast, HasBits, IsPlain, IsSizedItem, LooksOver, PassBoth, PassesNoItem, PassesWords, ReadsOn, texts_of}
pub use Rattle.vcd_body.specs.Asked.{HaveJust}
pub use Rattle.vcd_body.specs.Binary.{binary_digits, bit_of, count_in, is_proper, number_in}
pub use Rattle.vcd_body.specs.Calls.{NeedsOneToken}
pub use Rattle.vcd_body.specs.Changes.{AreBinary, AreBinaryIf, IsBinaryAt, IsDigitAt, Serves, line_under}
pub use Rattle.vcd_body.specs.Contents.{ChangesCode, GivesValue, IsLaidOut, KeepsTable, SetsCode, codes_shown, held_at, kept_at, line_of, new_at, shown_as, shown_code, value_in}
pub use Rattle.vcd_body.specs.Counters.{counts_of}
pub use Rattle.vcd_body.specs.Current.{AreHeld, HasShares, table_bytes}
pub use Rattle.vcd_body.specs.Fault.{fault_number}
pub use Rattle.vcd_body.specs.Given.{HasGoodText, IsGoodText, IsItem, IsText}
pub use Rattle.vcd_body.specs.Held.{digits_of, held_in}
pub use Rattle.vcd_body.specs.Id.{id_text}
pub use Rattle.vcd_body.specs.Items.{AreRegsAfter, RefusesTimestamp, model_form, model_section, regs_after}
pub use Rattle.vcd_body.specs.Kept.{Held, IsStep, Kept, as_chosen, bytes_for, counts_if, counts_with, differs, digit_in, fits, goes_from, held_as, last_digit_in, one_more, real_text, room_for, unset, value_at_size, with_change, with_counted, with_held, with_number, with_number_change, with_step, with_text}
pub use Rattle.vcd_body.specs.Lines.{LeavesText, MayBe}
pub use Rattle.vcd_body.specs.Packed.{HasFour, digit_of, digits_in, held_digit, packed_byte, quarter_of, shifted, two_bits_at, two_bits_of, two_bits_or}
pub use Rattle.vcd_body.specs.Reads.{Begun, BodyHas, Fails, FailsOver, GaveAll, GaveItem, GaveItems, Looks, OpensPhrase, Passes, Reads, ReadsAll, ReadsPhrase, Refuses, StopsAt}
pub use Rattle.vcd_body.specs.Reads.StopsAt.{AtEnd, AtToken}
pub use Rattle.vcd_body.specs.Spelled.{HasChange, HasPlaces, HasTimestamp, HasToken, IsSpelledAs, Names, bytes_without, line_without}
pub use Rattle.vcd_body.specs.Steps.{counts_after, with_steps}
pub use Rattle.vcd_body.specs.Stored.{AreLaidOut, ChangesAt, IsHeldAs, IsLaid, IsUnset, Whole, digits_held, digits_with, end_at, held_by, held_from, held_line, held_of, held_with, holding_of, kept_in, kept_with, len_in, len_of, tag_of, one_digit, room_of, set_whole, share_from, share_of, some_by, start_or, state_in, text_bytes, used, used_by, whole, whole_at}
pub use Rattle.vcd_body.specs.Taken.{IsFoundScalar, IsSection, IsSectionAt, Opens, TakesItem}
pub use Rattle.vcd_body.specs.Values.{form_in, with_value, with_value_change}
pub use Rattle.vcd_body.specs.Walk.{Further, HasCome, Past, Stage, TakesOne, Trail, Walks, as_done, over_of, stage_at}
pub use Rattle.vcd_body.specs.Whole.{AreWhole, HoldsItem, IsAlone}
pub use Rattle.vcd_body.specs.Words.{Begins, BeginsOther, InClear, IsScalar, StandsFor, command_is, is_comment, is_either, is_of_header}
pub use Rattle.vcd_body.specs.contracts.values.slot.State.{the_type}
pub use Rattle.vcd_body.specs.declared.ahead.Opening.{Opening}
pub use Rattle.vcd_body.specs.declared.ahead.ScannedItem.{ScannedItem}
pub use Rattle.vcd_body.specs.declared.values.bits.Bits.{Bits}
pub use Rattle.vcd_body.specs.declared.fault.BodyFault.{BodyFault}
pub use Rattle.vcd_body.specs.declared.item.Form.{Form}
pub use Rattle.vcd_body.specs.declared.item.Form.TheVariants.{RealText, Vector}
pub use Rattle.vcd_body.specs.declared.item.Item.{Item}
pub use Rattle.vcd_body.specs.declared.item.Item.TheVariants.{Begin, Change, End, Finish, Time}
pub use Rattle.vcd_body.specs.declared.item.Regs.{Regs}
pub use Rattle.vcd_body.specs.declared.item.Section.{Section}
pub use Rattle.vcd_body.specs.declared.values.packed.TheConstants.{TWO_BITS}
pub use Rattle.vcd_body.specs.declared.values.slot.Holding.{Holding}
pub use Rattle.vcd_body.specs.declared.values.slot.Share.{Share}
pub use Rattle.vcd_body.specs.declared.values.slot.Slot.{Slot}
pub use Rattle.vcd_body.specs.declared.values.slot.State.{State}
pub use Rattle.vcd_body.specs.declared.values.slot.TheConstants.{NUMBERS}
pub use Rattle.vcd_body.specs.declared.values.step.Step.{Step}
pub use Rattle.vcd_body.specs.declared.values.table.Table.{Table}
pub use Rattle.vcd_body.specs.declared.walk.WalkEnd.{WalkEnd}
pub use Rattle.vcd_body.specs.declared.walk.WalkEnd.TheVariants.{AtItem, AtLines, Over}
pub use Rattle.vcd_body.specs.declared.words.PhraseKind.{PhraseKind}
pub use Rattle.vcd_body.specs.declared.words.PhraseKind.TheVariants.{Bit, Other, Real, Scalar, Timestamp}
pub use Rattle.vcd_model.proofs.BodyGrammar.{any_of, start_of-digit, start_of-digits, start_of-keyword, start_of-mark, start_of-number}
pub use Rattle.vcd_model.proofs.FinalValues.{final_new, final_other}
pub use Rattle.vcd_model.proofs.HeaderGrammar.{find_passes, keyword_is}
pub use Rattle.vcd_model.proofs.ShortLemmas.{short_is_shortest}
pub use Rattle.vcd_model.proofs.SoFarLemmas.{earlier-so_far, faulty-token, so_far-nothing, so_far-phrase, so_far-token, without-last}
pub use Rattle.vcd_model.proofs.Times.{fold-append}
pub use Rattle.vcd_model.specs.BodyChecks.{body_fault, command_checks, inner_checks, start_checks}
pub use Rattle.vcd_model.specs.BodyPhrases.{BodyPhrase, Start, body_phrase, declared_code, is_value_digit, items_of, phrase_with, section_keyword}
pub use Rattle.vcd_model.specs.BodyPhrases.Start.{Command, Digit, Digits, Mark, Number}
pub use Rattle.vcd_model.specs.BodyReading.{body_fault_of, body_grammar, body_items}
pub use Rattle.vcd_model.specs.Bound.{value_room}
pub use Rattle.vcd_model.specs.Bytes.{decimal_value, is_decimal, is_empty, is_white_space}
pub use Rattle.vcd_model.specs.Checks.{first_failed}
pub use Rattle.vcd_model.specs.Cut.{line_if_set}
pub use Rattle.vcd_model.specs.Declarations.{IdCode, has_text, same_code}
pub use Rattle.vcd_model.specs.HeadText.{base94, new_code}
pub use Rattle.vcd_model.specs.Header.{Header}
pub use Rattle.vcd_model.specs.History.{final_value, gives_to}
pub use Rattle.vcd_model.specs.Input.{Input}
pub use Rattle.vcd_model.specs.ItemText.{item_line, time_line}
pub use Rattle.vcd_model.specs.Items.{BodyItem, ChangeForm, SectionKind, is_begin, is_end_of_section, leaves_open, marks, open_section, section_of, time_after, time_mark}
pub use Rattle.vcd_model.specs.Keywords.{Keyword, is_end, keyword_of, keyword_text}
pub use Rattle.vcd_model.specs.Laws.{IsPrefixOf}
pub use Rattle.vcd_model.specs.Outcome.{Request, ends_early}
pub use Rattle.vcd_model.specs.Reading.{Grammar, Placed, phrases_of, reading_of}
pub use Rattle.vcd_model.specs.Sample.{shown}
pub use Rattle.vcd_model.specs.Settled.{header_settles, is_settled_behind}
pub use Rattle.vcd_model.specs.SoFar.{IsSoFar}
pub use Rattle.vcd_model.specs.Tokens.{Stream, Token, end_of_tokens, stream_of}
pub use Rattle.vcd_model.specs.Values.{Value, change_line, extend, extension, short, value_with}
pub use Rattle.vcd_text.proofs.AdvancesLemmas.{advances_nowhere, advances_on}
pub use Rattle.vcd_text.proofs.AheadLemmas.{slice_range-append}
pub use Rattle.vcd_text.proofs.Known.{near-more}
pub use Rattle.vcd_text.proofs.PassedLemmas.{pass_far}
pub use Rattle.vcd_text.proofs.Places.{length-slice_range}
pub use Rattle.vcd_text.proofs.ShownLemmas.{read_to_shown}
pub use Rattle.vcd_text.proofs.Writes.{AppendsSome, appends-first, appends-more, appends-none, appends-some, both-written, puts-twice, some-behind, some-first}
pub use Rattle.vcd_text.specs.Advances.{Advances, CallEnd}
pub use Rattle.vcd_text.specs.Ahead.{TakesToken, ahead_of, bytes_of, lines_of, longest_of, passed_of, start_of}
pub use Rattle.vcd_text.specs.Answer.{Ends, failed_after}
pub use Rattle.vcd_text.specs.Calls.{LieAhead, StandsStill}
pub use Rattle.vcd_text.specs.Device.{Counts, Device, Puts, Supply, Takes, Writes, WritesSome}
pub use Rattle.vcd_text.specs.Digits.{spelled_below}
pub use Rattle.vcd_text.specs.Feed.{HasGiven, HasReadTo, chunk_len_of, limit_of, seen, source_of, supply_of, token_of, value_of}
pub use Rattle.vcd_text.specs.Passed.{AreFirst, AreWhite, Passed, line_ahead}
pub use Rattle.vcd_text.specs.ReadAhead.{Near, ReadsAsNeeded}
pub use Rattle.vcd_text.specs.ReadAhead.ReadsAsNeeded.{ToEnd, ToToken}
pub use Rattle.vcd_text.specs.Registers.{looked}
pub use Rattle.vcd_text.specs.declared.ahead.Ahead.{Ahead}
pub use Rattle.vcd_text.specs.declared.device.Source.{Ghosts}
pub use Rattle.vcd_text.specs.declared.device.WriteFailed.{WriteFailed}
pub use Rattle.vcd_text.specs.declared.feed.Feed.{Feed}
pub use Rattle.vcd_view.proofs.KeywordLemmas.{no_ends_more, not_until, until}
pub use Rattle.vcd_view.proofs.ListLemmas.{there}
pub use Rattle.vcd_view.proofs.RoomLemmas.{same_sum, sum_fits}
pub use Rattle.vcd_view.specs.Entries.{size_or_zero_of}
pub use Rattle.vcd_view.specs.Finds.{Finds, IsSized}
pub use Rattle.vcd_view.specs.Keywords.{NoEnds, model_keyword}
pub use Rattle.vcd_view.specs.Shown.{HeadShown, parts, text_in}
pub use Rattle.vcd_view.specs.Views.{IsCode, IsViewOf, Views}
pub use Rattle.vcd_view.specs.declared.look_up.Found.{Found}
pub use Rattle.vcd_view.specs.declared.view.Code.{Code}
pub use Rattle.vcd_view.specs.declared.view.HeadView.{HeadView}
pub use borrow.Rule.Slice.PartMut.{put_mid}
pub use denote.Enum.Bare.{sameb}
pub use lib.Lanes.{Each1, chunk, mask_l, pick_l, put_chunk, top, zip2}
pub use mir.Val.{zeroes}
