-- What the proofs of this crate cite of std, of specs/ and of the crates below, under one path.
pub use Rattle.std.proofs.Common.{Bool, List, T, [], add-mul, add-one, add-zero, ap, append-nil, append_assoc, ap₂, arith, bit_and, cond, count_by, drop, eqb, eqb-true, false, filter, get_or, inl, inr, length, length-append, length-drop, ltb, ltb→lt, map, mul_assoc, nat_le, not, pow-add, pow-suc, refl, rules, subst, suc, sym, take, take-append-drop, true, unwrap_or, w64, w8, zero, zero-add, ℕ, ◌%◌, ◌*◌, ◌++◌, ◌+◌, ◌-◌, ◌/◌, ◌<◌, ◌^◌, ◌||◌, ◌∙◌, ◌∷◌, ◌≡◌, ◌≢◌, ◌≤◌, ◌⊎◌}
pub use Rattle.std.proofs.Math.Bool.{and-false}
pub use Rattle.std.proofs.Math.ListN.{get_or-append}
pub use Rattle.std.proofs.Math.Nat.{min-le_right, mul-le-mul_right, pow-le-pow_right}
pub use Rattle.std.proofs.Math.Seq.{take-add, take-append-add}
pub use Rattle.std.proofs.lemmas.Bool.{agree_below, agree_below_at, and_from, and_parts, and_right, cases_lt, cases_order, le-ltb, lt-ltb}
pub use Rattle.std.proofs.lemmas.Bool.Decides.{nat_tests}
pub use Rattle.std.proofs.lemmas.Grind.{common_steps}
pub use Rattle.std.proofs.lemmas.List.{drop-append-le, drop-drop, drop-take, drop_more, ext_get_or, get_or-drop, get_or-map, get_or-take, get_or_past, length-map, length-take, length-take-le, map-append, map-id, take-append-le, take-take, take_all, take_min, take_more, take_rest}
pub use Rattle.std.proofs.lemmas.List.Elements.{filter-append}
pub use Rattle.std.proofs.lemmas.List.Folds.{length-prefix_len, list_all-append}
pub use Rattle.std.proofs.lemmas.List.Sums.{count_by-le-length, count_by_more_no, fails_before_first, passes_at_first, position_or_len_is, sum_by-cons}
pub use Rattle.std.proofs.lemmas.Nat.{and_mask}
pub use Rattle.std.proofs.lemmas.Nat.Bits.{bit_at-pow_other, bit_at-trailing_zeros, bit_at-zero, bit_at_and, bit_at_clear_other, bit_at_clear_same}
pub use Rattle.std.proofs.lemmas.Option.{IfSome_then}
pub use Rattle.std.proofs.lemmas.Result.{err_from_is_err_and}
pub use Rattle.std.proofs.lemmas.Simd.{SwzOk, SwzOk-from_Each1, adds_fit, bit_mask_l, bitmask_splat, chunk-fits, fold-sum, get_or-chunk, get_or-swz_l, length-chunk, length-put_chunk, length-replicate, length-swz_l, length-zip2, mask_l-mod, ones-mask_l, splat_is_map, sum-zip2, sum_fits, swz_l, take_more_put_chunk, tops_compared, zip2_of_maps, zip2_splat}
pub use Rattle.std.specs.Char.{is_ascii_digit}
pub use Rattle.std.specs.Int.{bit_at, bit_not}
pub use Rattle.std.specs.Int.RustNames.{count_ones}
pub use Rattle.std.specs.Io.KnownBytes.{Appends, Consumes, IsAtEnd, Keeps}
pub use Rattle.std.specs.List.{AllByRecursion, drop-map, fold, list_all, position_or_len, range_with_len, reduce}
pub use Rattle.std.specs.Prelude.{Err, IfSome, IsErr, None, Ok, Option, Result, Some, if◌then◌else◌, min, nat_lt, option_map, slice_index, slice_range, ◌==◌}
pub use Rattle.vcd_model.proofs.Decimals.{decimal_value-grows, decimal_value-push}
pub use Rattle.vcd_model.proofs.HeaderFacts.{stream_words}
pub use Rattle.vcd_model.proofs.TokenLemmas.{end_of_more}
pub use Rattle.vcd_model.proofs.TokenTexts.{IsWord}
pub use Rattle.vcd_model.specs.Bytes.{decimal_value, is_decimal, is_empty, is_white_space}
pub use Rattle.vcd_model.specs.Input.{Clean, Failed, Input, Mark}
pub use Rattle.vcd_model.specs.Laws.{IsPrefixOf}
pub use Rattle.vcd_model.specs.Reading.{texts_of}
pub use Rattle.vcd_model.specs.Tokens.{HaltPlace, Stream, Token, begins_token, comes_before, earlier_halt, end_at, end_of_tokens, failed_read, halt_place, line_at, run_at, stream_of, stream_until, token_at, token_places, too_long_tokens, too_much_input}
pub use Rattle.vcd_text.specs.Advances.{Advances, CallEnd, GoesOn}
pub use Rattle.vcd_text.specs.Answer.{Ends, NextGives, failed_after, input_at, whole}
pub use Rattle.vcd_text.specs.Device.{Counts, Device, Gains, Puts, Writes, WritesSome}
pub use Rattle.vcd_text.specs.Digits.{spelled, spelled_below}
pub use Rattle.vcd_text.specs.Feed.{HasGiven, HasGivenParked, HasGivenTo, HasReadTo, limit_of, token_of}
pub use Rattle.vcd_text.specs.Given.{At, AtPlace, HasGivenAt, InPhase, IsMarkAfter, NoHaltBefore}
pub use Rattle.vcd_text.specs.LookedAt.{HasLookedAt, is_apart, places_from}
pub use Rattle.vcd_text.specs.Masks.{BitsAreWhite, TellsWhite}
pub use Rattle.vcd_text.specs.Passed.{AreFirst, AreWhite, IsRun, Passed, PassedFrom, StandsAt, line_ahead}
pub use Rattle.vcd_text.specs.ReadAhead.{HasRest, Near}
pub use Rattle.vcd_text.specs.Registers.{Fits, ahead_in, answer_number, halt_number, looked, new_registers, offset_of, phase_at, registers_at, settled}
pub use Rattle.vcd_text.specs.Window.{Collects, Fills, Finishes, Gathers, Halts, Skips, TakesShort, Whites, begun, ended, gathered, gone_on, is_white_at, line_feeds_in, refilled, skipped, stepped_past}
pub use Rattle.vcd_text.specs.declared.ahead.White.{White}
pub use Rattle.vcd_text.specs.declared.answer.Halt.{Halt}
pub use Rattle.vcd_text.specs.declared.answer.Halt.TheVariants.{InputTooLong, ReadFailed, TokenTooLong}
pub use Rattle.vcd_text.specs.declared.answer.Next.{Next}
pub use Rattle.vcd_text.specs.declared.answer.Next.TheVariants.{Finish}
pub use Rattle.vcd_text.specs.declared.device.Source.{Ghosts}
pub use Rattle.vcd_text.specs.declared.feed.Feed.{Feed}
pub use Rattle.vcd_text.specs.declared.number.TheConstants.{KEPT, WORTH}
pub use Rattle.vcd_text.specs.declared.registers.Parked.{Parked}
pub use Rattle.vcd_text.specs.declared.registers.Phase.{Phase}
pub use Rattle.vcd_text.specs.declared.registers.Phase.TheVariants.{Ended, Going, Halted}
pub use Rattle.vcd_text.specs.declared.scan.TheConstants.{WHITE}
pub use Rattle.vcd_text.specs.declared.window.Collected.TheVariants.{Part, TooLong, Whole}
pub use Rattle.vcd_text.specs.declared.window.Filled.TheVariants.{More}
pub use lib.Bits.{and_zero_r}
pub use lib.Lanes.{Each1, chunk, fold_l, mask_l, sel_l, sum_l, top, zip2}
pub use lib.ListN.{replicate}
pub use mir.Val.{zeroes}
pub use native.Mathlib.Nat.{div-div-eq-div-mul, div-one, mul_comm, zero-div}
