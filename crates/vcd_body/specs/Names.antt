-- What the clauses of this crate speak of, under one path: of the crates below, and what several of
-- its modules share.
pub use Rattle.std.specs.Bool.{Decides}
pub use Rattle.std.specs.Char.{to_ascii_lowercase}
pub use Rattle.std.specs.Int.{bit_at}
pub use Rattle.std.specs.List.{list_all}
pub use Rattle.std.specs.Simd.Lanes.{chunk}
pub use Rattle.std.specs.Str.{byte, str_to_ascii_lowercase}
pub use Rattle.vcd_model.specs.BodyPhrases.{BodyPhrase, declared_code, is_value_digit, items_of}
pub use Rattle.vcd_model.specs.Bytes.{is_empty, is_white_space}
pub use Rattle.vcd_model.specs.Cut.{line_if_set}
pub use Rattle.vcd_model.specs.Declarations.{IdCode}
pub use Rattle.vcd_model.specs.HeadText.{new_code}
pub use Rattle.vcd_model.specs.Header.{Header}
pub use Rattle.vcd_model.specs.Input.{Input}
pub use Rattle.vcd_model.specs.ItemText.{item_line, time_due, time_line}
pub use Rattle.vcd_model.specs.Items.{BodyItem, ChangeForm, time_after}
pub use Rattle.vcd_model.specs.Keywords.{Keyword, is_end, keyword_text}
pub use Rattle.vcd_model.specs.Reading.{Placed, phrases_of}
pub use Rattle.vcd_model.specs.Sample.{shown}
pub use Rattle.vcd_model.specs.Tokens.{Token}
pub use Rattle.vcd_model.specs.Values.{Value, extend, extension, short, value_with}
pub use Rattle.vcd_text.specs.Advances.{Advances, CallEnd, GoesFurther}
pub use Rattle.vcd_text.specs.Ahead.{TakesToken as MovesPast, ahead_of, bytes_of, lines_of, longest_of, passed_of}
pub use Rattle.vcd_text.specs.Device.{Counts, Puts, PutsTo, Takes}
pub use Rattle.vcd_text.specs.Feed.{limit_of, seen, source_of, token_of, value_of}
pub use Rattle.vcd_text.specs.Passed.{AreWhite, IsRun, Passed}
pub use Rattle.vcd_view.specs.Finds.{IsSized}
pub use Rattle.vcd_view.specs.Views.{IsViewOf}
pub use Rattle.vcd_view.specs.declared.view.Code.{Code}
pub use Rattle.vcd_view.specs.declared.view.HeadView.{HeadView}
pub use Rattle.vcd_body.specs.Ahead.{GivesAhead, GivesNoItem, GivesToLast, HasBits, IsSizedItem, PassesNoItem, PassesWords, PassesWordsTo}
pub use Rattle.vcd_body.specs.Answer.{stop_of_body}
pub use Rattle.vcd_body.specs.Binary.{binary_digits, bit_of, is_proper}
pub use Rattle.vcd_body.specs.Calls.{EndsUnread, HasGoodValue, NeedsOneToken, OpensOrRefuses, ReadsCode, ReadsCommand, ReadsComment, ReadsInner, ReadsItem, ReadsTimestamp, ReadsOne, ReadsRest, ReadsToken, RefusesIn, TakesToken}
pub use Rattle.vcd_body.specs.Changes.{AreBinary, AreBinaryIf, AreBitsAt, IsBinaryAt, IsDigitAt, IsLowerAt, IsNeedless, Serves, bit_in, extended, id_line, line_under}
pub use Rattle.vcd_body.specs.Contents.{ChangesCode, GivesShares, GivesText, GivesValue, IsLaidOut, KeepsTable, SetsCode, SetsNumber, bytes_in, codes_in, codes_shown, counts_at, held_at, is_chosen, kept_at, line_of, new_at, shown_as, value_in}
pub use Rattle.vcd_body.specs.Current.{AreHeld}
pub use Rattle.vcd_body.specs.Counters.{count_of, counts_of}
pub use Rattle.vcd_body.specs.Fault.{call_end, fault_number}
pub use Rattle.vcd_body.specs.Given.{AreRegsPast, GivesItem, HasGoodText, GivesPhrase, IsGoodChange, IsGoodPhrase, IsGoodText, IsItem, text_of}
pub use Rattle.vcd_body.specs.Held.{HasDigits, digits_of, held_in, held_or}
pub use Rattle.vcd_body.specs.Id.{id_text}
pub use Rattle.vcd_body.specs.Items.{AreRegsAfter, AreRegsWith, model_form, regs_after}
pub use Rattle.vcd_body.specs.Kept.{AreTwo, Held, IsStep, Kept, are_two, as_chosen, bytes_for, counts_if, counts_with, differs, digit_in, goes_from, last_bit, last_digit_in, one_more, real_text, unset, value_at_size, with_change, with_held, with_number, with_number_change, with_step, with_text}
pub use Rattle.vcd_body.specs.Lines.{IsDigitLine, IsFront, IsTextLine, LeavesFront, LeavesLine, LeavesShortest, LeavesText, MayBe}
pub use Rattle.vcd_body.specs.Packed.{ArePacked, HasFour, two_bits_at, two_bits_of, two_bits_or, digit_of, digits_in, packed_byte, held_digit, quarter_of, shifted}
pub use Rattle.vcd_body.specs.Reads.{AsksForCode, Begun, Fails, FailsAfter, GaveItems, Looks, OpensPhrase, Passes, PassesScalar, Reads, ReadsAll, ReadsChange, ReadsPhrase, Refuses}
pub use Rattle.vcd_body.specs.Spelled.{HasChange, HasTimestamp, HasPlaces, IsSpelled, IsSpelledAs, Names, StandsAt, bytes_without, line_without}
pub use Rattle.vcd_body.specs.Steps.{ChangesRoomy, LeavesNumber, LeavesSteps, LeavesFlip, StepsTo, TellsStep, FlipsTo, counts_after, counts_plus, counts_plus_if, with_steps}
pub use Rattle.vcd_body.specs.Stored.{AreLaidOut, ChangesAt, ChangesSlot, IsHeldAs, IsUnset, SlotsKeepLaid, digits_held, end_at, held_from, held_line, text_bytes, len_of, one_digit, room_of, set_whole, share_from, some_by, start_of, state_in, used, whole}
pub use Rattle.vcd_body.specs.Taken.{HasTime, IsChangeBy, IsFound, IsFoundScalar, IsSection, LeavesRegs, Opens, OpensVector, TakesItem, TakesOpened, TakesOpenedAfter}
pub use Rattle.vcd_body.specs.Values.{by_text, form_in, text_in, with_value, with_value_change}
pub use Rattle.vcd_body.specs.Whole.{HoldsItem, IsPrompt}
pub use Rattle.vcd_body.specs.Words.{Begins, InClear, IsScalar, StandsFor, command_is, is_comment}
pub use Rattle.vcd_body.specs.declared.item.Form.{Form}
pub use Rattle.vcd_body.specs.declared.item.Item.{Item}
pub use Rattle.vcd_body.specs.declared.words.PhraseKind.{PhraseKind}
pub use Rattle.vcd_body.specs.declared.answer.Stop.TheVariants.{Write}
