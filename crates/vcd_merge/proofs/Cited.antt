-- What the proofs of this crate cite of std, of specs/ and of the crates below, under one path.
pub use Rattle.std.proofs.Common.{Bool, Err, List, None, Ok, Option, Result, Some, [], add-zero, ap, append-nil, append_assoc, ap₂, arith, cond, drop, false, inl, inr, is_some, length, length-drop, length-take, map, max, mul_comm, nat_le, not, refl, rules, slice_get, slice_set, subst, suc, sym, take, true, true≢false, zero, ℕ, ◌%◌, ◌&&◌, ◌*◌, ◌++◌, ◌+◌, ◌-◌, ◌/◌, ◌<◌, ◌^◌, ◌||◌, ◌∙◌, ◌∷◌, ◌≡◌, ◌≢◌, ◌≤◌, ◌⊎◌}
pub use Rattle.std.proofs.Math.Bool.{and-false}
pub use Rattle.std.proofs.Math.ListN.{length-set}
pub use Rattle.std.proofs.Math.Nat.{mul-le-mul_left, pow-le-pow_right}
pub use Rattle.std.proofs.lemmas.Bool.{cases_lt, le-leb, leb-false, lt-leb}
pub use Rattle.std.proofs.lemmas.List.{drop-take, get_or-map, get_or-set_other, get_or-set_same, set-get_or}
pub use Rattle.std.proofs.lemmas.List.Elements.{All-set}
pub use Rattle.std.proofs.lemmas.List.Sums.{sum_by-append, sum_by-cons}
pub use Rattle.std.proofs.lemmas.Option.{get_or_from_slice_get, same_Some, slice_get-get_or, slice_get_within}
pub use Rattle.std.proofs.lemmas.Slice.{between-put_mid, drop-put_mid, take-put_mid_below}
pub use Rattle.std.proofs.lemmas.Slice.Zip.{AllZip-long}
pub use Rattle.std.specs.List.{AllByRecursion, CopiedTo, SameBelow, before_first, list_any}
pub use Rattle.std.specs.Prelude.{All, IfOk, IfSome, SomeIff, find, fold, get_or, nat_abs, option_map, sum_by, unwrap_or, ℤ, ⊤, ◌-ℤ◌}
pub use Rattle.vcd_body.proofs.AheadLemmas.{gave_last}
pub use Rattle.vcd_body.proofs.AskedLemmas.{asked_to_end, asked_to_item, asked_to_stop}
pub use Rattle.vcd_body.proofs.CallerLemmas.{gave_none_ahead, last_given}
pub use Rattle.vcd_body.proofs.Results.{if_ok, if_ok_more, writes-none}
pub use Rattle.vcd_body.proofs.SectionLemmas.{section_time}
pub use Rattle.vcd_body.proofs.StoreLemmas.{get_other, get_set, same_or_not}
pub use Rattle.vcd_body.proofs.WalkLemmas.{walk_counts, walk_further, walk_passes}
pub use Rattle.vcd_body.specs.Ahead.{GaveAhead, GaveLast, IsSizedItem, LooksOver}
pub use Rattle.vcd_body.specs.Answer.{IsLeft, NamesInput, reads_failed, stop_of_body, writes_failed}
pub use Rattle.vcd_body.specs.Asked.{HaveJust}
pub use Rattle.vcd_body.specs.Device.{Grows}
pub use Rattle.vcd_body.specs.Fault.{call_end}
pub use Rattle.vcd_body.specs.Given.{GivesItem, IsGoodText, IsItem, text_of}
pub use Rattle.vcd_body.specs.Items.{AreRegsAfter, model_form, model_section, regs_after}
pub use Rattle.vcd_body.specs.Names.{line_under}
pub use Rattle.vcd_body.specs.Reads.{BodyHas, Fails, GaveAll, GaveItem, GaveItems, StopsAt}
pub use Rattle.vcd_body.specs.Spelled.{IsSpelledAs}
pub use Rattle.vcd_body.specs.Taken.{IsSection, TakesItem}
pub use Rattle.vcd_body.specs.Walk.{Begins, Past, Walks, over_of}
pub use Rattle.vcd_body.specs.declared.ahead.ScannedItem.{ScannedItem}
pub use Rattle.vcd_body.specs.declared.answer.Done.{Done}
pub use Rattle.vcd_body.specs.declared.answer.Done.TheVariants.{Early}
pub use Rattle.vcd_body.specs.declared.answer.More.{More}
pub use Rattle.vcd_body.specs.declared.answer.More.TheVariants.{Again, Ended}
pub use Rattle.vcd_body.specs.declared.answer.Stop.{Stop}
pub use Rattle.vcd_body.specs.declared.answer.Stop.TheVariants.{Read, Unmatched, Write}
pub use Rattle.vcd_body.specs.declared.fault.BodyFault.{BodyFault}
pub use Rattle.vcd_body.specs.declared.fault.BodyFault.TheVariants.{ReadFailed}
pub use Rattle.vcd_body.specs.declared.item.Form.{Form}
pub use Rattle.vcd_body.specs.declared.item.Form.TheVariants.{RealText, Scalar, Vector}
pub use Rattle.vcd_body.specs.declared.item.Item.{Item}
pub use Rattle.vcd_body.specs.declared.item.Item.TheVariants.{Begin, End, Finish, Time}
pub use Rattle.vcd_body.specs.declared.item.Regs.{Regs}
pub use Rattle.vcd_body.specs.declared.walk.WalkEnd.{WalkEnd}
pub use Rattle.vcd_body.specs.declared.walk.WalkEnd.TheVariants.{AtItem, AtLines, Over}
pub use Rattle.vcd_head.proofs.InsideLemmas.{get_mapped}
pub use Rattle.vcd_head.proofs.MergedLemmas.{HeaderAt, exponent_in_range, few_powers, header_at, least_in_range, number_more, numbers_fit}
pub use Rattle.vcd_head.specs.Merged.{ShowHeaders}
pub use Rattle.vcd_head.specs.Shown.{shown}
pub use Rattle.vcd_head.specs.declared.head.Head.{Head}
pub use Rattle.vcd_merge.specs.MergeAhead.{IsAhead, MergeStage, OneAhead, PutsDue, RunsAhead, SameMerging, StageAhead, TakesNext, TrailAhead, seat_with}
pub use Rattle.vcd_merge.specs.MergeOrder.{IsNext, greater_time, greatest_from, greatest_time}
pub use Rattle.vcd_merge.specs.MergeParts.{AreParts, AreSeated, SameLengths, part, part_len, spot_at, spot_of}
pub use Rattle.vcd_merge.specs.MergeRoom.{MergeIsWithinBound, kept_in, kept_of, no_windows, windows_size}
pub use Rattle.vcd_merge.specs.MergeRun.{AreLeft, AreOpened, AreReadOnTurn, BeginsWith, Belongs, Follows, ReadOnTurn, known_first, known_whole, settles_among}
pub use Rattle.vcd_merge.specs.MergeRun.AreReadOnTurn.{OnTurn, Unread}
pub use Rattle.vcd_merge.specs.MergeStart.{AreBegun, AreOpen, HasBegun, HaveNoItems, begun, no_items}
pub use Rattle.vcd_merge.specs.MergeStep.{AreGiven, AreMarked, Gives, HasFault, Holds, IsReady, ReadsOne, Standing, cut_at, failures_with, is_going, last_written, left_of, next_item, standing, standing_of}
pub use Rattle.vcd_merge.specs.MergeTrail.{AheadTurns, Further, GoOn, IsReached, Reaches, ReadInTurn, RunGives, RunTurns, Stage, Stands, StaysBack, TakesOn, Trail, TurnsAt, spot_in, stage_with}
pub use Rattle.vcd_merge.specs.Order.{AreInOrder, ComesBefore, IsFirstBefore, IsOrder, Waits, time_of}
pub use Rattle.vcd_merge.specs.Seat.{AtSeat, GaveParked, GivesOne, HasDump, HasReadNoMore, IsSeated, Lane, ReadsNoMore, SameSeat, Spot, Turns, spot_with}
pub use Rattle.vcd_merge.specs.declared.merge_state.Merge.{Merge}
pub use Rattle.vcd_merge.specs.declared.merging.Merging.{Merging}
pub use Rattle.vcd_merge.specs.declared.seat.Seat.{Seat}
pub use Rattle.vcd_merge.specs.declared.windows.Windows.{Windows}
pub use Rattle.vcd_model.proofs.BodyFacts.{all_append, all_back}
pub use Rattle.vcd_model.proofs.BodyPrefix.{phrases_begin}
pub use Rattle.vcd_model.proofs.BoundLemmas.{bound_of_limit, merge_fits}
pub use Rattle.vcd_model.proofs.DumpItems.{dump_begins, dump_marked, dump_whole, mark_or}
pub use Rattle.vcd_model.proofs.ItemStates.{leaves_open_is}
pub use Rattle.vcd_model.proofs.MergeChanges.{later_key}
pub use Rattle.vcd_model.proofs.MergeOrder.{Before, IsSorted, all_by_key, before_key, key_chain, key_never, sorted_by_key}
pub use Rattle.vcd_model.proofs.MergeOutcome.{clean, clear, dumps_under}
pub use Rattle.vcd_model.proofs.MergeSoFar.{AreLate, after_key, all_keyed, fault_outcome_is, fault_output, first_late, head_first, none_between, outcome_begins, still_late, still_later, up_to_last}
pub use Rattle.vcd_model.proofs.MergedLists.{all_with_item, headers_stay, merged_by, merged_more}
pub use Rattle.vcd_model.proofs.MergedMarks.{append_greatest, greater_assoc, greater_of, greatest_in, keyed_greatest, marks_greatest, own_greatest, own_most, reduce_is, sorted_greatest}
pub use Rattle.vcd_model.proofs.MergedPrefix.{AreGrown, GrownOne, NoneBefore, OthersLater, first_is}
pub use Rattle.vcd_model.proofs.MergedText.{IsTimed, left_out, left_time, line_due, text_more, time_written, timed_rest, unless_last, written_more}
pub use Rattle.vcd_model.specs.BodyPhrases.{BodyPhrase, items_of}
pub use Rattle.vcd_model.specs.BodyReading.{body_fault_of, read_body}
pub use Rattle.vcd_model.specs.Bound.{AreAllWindows, AreViews, WindowSize, text_bytes}
pub use Rattle.vcd_model.specs.Bytes.{is_empty}
pub use Rattle.vcd_model.specs.Declarations.{IdCode}
pub use Rattle.vcd_model.specs.HeadText.{code_place, exponent, first_number, merged_head, new_code, renamed}
pub use Rattle.vcd_model.specs.Header.{Header}
pub use Rattle.vcd_model.specs.Input.{Clean, Input}
pub use Rattle.vcd_model.specs.ItemText.{closing, time_due}
pub use Rattle.vcd_model.specs.Items.{BodyItem, Change, ChangeForm, Entry, leaves_open, marks, time_after}
pub use Rattle.vcd_model.specs.Merge.{Dump, Key, Keyed, KeyedFault, by_key, factor, first_fault, greatest_mark, headers_of, is_too_large, key_after, key_lt, merge_close, merge_kept, merge_open, merged_items, placed_is_too_large}
pub use Rattle.vcd_model.specs.MergeByInput.{due_with, entry_for, keyed_own, keyed_rest, with_item, written_with}
pub use Rattle.vcd_model.specs.Outcome.{Opened, Request, clean_outcome, ends_early, fault_outcome, merge_outcome, name_at}
pub use Rattle.vcd_model.specs.Reading.{Ending, Fault, Placed, phrases_of}
pub use Rattle.vcd_model.specs.Reading.Ending.{AtEnd, AtFault, AtLast}
pub use Rattle.vcd_model.specs.Settled.{is_faulty, is_settled_behind}
pub use Rattle.vcd_model.specs.SettledMerge.{SeenBody, are_past, dump_seen, fault_met, is_at_its_end, is_past}
pub use Rattle.vcd_model.specs.Tokens.{Token, end_of_tokens, stream_of}
pub use Rattle.vcd_model.specs.Values.{change_line}
pub use Rattle.vcd_text.proofs.Known.{near-more, parked-stands}
pub use Rattle.vcd_text.proofs.PassedLemmas.{ahead_fits, gone_fits, pass_far, pass_stands, passed_within}
pub use Rattle.vcd_text.proofs.Writes.{appends-first, appends-none, appends-twice, both-written, some-behind, some-first, takes-twice}
pub use Rattle.vcd_text.specs.Advances.{CallEnd, HasNotFailed}
pub use Rattle.vcd_text.specs.Ahead.{ahead_of, bytes_of, lines_of, longest_of, passed_of}
pub use Rattle.vcd_text.specs.Answer.{failed_after}
pub use Rattle.vcd_text.specs.Device.{Appends, Counts, Device, Supply, Takes, Writes, WritesSome, failures_then, supply}
pub use Rattle.vcd_text.specs.Feed.{HasGiven, HasReadTo, SameLoans, chunk_len_of, limit_of, parked_answer, parked_seen, seen, source_of, supply_of, token_of}
pub use Rattle.vcd_text.specs.Passed.{Passed}
pub use Rattle.vcd_text.specs.ReadAhead.{HasRest, ReadsAsNeeded}
pub use Rattle.vcd_text.specs.ReadAhead.ReadsAsNeeded.{Nothing, ToEnd, ToToken}
pub use Rattle.vcd_text.specs.Registers.{Fits, looked}
pub use Rattle.vcd_text.specs.Window.{gone_on}
pub use Rattle.vcd_text.specs.declared.device.Source.{Ghosts}
pub use Rattle.vcd_text.specs.declared.device.WriteFailed.{WriteFailed}
pub use Rattle.vcd_text.specs.declared.feed.Feed.{Feed}
pub use Rattle.vcd_text.specs.declared.registers.Parked.{Parked}
pub use Rattle.vcd_view.proofs.ListLemmas.{there}
pub use Rattle.vcd_view.proofs.LookUpLemmas.{codes_len}
pub use Rattle.vcd_view.proofs.RoomLemmas.{is_view}
pub use Rattle.vcd_view.proofs.RowLemmas.{code_at}
pub use Rattle.vcd_view.specs.Entries.{size_or_zero_of}
pub use Rattle.vcd_view.specs.Finds.{IsSized}
pub use Rattle.vcd_view.specs.Shown.{HeadShown, parts}
pub use Rattle.vcd_view.specs.Views.{IsExponent, IsViewOf, Views}
pub use Rattle.vcd_view.specs.declared.view.Code.{Code}
pub use Rattle.vcd_view.specs.declared.view.HeadView.{HeadView}
pub use borrow.Rule.Slice.PartMut.{put_mid, same_len_mid}
pub use mir.Syntax.{w8}
pub use mir.Val.{of_z, to_z}
