-- What the proofs of this crate cite of std, of specs/ and of the crates below, under one path.
pub use Rattle.std.proofs.Common.{Bool, Err, List, None, Ok, Option, Result, Some, [], add-one, add-zero, ap, append-nil, append_assoc, ap₂, arith, bytes_eq, codes, cond, count_by, decimal, drop, false, filter, filter_map, flat_map, get_or, inl, inr, is_some, length, map, min, nat_le, nat_lt, not, refl, rules, set, slice_get, slice_range, string_bytes, subst, suc, sum_by, sym, take, tests, true, zero, zero-add, ℕ, ◌%◌, ◌&&◌, ◌++◌, ◌+◌, ◌-◌, ◌<◌, ◌==◌, ◌^◌, ◌||◌, ◌∙◌, ◌∷◌, ◌≡◌, ◌≢◌, ◌≤◌, ◌⊎◌}
pub use Rattle.std.proofs.Math.Bool.{and-false, or-false}
pub use Rattle.std.proofs.Math.Seq.{drop-append-add, take-length}
pub use Rattle.std.proofs.lemmas.Bool.{cases_eq, eq-eqb, eqb-false, eqb-true, le-leb, le-ltb, leb-false, leb-true, lt-leb, lt-ltb, ltb-false, ne_eqb, or_parts}
pub use Rattle.std.proofs.lemmas.Grind.{flat_map-append}
pub use Rattle.std.proofs.lemmas.Iterator.{YieldsList-from_slice}
pub use Rattle.std.proofs.lemmas.Iterator.Search.{position_from_yields_List}
pub use Rattle.std.proofs.lemmas.List.{get_or-set_other, get_or-set_same, length-append, length-map, length-set, length-take-le, length_push, map-append, take-append-drop, take-take, take_all}
pub use Rattle.std.proofs.lemmas.List.Elements.{filter-append, filter_map-append}
pub use Rattle.std.proofs.lemmas.List.Folds.{list_any-append}
pub use Rattle.std.proofs.lemmas.List.FromFn.{get_or-map-range_with_len, length-range_with_len}
pub use Rattle.std.proofs.lemmas.List.Sums.{count_by-le-length, prefix_len-le-length, sum_by-append}
pub use Rattle.std.proofs.lemmas.Option.{get_or_from_slice_get, none-some, same_Some, slice_get-get_or, slice_get_within, unwrap_or-slice_get}
pub use Rattle.std.proofs.lemmas.Slice.Eq.{bytes_eq-Decides}
pub use Rattle.std.proofs.lemmas.Slice.Zip.{AllZip-long, zip_end, zip_turn}
pub use Rattle.std.specs.Borrow.{Bor}
pub use Rattle.std.specs.Io.KnownBytes.{Appends}
pub use Rattle.std.specs.Iterator.Adapters.{zip_first, zip_second}
pub use Rattle.std.specs.List.{AllByRecursion, last_or, list_any, position_or_len, range_with_len}
pub use Rattle.std.specs.List.Sorted.{IsStrictlyIncreasing}
pub use Rattle.std.specs.Prelude.{IfErr, IfOk, IsErr, MatchBool, option_and_then, option_map, slice_index, unwrap_or}
pub use Rattle.std.specs.Slice.Iter.{iter_rest}
pub use Rattle.vcd_body.proofs.AskedLemmas.{unsettled}
pub use Rattle.vcd_body.proofs.CallerLemmas.{gave_none_ahead, last_given}
pub use Rattle.vcd_body.proofs.CurrentLemmas.{IsNew, SetsValue, change_holds, good_text, held_still, new_holds, other_gives, room_enough}
pub use Rattle.vcd_body.proofs.FollowLemmas.{text_followed, text_gives}
pub use Rattle.vcd_body.proofs.LeftOut.{end_is}
pub use Rattle.vcd_body.proofs.LineLemmas.{one_byte}
pub use Rattle.vcd_body.proofs.OtherBytes.{off}
pub use Rattle.vcd_body.proofs.Results.{if_ok, if_ok_more, writes-none}
pub use Rattle.vcd_body.proofs.SectionLemmas.{section_time}
pub use Rattle.vcd_body.proofs.TableLemmas.{shown_are}
pub use Rattle.vcd_body.proofs.WalkLemmas.{walk_passes}
pub use Rattle.vcd_body.specs.Ahead.{GaveAhead, GaveLast, HasBits, IsSizedItem, LooksOver, PassesNoItem}
pub use Rattle.vcd_body.specs.Answer.{EndsAtRead, IsLeft, reads_failed, stop_of_body}
pub use Rattle.vcd_body.specs.Asked.{HaveJust}
pub use Rattle.vcd_body.specs.Binary.{binary_digits}
pub use Rattle.vcd_body.specs.Contents.{ChangesCode, IsLaidOut, codes_shown, counts_at, held_at, kept_at, line_of, value_in}
pub use Rattle.vcd_body.specs.Current.{AreHeld, HasValues}
pub use Rattle.vcd_body.specs.Device.{DueBy, Grows, GrowsSome, TakesDue}
pub use Rattle.vcd_body.specs.Given.{GivesItem, HasGoodText, IsItem, IsText, item_text, text_of}
pub use Rattle.vcd_body.specs.Items.{AreRegsAfter, model_form, model_section, regs_after}
pub use Rattle.vcd_body.specs.Kept.{Held, IsStep, Kept, differs, goes_from, is_digit, last_digit_in, one_more, value_at_size, with_change, with_counted, with_step, with_text}
pub use Rattle.vcd_body.specs.Pace.{KeepsUp}
pub use Rattle.vcd_body.specs.Reads.{BodyHas, Fails, GaveAll, GaveItem, GaveItems, StopsAt}
pub use Rattle.vcd_body.specs.Spelled.{IsSpelledAs, bytes_without, line_without}
pub use Rattle.vcd_body.specs.Taken.{IsSection, TakesItem}
pub use Rattle.vcd_body.specs.Walk.{Begins, Further, Past, Stage, Trail, Walks}
pub use Rattle.vcd_body.specs.declared.ahead.ScannedItem.{ScannedItem}
pub use Rattle.vcd_body.specs.declared.answer.Done.{Done}
pub use Rattle.vcd_body.specs.declared.answer.Done.TheVariants.{Early, Whole}
pub use Rattle.vcd_body.specs.declared.answer.More.{More}
pub use Rattle.vcd_body.specs.declared.answer.More.TheVariants.{Again, Ended}
pub use Rattle.vcd_body.specs.declared.answer.Stop.{Stop}
pub use Rattle.vcd_body.specs.declared.answer.Stop.TheVariants.{Dump, Read, Unmatched, Write}
pub use Rattle.vcd_body.specs.declared.fault.BodyFault.{BodyFault}
pub use Rattle.vcd_body.specs.declared.fault.BodyFault.TheVariants.{ReadFailed}
pub use Rattle.vcd_body.specs.declared.item.Form.{Form}
pub use Rattle.vcd_body.specs.declared.item.Form.TheVariants.{RealText, Scalar, Vector}
pub use Rattle.vcd_body.specs.declared.item.Item.{Item}
pub use Rattle.vcd_body.specs.declared.item.Item.TheVariants.{Begin, Change, End, Finish, Time}
pub use Rattle.vcd_body.specs.declared.item.Regs.{Regs}
pub use Rattle.vcd_body.specs.declared.values.step.Step.{Step}
pub use Rattle.vcd_body.specs.declared.values.table.Table.{Table}
pub use Rattle.vcd_body.specs.declared.walk.WalkEnd.{WalkEnd}
pub use Rattle.vcd_body.specs.declared.walk.WalkEnd.TheVariants.{AtItem, AtLines, Over}
pub use Rattle.vcd_engine.specs.Ahead.{EndsAhead, RunsAhead, RunsOver, StandsAhead}
pub use Rattle.vcd_engine.specs.Check.{AreCounted}
pub use Rattle.vcd_engine.specs.Cut.{AreCut, HasBegun, HasNone, IsNoTimestamp, kept_from, values_text}
pub use Rattle.vcd_engine.specs.Edges.{AreEdges, AreTallied, names_counted, numbers}
pub use Rattle.vcd_engine.specs.Engine.{CanRun, Holds, Keeps, Runs, StopsAtStart, StopsUnread, TakesOne, is_going, last_time_of, reads_body, request_in, request_of, request_of_engine}
pub use Rattle.vcd_engine.specs.ItemText.{AsItem, HasWritten, LastTells, is_event_at, may_be_kept, times_with}
pub use Rattle.vcd_engine.specs.Leads.{HaveNoLine, IsSelectedAt, LeadOn, Leads, rows_on}
pub use Rattle.vcd_engine.specs.Next.{TakesMore, TakesNext, Walk, walk_at}
pub use Rattle.vcd_engine.specs.PendingCopy.{GrowsBut, IsLine, IsNextItem, IsPart, PutsAll, PutsBehind, PutsOn, pending_in}
pub use Rattle.vcd_engine.specs.Pick.{ArePicked, is_kept, is_of_chosen, names_in}
pub use Rattle.vcd_engine.specs.Quiet.{TakesQuietly}
pub use Rattle.vcd_engine.specs.Report.{declares_variable, named_line, opens_scope}
pub use Rattle.vcd_engine.specs.Room.{AreWithinBound, IsWithin, IsWithinEachBound, room_in, view_in}
pub use Rattle.vcd_engine.specs.Sample.{AreSampled, asked_in, is_due}
pub use Rattle.vcd_engine.specs.Selection.{IsFirstUnmatched}
pub use Rattle.vcd_engine.specs.Step.{StepGives}
pub use Rattle.vcd_engine.specs.TaskRun.{Belongs, Follows, IsRefused, is_early}
pub use Rattle.vcd_engine.specs.Walks.{CanTake, HasWalked, TakesByTask, walk_of}
pub use Rattle.vcd_engine.specs.declared.engine.Engine.{Engine}
pub use Rattle.vcd_engine.specs.declared.item_text.ItemText.{ItemText}
pub use Rattle.vcd_engine.specs.declared.pending.PendingCopy.{PendingCopy}
pub use Rattle.vcd_engine.specs.declared.task_state.TaskState.{TaskState}
pub use Rattle.vcd_engine.specs.declared.task_state.check.Check.{Check}
pub use Rattle.vcd_engine.specs.declared.task_state.cut.Cut.{Cut}
pub use Rattle.vcd_engine.specs.declared.task_state.pick.Pick.{Pick}
pub use Rattle.vcd_engine.specs.declared.task_state.sample.Sample.{Sample}
pub use Rattle.vcd_engine.specs.declared.task_state.walk.WalkState.{WalkState}
pub use Rattle.vcd_head.proofs.MarkLemmas.{among-append}
pub use Rattle.vcd_head.proofs.MarkedHead.{marks_are}
pub use Rattle.vcd_head.proofs.SelectionLemmas.{marked_is, selected_next, take-next}
pub use Rattle.vcd_head.proofs.WriteLemmas.{code_there, own_text, texts-some}
pub use Rattle.vcd_head.specs.Marks.{is_marked, marks_of}
pub use Rattle.vcd_model.proofs.BodyPrefix.{items_begin}
pub use Rattle.vcd_model.proofs.BoundLemmas.{room_fits}
pub use Rattle.vcd_model.proofs.CutGrows.{due, goes_on, none_kept, so_far_is, started_more}
pub use Rattle.vcd_model.proofs.CutKept.{above}
pub use Rattle.vcd_model.proofs.CutSteps.{at_most, close_started, close_unstarted, cut_entries, due_both, due_kept, due_last, due_none, due_section, from_on, mark_kept, not_started, started_by, started_same, still_on, unstarted_by}
pub use Rattle.vcd_model.proofs.EdgesSteps.{counts_mark, counts_new, counts_other, with_mark, with_value}
pub use Rattle.vcd_model.proofs.FinalValues.{final_other, value_before_is}
pub use Rattle.vcd_model.proofs.Growing.{each_after-append, text_after-append}
pub use Rattle.vcd_model.proofs.ItemStates.{leaves_open_is}
pub use Rattle.vcd_model.proofs.KeptLines.{keeps, kept_more, kept_same, last_is_enough, last_or-snoc, pick_open_none, picked_by, time_unless_last}
pub use Rattle.vcd_model.proofs.MergeSoFar.{fault_output}
pub use Rattle.vcd_model.proofs.Revised.{nothing_revised}
pub use Rattle.vcd_model.proofs.SampleSteps.{AreSettled, all_settled_same, close_is, due_at_mark, ended, goes_on_other, lines_of, none_settled, not_ended, open_none, open_same, rises_behind, settled_next, unsettled_from, value_now}
pub use Rattle.vcd_model.proofs.ScopeLemmas.{enclosing-scope, enclosing-up, enclosing-var, enclosing_below}
pub use Rattle.vcd_model.proofs.SoFarLemmas.{so_far-nothing}
pub use Rattle.vcd_model.specs.Backward.{each, each_after, up_to_first}
pub use Rattle.vcd_model.specs.BodyReading.{body_fault_of, body_grammar, body_items, read_body}
pub use Rattle.vcd_model.specs.Bound.{AreWindows, FitsInput, RoomSize, ViewSize, WindowSize, no_room, value_room}
pub use Rattle.vcd_model.specs.Bytes.{as_line}
pub use Rattle.vcd_model.specs.CheckAndList.{count_line, list_line, number_or_dash}
pub use Rattle.vcd_model.specs.Cut.{cut_close, cut_open, ends_cut, is_mark_above, is_started, line_if_set, start_section, times_of}
pub use Rattle.vcd_model.specs.Declarations.{Declaration, IdCode, Variable, code_of, enclosing, is_scope, path_of, same_code, variables_of}
pub use Rattle.vcd_model.specs.Due.{due_after, due_of_body}
pub use Rattle.vcd_model.specs.Edges.{Counts, counts_for, edges_line, goes, has_last}
pub use Rattle.vcd_model.specs.HeadText.{head_for, words}
pub use Rattle.vcd_model.specs.Header.{Header}
pub use Rattle.vcd_model.specs.History.{final_value, gives_to, value_before}
pub use Rattle.vcd_model.specs.Input.{Input}
pub use Rattle.vcd_model.specs.ItemText.{closing, item_line, last_mark, may_keep, text_after, time_due, time_line, time_unless}
pub use Rattle.vcd_model.specs.Items.{BodyItem, Entry, change_of, entry_after, is_begin, leaves_open, marks, time_after, time_mark}
pub use Rattle.vcd_model.specs.Keywords.{Keyword, keyword_text}
pub use Rattle.vcd_model.specs.Laws.{IsPrefixOf, IsValid}
pub use Rattle.vcd_model.specs.Outcome.{Opened, Outcome, Request, at_end, clean_outcome, close_text, ends_early, fault_in, fault_outcome, items_in, name_at, names_of, open_text, over_body, over_dump, unmatched_outcome}
pub use Rattle.vcd_model.specs.Pick.{pick_kept}
pub use Rattle.vcd_model.specs.Reading.{Fault}
pub use Rattle.vcd_model.specs.Sample.{is_settled, sample_close, sample_lines, sample_open, shown}
pub use Rattle.vcd_model.specs.Selection.{Selected, first_unmatched, is_among, is_selected, selected, selects_code, with_path}
pub use Rattle.vcd_model.specs.Settled.{header_settles, is_settled_behind}
pub use Rattle.vcd_model.specs.Tokens.{Stream, Token, stream_of}
pub use Rattle.vcd_model.specs.Values.{Value, change_line, same_value, value_of, value_with}
pub use Rattle.vcd_text.proofs.AdvancesLemmas.{advances_nowhere, advances_on}
pub use Rattle.vcd_text.proofs.AheadLemmas.{slice_range-append}
pub use Rattle.vcd_text.proofs.Writes.{AppendsSome, appends-first, appends-none, appends-some, appends-twice, both-written, counted, counts-on, puts-twice, some-behind, some-first, takes-failed, takes-first, takes-twice}
pub use Rattle.vcd_text.specs.Advances.{Advances, CallEnd, HasNotFailed}
pub use Rattle.vcd_text.specs.Ahead.{ahead_of, bytes_of, longest_of, passed_of}
pub use Rattle.vcd_text.specs.Answer.{failed_after}
pub use Rattle.vcd_text.specs.Device.{Device, Puts, Supply, Takes, Writes, WritesSome, supply}
pub use Rattle.vcd_text.specs.Feed.{HasGiven, chunk_len_of, limit_of, seen, source_of, supply_of, token_of}
pub use Rattle.vcd_text.specs.Passed.{Passed}
pub use Rattle.vcd_text.specs.ReadAhead.{ReadsAsNeeded}
pub use Rattle.vcd_text.specs.ReadAhead.ReadsAsNeeded.{Nothing}
pub use Rattle.vcd_text.specs.declared.ahead.Ahead.{Ahead}
pub use Rattle.vcd_text.specs.declared.device.Source.{Ghosts}
pub use Rattle.vcd_text.specs.declared.device.WriteFailed.{WriteFailed}
pub use Rattle.vcd_text.specs.declared.feed.Feed.{Feed}
pub use Rattle.vcd_view.proofs.LookUpLemmas.{codes_len, same_place}
pub use Rattle.vcd_view.proofs.RoomLemmas.{filter_map_len, is_view}
pub use Rattle.vcd_view.proofs.RowLemmas.{code_at, read_row, row_at, row_of, row_of_variable, rows_len, text_within, there, variable_at}
pub use Rattle.vcd_view.specs.Finds.{IsSized}
pub use Rattle.vcd_view.specs.Needs.{view_size}
pub use Rattle.vcd_view.specs.Shown.{HeadShown, parts, text_in}
pub use Rattle.vcd_view.specs.Views.{AreRows, IsCode, IsIndex, IsRow, IsViewOf, Views, code_text}
pub use Rattle.vcd_view.specs.contracts.view.Kind.{the_type}
pub use Rattle.vcd_view.specs.declared.view.Code.{Code}
pub use Rattle.vcd_view.specs.declared.view.HeadView.{HeadView}
pub use Rattle.vcd_view.specs.declared.view.Kind.{Kind}
pub use Rattle.vcd_view.specs.declared.view.Row.{Row}
pub use denote.Enum.Bare.{sameb}
