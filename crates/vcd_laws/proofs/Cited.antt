-- What the proofs of this crate cite of std, of specs/ and of the crates below, under one path.
pub use Prim.Native.String.{String}
pub use Rattle.std.proofs.Common.{Bool, Contains, Err, IsFalse, IsTrue, List, None, Ok, Option, Result, Some, [], add-one, ap, arith, bytes_eq, codes, cond, count_by, decimal, drop, false, filter, filter_map, find, flat_map, fold, inl, inr, int_le, is_none, is_ok, is_some, length, length-drop, map, max, mul-le-mul_left, mul-zero, mul_comm, nat_abs, nat_le, nat_lt, negsuc, not, one-add, option_and_then, option_map, pos, pow-suc, refl, replicate, reverse, slice_index, subst, suc, sum_by, sym, take, true, unwrap_or, zero, ℕ, ℤ, ◌%◌, ◌&&◌, ◌*◌, ◌++◌, ◌+◌, ◌-ℤ◌, ◌-◌, ◌/◌, ◌<◌, ◌==◌, ◌^◌, ◌||◌, ◌↔◌, ◌∙◌, ◌∷◌, ◌≡◌, ◌≢◌, ◌≤◌, ◌⊎◌}
pub use Rattle.std.proofs.Math.Nat.{lt-div-mul-add, mul-div-le, mul-div_cancel_left}
pub use Rattle.std.proofs.Math.Seq.{take-append_seam}
pub use Rattle.std.proofs.lemmas.Bool.{and_from, and_parts, and_right, cases_lt, eq-eqb, eqb-true, le-leb, le-ltb, leb-false, leb-true, lt-leb, lt-ltb, ltb-false, ltb-true, ne_eqb, not-false, not-true, or_cases, or_parts}
pub use Rattle.std.proofs.lemmas.Fmt.{length-decimal-le}
pub use Rattle.std.proofs.lemmas.Int.{ints}
pub use Rattle.std.proofs.lemmas.List.{append-nil, append_assoc, drop-append-le, get_or_append_left, length-append, length-map, length_push, map-append, reverse-append, take-append-drop, take-append-le}
pub use Rattle.std.proofs.lemmas.List.Concat.{flat_map-append}
pub use Rattle.std.proofs.lemmas.List.Elements.{filter-append, filter_map-append}
pub use Rattle.std.proofs.lemmas.List.Folds.{list_any-append}
pub use Rattle.std.proofs.lemmas.List.Sums.{length-filter, sum_by-append, sum_by-cons}
pub use Rattle.std.proofs.lemmas.Slice.Eq.{bytes_eq-Decides}
pub use Rattle.std.specs.Char.{is_ascii_digit}
pub use Rattle.std.specs.List.{AllByRecursion, before_first, concat, cons_option, join_with_byte, last_or, list_all, list_any, onto_first, position_or_len, range_with_len, reduce, slice_split, take_while}
pub use Rattle.std.specs.List.Sorted.{IsStrictlyIncreasing}
pub use Rattle.std.specs.Prelude.{min, ⊤}
pub use Rattle.std.specs.Str.{byte, str_to_ascii_lowercase}
pub use Rattle.vcd_laws.specs.Checked.{CheckNamesTheFault, CheckedIsSafe, CheckedMergeIsSafe, CleanIsChecked, EndsBefore, EndsWell, MergeNamesTheFault, NamesFault, NamesFaultOfOne, NamesTooLarge, Suits, first_too_large, header_in, run_of}
pub use Rattle.vcd_laws.specs.Counted.{CheckOfCut, CheckOfMerge, CheckOfPick, Tally, changes_in, cut_closing, cut_times, distinct, merge_times, merged_changes, pick_times, scopes_around, set_before, tally_outcome}
pub use Rattle.vcd_laws.specs.Due.{AreCutOff, AreMore, CanBeKnown, CutOffIsAPrefix, CutOffIsAllThatIsKnown, CutOffMergeIsAPrefix, CutOffMergeIsAllThatIsKnown, DueGrows, DueIsAllThatIsKnown, DueIsLeftAtAHalt, DueIsNeverRevised, GiveNoMore, GivesNoMore, IsCutOff, IsMore, MergeDueGrows, MergeDueIsAllThatIsKnown, MergeDueIsLeftAtHalts, MergeDueIsNeverRevised, SettledDueIsAll, SettledMergeDueIsAll, due_by_headers, dump_cut_off}
pub use Rattle.vcd_laws.specs.Dumps.{AreReadable, CodesFit, CutIsADump, IsDumpFor, IsMergedDump, IsReadable, MergeIsADump, PickIsADump, input_of, over_merged, over_written}
pub use Rattle.vcd_laws.specs.Final.{AreSeen, AreSettledAlone, BeginsWith, CanBeSeen, IsSeen, IsShort, Prefix, SettledAloneSettlesMerge, SettledIsFinal, SettledIsFinalInMerge, SettledMergeIsFinal, UnsettledIsOpen, UnsettledMergeIsOpen, first_tokens, header_seen, is_settled_alone}
pub use Rattle.vcd_laws.specs.Heads.{HeadIsReadBack, IsHeadFor, IsMergedHead, IsShallow, MergedHeadIsReadBack, input_scope, merged_variable, most_declared, most_merged, under_input}
pub use Rattle.vcd_laws.specs.Jobs.{JobsAreValid}
pub use Rattle.vcd_laws.specs.KeptValues.{CutKeeps, CutRunKeeps, IsBehind, KeepsValues, MergeKeeps, MergeKeepsChanges, MergeKeepsChangesBefore, MergeKeepsValues, MergeRunKeeps, OpenAll, Opens, PickKeeps, PickRunKeeps, cut_text, written_by}
pub use Rattle.vcd_laws.specs.OverCut.{CutOfCut, CutOfPick, CutPastEnd, CutTwice, EdgesOfCut, ListOfCut, PickOfCut, SampleOfCut, SampleOfCutAnywhere, as_list, counts_in_cut, cut_row, line_of_cut, values_in_cut}
pub use Rattle.vcd_laws.specs.OverMerge.{EachSelects, EdgesOfAllMerged, EdgesOfAnyMerged, EdgesOfMerge, EdgesOfOneMerged, ListOfMerge, SampleOfAllMerged, SampleOfAnyMerged, SampleOfMerge, SampleOfOneMerged, line_in, merged_lines, merged_listing, merged_row, names_in, names_under, selected_in_merge}
pub use Rattle.vcd_laws.specs.OverPick.{EdgesOfAllPicked, EdgesOfPick, EdgesOfSomePicked, ListOfPick, PickOfPick, PickTwice, SampleOfAllPicked, SampleOfPick, SampleOfSomePicked, SelectBoth, SelectWithin}
pub use Rattle.vcd_laws.specs.Whole.{CutKeepsAll, Given, IsWholeDump, PickKeepsAll, declarations_kept, given, given_before, given_by, row_kept, ups_kept}
pub use Rattle.vcd_model.proofs.Assembled.{Parts, closing_items, entries_from-append, fit_back, fit_front, last_mark_from, last_mark_is, parts_fit, parts_items, parts_read, parts_shut, parts_text, parts_values, time_behind_le, time_behind_small}
pub use Rattle.vcd_model.proofs.BodyFacts.{all_append, all_back, all_front, body_fit, passes}
pub use Rattle.vcd_model.proofs.BodyGrammar.{body_computes}
pub use Rattle.vcd_model.proofs.ChangeLines.{IsGoodValue, length-extend, read_again, read_again_is, value_change, value_change_gives, value_is_good}
pub use Rattle.vcd_model.proofs.CodeLemmas.{codes_differ}
pub use Rattle.vcd_model.proofs.CutGrows.{all_below, all_within, goes_on, none_kept}
pub use Rattle.vcd_model.proofs.CutKept.{above, above_is, before_is, closing_above_is, cut_facts, cut_mark, cut_parts, cut_values, cuts, last_below, later_none, none_cut, settable}
pub use Rattle.vcd_model.proofs.CutSplit.{Split, all_entries, nothing_at, split_at_time, times_from, times_within, within_is}
pub use Rattle.vcd_model.proofs.Decimals.{spells}
pub use Rattle.vcd_model.proofs.DumpItems.{before_past, dump_whole, items_append, mark_or}
pub use Rattle.vcd_model.proofs.FoundCodes.{all_kept, at_contained, find-filter, find_all, gives_kept, same_declared}
pub use Rattle.vcd_model.proofs.Growing.{each_after-append, merge_grows}
pub use Rattle.vcd_model.proofs.HeadLines.{AreGoodScales, AreParts, decimal_word, declaration_line, head_of, head_words, header_back, line_words, plain_word, reads_head, scale_tokens, text_tokens}
pub use Rattle.vcd_model.proofs.HeadPhrases.{AreDeclared, IsDeclared, IsGoodScale, IsGoodVariable, IsToken, declaration_tokens, scale_good}
pub use Rattle.vcd_model.proofs.HeaderFacts.{AreCodes, IsGoodInput, filter_words, inputs_all, inputs_good, stream_words, to_images}
pub use Rattle.vcd_model.proofs.HeaderGrammar.{end_text, header_computes, header_reading_is_unique, keyword_of-text, mapped}
pub use Rattle.vcd_model.proofs.ItemStates.{AreFit, IsFit, IsGoodChange, IsGoodText, StandsAt, at_start, entries_are, entries_from, leaves_open_is, next_open, next_time, open_behind, stands_more, time_behind}
pub use Rattle.vcd_model.proofs.JobLemmas.{requests_are_valid, rises_at}
pub use Rattle.vcd_model.proofs.KeptEntries.{KeepsSections, kept_last, kept_open, kept_writable}
pub use Rattle.vcd_model.proofs.Latest.{behind, gives_at, last_value_is, latest, latest-filter, latest_agree, latest_none, newer-false, newer_same}
pub use Rattle.vcd_model.proofs.Lines.{IsRead, is_read, lines_words, plain_line, stands_behind}
pub use Rattle.vcd_model.proofs.MarkedPlaces.{around_marks, below_other, none_any, opens_more, own_mark, places_after, places_at, places_below, places_split}
pub use Rattle.vcd_model.proofs.MergeChanges.{IsGoodDump, all_keyed, changes_all, changes_where, headers-append}
pub use Rattle.vcd_model.proofs.MergeCodes.{declared_in_merge, first_number_le, new_code_word, number_below, numbers_apart, renamed_same}
pub use Rattle.vcd_model.proofs.MergeOrder.{Before, IsSorted, all_by_key, before_key, filter-by_key, key_chain, key_never, key_trans, not_behind, sorted_by_key}
pub use Rattle.vcd_model.proofs.MergeSoFar.{fault_output, first_all, still_late, still_later, with_fault, without_fault}
pub use Rattle.vcd_model.proofs.MergedLists.{merged_by, merged_by_input}
pub use Rattle.vcd_model.proofs.MergedPrefix.{AreGrown, GrownOne, faults_are, faults_rest, late_none, sorted_begins}
pub use Rattle.vcd_model.proofs.ReadBack.{item_tokens}
pub use Rattle.vcd_model.proofs.Readings.{reading_is_one}
pub use Rattle.vcd_model.proofs.Revised.{nothing_revised}
pub use Rattle.vcd_model.proofs.Rewritten.{AreWritable, IsWritable, Stand, at_most, last_open, last_time, read_item, stand_more, time_items, written_items}
pub use Rattle.vcd_model.proofs.SampleGrows.{lines_stay, rises_on, same_lines, settled_below, split_times, up_first}
pub use Rattle.vcd_model.proofs.ScopeLemmas.{enclosing_below}
pub use Rattle.vcd_model.proofs.ShortLemmas.{short_is_shortest}
pub use Rattle.vcd_model.proofs.SoFarLemmas.{at_token, behind_phrase, token_step}
pub use Rattle.vcd_model.proofs.StartSections.{IsSettable, item_if_set, set_items, start_behind, start_items, start_text}
pub use Rattle.vcd_model.proofs.Times.{greatest_from, marks-append}
pub use Rattle.vcd_model.proofs.TokenLemmas.{at_white}
pub use Rattle.vcd_model.proofs.TokenTexts.{IsWord, drop_of, forward, index_of, map_first, plain_front, same_cond, texts_from, texts_of-tokens}
pub use Rattle.vcd_model.proofs.WrittenRows.{HasOpen, Open, has_none, has_scope, has_up, has_var, open_count, path_is, row_of, rows_from, text_of_rows, ups_at, with_code, written}
pub use Rattle.vcd_model.specs.Backward.{each, each_after, each_some, last_where, later_or, up_to_first}
pub use Rattle.vcd_model.specs.BodyChecks.{command_checks, inner_checks, start_checks}
pub use Rattle.vcd_model.specs.BodyPhrases.{BodyPhrase, IsChange, IsItem, Start, change_behind, change_with, declared_code, item_of, items_of, section_keyword, start_of}
pub use Rattle.vcd_model.specs.BodyPhrases.BodyPhrase.{Comment, Gives}
pub use Rattle.vcd_model.specs.BodyPhrases.Start.{Digit, Digits, Number, Other}
pub use Rattle.vcd_model.specs.BodyReading.{body_fault_of, body_grammar, body_items, ends_well, read_body}
pub use Rattle.vcd_model.specs.Bound.{AreAllWindows, AreMarks, AreViews, AreWindows, FitsBound, FitsInput, IsRoom, IsView, ViewSize, WindowSize, marks_alone, no_room, room_count, room_of, value_room, view_count, window_count}
pub use Rattle.vcd_model.specs.Bytes.{as_line, decimal_value, is_code_byte, is_decimal, is_empty, is_white_space}
pub use Rattle.vcd_model.specs.CheckAndList.{list_line, list_text}
pub use Rattle.vcd_model.specs.Checks.{Check, first_failed}
pub use Rattle.vcd_model.specs.Compare.{Asked, Extent, compared, exactly}
pub use Rattle.vcd_model.specs.Cut.{closing_above, cut_kept, ends_cut, is_mark_above, is_started, start_section, times_of, within}
pub use Rattle.vcd_model.specs.Declarations.{Declaration, IdCode, Variable, code_of, codes_of, enclosing, has_text, is_scope, name_of, open_scopes, path_of, same_code, variable_of, variables_of}
pub use Rattle.vcd_model.specs.Due.{due_after, due_at, due_of_body, due_of_request}
pub use Rattle.vcd_model.specs.Edges.{counts_for, counts_of, edges_line, event_count}
pub use Rattle.vcd_model.specs.HeadText.{base94, code_place, end_line, exponent, first_number, first_place, head_for, input_head, least_exponent, merged_head, new_code, renamed, scope_line, smaller, three_lines, three_lines_of, up_line, words}
pub use Rattle.vcd_model.specs.Header.{Header, header_of}
pub use Rattle.vcd_model.specs.HeaderChecks.{agrees, header_fault, is_size, same_flag}
pub use Rattle.vcd_model.specs.HeaderPhrases.{HasNoEnd, HeaderPhrase, IsDeclaration, IsHeaderPhrase, IsScale, date_of, declaration_of, declarations_of, phrase_with, scope_of, timescale_of, up_of, var_of, version_of}
pub use Rattle.vcd_model.specs.HeaderPhrases.HeaderPhrase.{Date, Declares, EndDefinitions, Timescale, Unknown, Version}
pub use Rattle.vcd_model.specs.HeaderReading.{header_fault_of, header_grammar, read_header}
pub use Rattle.vcd_model.specs.History.{final_value, gives_to, value_at, value_before, value_in, values_of}
pub use Rattle.vcd_model.specs.Input.{Input, Mark, is_failed}
pub use Rattle.vcd_model.specs.ItemText.{closing, item_line, kept_by, last_mark, may_keep, text_after, time_unless}
pub use Rattle.vcd_model.specs.Items.{BodyItem, Change, ChangeForm, Entry, SectionKind, change_of, entries, entry_after, is_begin, leaves_open, open_section, time_after}
pub use Rattle.vcd_model.specs.Items.ChangeForm.{RealText, Scalar, Vector}
pub use Rattle.vcd_model.specs.Items.SectionKind.{All, Off, On, Vars}
pub use Rattle.vcd_model.specs.Job.{IsJob, IsTime, Refusal, Want, cut_request, do_rise, first_refusal, has_unit, is_number, is_unit, moment_of, ok_of, outcome, over_opened, refusal_outcome, request_of, sample_at, sample_request, unit_exponent}
pub use Rattle.vcd_model.specs.Keywords.{Keyword, is_end, is_unknown_command, keyword_of, keyword_text}
pub use Rattle.vcd_model.specs.Laws.{IsPrefixOf, IsValid, changes_kept, merged_codes, merged_entry, read_text, renamed_code, stream_over}
pub use Rattle.vcd_model.specs.Merge.{Dump, Key, Keyed, KeyedFault, by_key, dump_of, earlier_fault, factor, first_fault, greatest_mark, headers_of, insert_by_key, is_change, is_too_large, items_before, key_after, key_lt, keyed_after, keyed_fault, keyed_items, merge_close, merge_kept, merge_open, merged_items, placed_is_too_large, scaled_fault, scaled_item}
pub use Rattle.vcd_model.specs.MergeByInput.{due_with, entry_for, keyed_own, keyed_rest, with_item, written_with}
pub use Rattle.vcd_model.specs.Outcome.{Opened, Outcome, Request, allowed_after, at_end, body_of, clean_outcome, close_text, declarations_allowed, dumps_of, ends_early, fault_in, fault_outcome, fault_text, items_in, merge_outcome, name_at, names_of, open_from, open_text, over_body, over_dumps, unmatched_outcome, with_opened}
pub use Rattle.vcd_model.specs.Pick.{is_picked, pick_kept}
pub use Rattle.vcd_model.specs.Reading.{AreGood, Ending, Ends, Fault, Grammar, IsGood, IsReading, PassChecks, Placed, Reading, missing, phrases_of, read_from, reading_of, texts_of}
pub use Rattle.vcd_model.specs.Reading.Ending.{AtEnd, AtFault, AtLast}
pub use Rattle.vcd_model.specs.Sample.{sample_lines, shown}
pub use Rattle.vcd_model.specs.Scales.{exponent_of, scale_text}
pub use Rattle.vcd_model.specs.Selection.{Selected, first_unmatched, is_among, is_selected, marked_places, selected, selects_code, selects_path, with_path}
pub use Rattle.vcd_model.specs.Settled.{body_settles, is_faulty, is_header_over, is_over, is_settled, is_settled_at, is_settled_behind, is_settled_by}
pub use Rattle.vcd_model.specs.SettledMerge.{Seen, SeenBody, SeenHeaders, are_past, bodies_settle, dump_seen, fault_met, fault_seen, header_ends, headers_seen, is_at_its_end, is_past, is_settled_merge, seen_at, seen_before, settles_merge, tokens_seen, whole_of}
pub use Rattle.vcd_model.specs.SettledMerge.SeenHeaders.{Faulty, NotWhole, Whole}
pub use Rattle.vcd_model.specs.Ticks.{Moment, in_range, moment_ticks, number_ticks, ticks, unit_ticks}
pub use Rattle.vcd_model.specs.Tokens.{HaltPlace, Stream, Token, begins_token, comes_before, earlier_halt, end_at, end_of_tokens, failed_read, first_halt, halt_place, line_at, run_at, stream_of, stream_until, token_at, token_places, tokens_of, too_long_tokens, too_much_input}
pub use Rattle.vcd_model.specs.Values.{Value, change_line, extend, short, value_line, value_of, value_with}
pub use Rattle.vcd_model.specs.Values.Value.{Bits, Real}
pub use Rattle.vcd_model.specs.Within.{Names}
pub use Rattle.vcd_model.specs.Words.{Command, Job, UseFault, command_outcome, cut_of, has_words, is_limit, is_standard_input, job_of, job_with, limit_of, sample_of, time_of, time_or, want_of, with_time}
