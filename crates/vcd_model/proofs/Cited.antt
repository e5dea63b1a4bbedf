-- What the proofs of this crate cite of std, of specs/ and of the crates below, under one path.
pub use Rattle.std.proofs.Common.{Bool, Contains, Err, IsFalse, IsTrue, List, None, Ok, Option, Result, Some, [], add-one, ap, arith, bytes_eq, cond, count_by, decimal, drop, false, filter, filter_map, find, flat_map, fold, inl, inr, is_ok, is_some, length, map, max, min, mul-le-mul_left, nat_abs, nat_le, nat_lt, not, one-add, option_map, pos, pow-suc, refl, replicate, reverse, slice_get, slice_index, subst, suc, sum_by, sym, take, true, unwrap_or, zero, ℕ, ℤ, ◌%◌, ◌&&◌, ◌*◌, ◌++◌, ◌+ℤ◌, ◌+◌, ◌-◌, ◌/◌, ◌<◌, ◌==◌, ◌^◌, ◌||◌, ◌↔◌, ◌∙◌, ◌∷◌, ◌≡◌, ◌≢◌, ◌≤◌, ◌⊎◌}
pub use Rattle.std.proofs.Math.Bool.{and-true, or-true}
pub use Rattle.std.proofs.Math.Nat.{le-div_iff_mul-le, mul-le-mul_right, one-le-pow}
pub use Rattle.std.proofs.Math.Seq.{take-append_seam}
pub use Rattle.std.proofs.lemmas.Bool.{and_from, and_parts, and_right, cases_lt, eq-eqb, eqb-true, le-leb, le-ltb, leb-false, leb-true, lt-leb, lt-ltb, ltb-false, ltb-true, ne_eqb, not-false, not-true, or_cases, or_left, or_parts, or_right}
pub use Rattle.std.proofs.lemmas.Fmt.{decimal_by_steps}
pub use Rattle.std.proofs.lemmas.List.{append-nil, append_assoc, drop_at, get_or_at, length-append, length-map, length-replicate, length-reverse, length_push, map-append, reverse-append, reverse-reverse}
pub use Rattle.std.proofs.lemmas.List.Concat.{flat_map-append}
pub use Rattle.std.proofs.lemmas.List.Elements.{All-contains, All-from_recursion, filter-append, filter_map-append}
pub use Rattle.std.proofs.lemmas.List.Folds.{list_any-append}
pub use Rattle.std.proofs.lemmas.List.Sums.{count_by-le-length, length-filter, sum_by-append, sum_by-cons}
pub use Rattle.std.proofs.lemmas.Nat.{div-add-mod'}
pub use Rattle.std.proofs.lemmas.Option.{cond_some, option_and_then_some, same_Some, slice_get_within}
pub use Rattle.std.proofs.lemmas.Slice.Eq.{bytes_eq-Decides}
pub use Rattle.std.proofs.lemmas.Slice.Zip.{length-zip}
pub use Rattle.std.specs.Char.{is_ascii_digit}
pub use Rattle.std.specs.Int.{div_ceil}
pub use Rattle.std.specs.List.{AllByRecursion, before_first, concat, cons_option, join_with_byte, last_or, list_all, list_any, position_or_len, range_with_len, reduce}
pub use Rattle.std.specs.List.Sorted.{IsStrictlyIncreasing}
pub use Rattle.std.specs.Prelude.{option_and_then, ⊤}
pub use Rattle.std.specs.Str.{byte, str_to_ascii_lowercase}
pub use Rattle.vcd_model.specs.Backward.{each, each_after, last_where, later_or, tails, up_to_first}
pub use Rattle.vcd_model.specs.BodyChecks.{inner_checks, start_checks}
pub use Rattle.vcd_model.specs.BodyPhrases.{BodyPhrase, IsBodyPhrase, IsChange, IsItem, Start, alone, change_behind, change_with, command_with, declared_code, is_value_digit, item_of, items_of, keyword_or, phrase_with, section_keyword, start_of}
pub use Rattle.vcd_model.specs.BodyPhrases.BodyPhrase.{Comment, Gives}
pub use Rattle.vcd_model.specs.BodyPhrases.Start.{Command, Digit, Digits, Mark, Number, Other}
pub use Rattle.vcd_model.specs.BodyReading.{body_fault_of, body_grammar, body_items}
pub use Rattle.vcd_model.specs.Bound.{input_bound, text_bytes, value_room}
pub use Rattle.vcd_model.specs.Bytes.{as_line, decimal_value, is_code_byte, is_decimal, is_empty, is_white_space}
pub use Rattle.vcd_model.specs.Checks.{first_failed}
pub use Rattle.vcd_model.specs.Cut.{closing_above, cut_open, ends_cut, is_mark_above, is_started, line_if_set, times_of, within}
pub use Rattle.vcd_model.specs.Declarations.{Declaration, IdCode, Variable, code_of, codes_of, enclosing, enclosing_back, has_text, is_balanced, is_scope, is_up, name_of, names_at, open_scopes, same_code, variables_of}
pub use Rattle.vcd_model.specs.Edges.{Counts, counts_for, counts_of, event_count, goes, neighbours}
pub use Rattle.vcd_model.specs.HeadText.{base94, code_place, end_line, first_number, first_place, head_for, merged_head, new_code, renamed, row_line, scope_line, three_lines, three_lines_of, up_line, up_lines_at, var_line}
pub use Rattle.vcd_model.specs.Header.{Header}
pub use Rattle.vcd_model.specs.HeaderChecks.{agrees, is_size}
pub use Rattle.vcd_model.specs.HeaderPhrases.{HasNoEnd, HeaderPhrase, IsCommand, IsDeclaration, IsHeaderPhrase, IsScale, RunsToEnd, date_of, declaration_of, declarations_of, finish_of, phrase_behind, scale_of, scope_of, timescale_of, until_end, up_of, var_of, variable_with, version_of}
pub use Rattle.vcd_model.specs.HeaderPhrases.HeaderPhrase.{Date, Declares, EndDefinitions, Timescale, Unknown, Version}
pub use Rattle.vcd_model.specs.HeaderReading.{header_fault_of, header_grammar, is_last}
pub use Rattle.vcd_model.specs.History.{final_value, gives_to, last_value, value_at, value_before, value_in, values_of}
pub use Rattle.vcd_model.specs.Input.{Input}
pub use Rattle.vcd_model.specs.ItemText.{closing, item_line, kept_by, last_mark, may_keep, text_after, time_due, time_line, time_unless}
pub use Rattle.vcd_model.specs.Items.{BodyItem, Change, ChangeForm, Entry, SectionKind, change_of, entries, entry_after, is_begin, is_end_of_section, leaves_open, marks, time_after, time_mark}
pub use Rattle.vcd_model.specs.Items.ChangeForm.{RealText, Scalar, Vector}
pub use Rattle.vcd_model.specs.Items.SectionKind.{All, Off, On, Vars}
pub use Rattle.vcd_model.specs.Job.{Refusal, Want, cut_request, do_rise, first_refusal, has_unit, ok_of, sample_at}
pub use Rattle.vcd_model.specs.Keywords.{Keyword, is_end, keyword_text, keywords}
pub use Rattle.vcd_model.specs.Laws.{BodyReadingIsUnique, CodesDiffer, HeaderReadingIsUnique, IsPrefixOf, IsValid, MergeFits, NothingRevised, NothingRevisedInMerge, RequestsAreValid, RoomFits, ShortIsShortest, TicksAreRounded, changes_kept, entries_where, merged_codes, merged_entry, read_text, renamed_code, stream_over}
pub use Rattle.vcd_model.specs.Merge.{Dump, Key, Keyed, KeyedFault, by_key, dump_of, earlier_fault, factor, headers_of, insert_by_key, is_change, is_too_large, items_before, key_after, key_lt, keyed_after, keyed_fault, keyed_items, merge_close, merge_kept, merge_open, merged_items, placed_is_too_large}
pub use Rattle.vcd_model.specs.MergeByInput.{due_with, entry_for, is_merged, keyed_own, keyed_rest, with_item, written_with}
pub use Rattle.vcd_model.specs.Outcome.{Opened, Outcome, Request, allowed_after, body_of, clean_outcome, ends_early, fault_in, fault_outcome, name_at, with_opened}
pub use Rattle.vcd_model.specs.Outcome.Request.{Check, Cut, Edges, Listing, Merge, Pick, Sample}
pub use Rattle.vcd_model.specs.Pick.{is_picked}
pub use Rattle.vcd_model.specs.Reading.{AreGood, Ending, Ends, Fault, GoOn, Grammar, IsGood, IsReading, IsUnfinished, PassChecks, Placed, Reading, phrases_of, read_from, reading_of, texts_of}
pub use Rattle.vcd_model.specs.Reading.Ending.{AtEnd, AtFault, AtLast}
pub use Rattle.vcd_model.specs.Sample.{is_settled, sample_lines}
pub use Rattle.vcd_model.specs.Scales.{exponent_of, is_scale_number, is_scale_unit, scale_text, scales}
pub use Rattle.vcd_model.specs.Selection.{Selected, is_among, is_selected, selected}
pub use Rattle.vcd_model.specs.SoFar.{IsSoFar, IsWhole}
pub use Rattle.vcd_model.specs.Ticks.{IsGreatestUpTo, IsLeastFrom, IsTicks, Moment, femtoseconds, number_ticks}
pub use Rattle.vcd_model.specs.Tokens.{HaltPlace, Stream, Token, begins_token, comes_before, end_at, first_halt, run_at, stream_until, token_at, token_places, tokens_of}
pub use Rattle.vcd_model.specs.Values.{Value, change_line, extend, extension, same_value, short, value_line, value_of, value_with}
pub use Rattle.vcd_model.specs.Values.Value.{Bits, Real}
