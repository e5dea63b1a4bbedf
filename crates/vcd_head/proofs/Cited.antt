-- What the proofs of this crate cite of std, of specs/ and of the crates below, under one path.
pub use Rattle.indexmap.specs.IndexSet.{insert_key}
pub use Rattle.std.proofs.Common.{Bool, Err, Fits, IfErr, IfOk, IfSome, List, MatchBool, MatchOption, MatchResult, None, Ok, Option, Result, Some, [], add-one, ap, ap₂, arith, bytes_eq, codes, cond, decimal, drop, false, filter_map, find, flat_map, get_or, inl, inr, is_none, is_some, length, map, min, nat_abs, nat_eq, negsuc, not, option_and_then, option_map, pos, position, refl, replicate, reverse, rules, set, slice_get, slice_range, string_bytes, subst, suc, sum_by, sym, take, true, unwrap_or, zero, zero-add, ℕ, ℤ, ◌%◌, ◌&&◌, ◌*◌, ◌++◌, ◌+ℤ◌, ◌+◌, ◌-◌, ◌/◌, ◌<◌, ◌==◌, ◌^◌, ◌||◌, ◌∙◌, ◌∷◌, ◌≡◌, ◌≢◌, ◌≤◌, ◌⊎◌}
pub use Rattle.std.proofs.Math.Bool.{and-false, and-true, or-false, or-true}
pub use Rattle.std.proofs.Math.Nat.{mod-eq-sub-div-mul, mul-div-mul_right, mul-div_cancel, mul-mod_left, mul_assoc, one-le-pow, pow-le-pow_right}
pub use Rattle.std.proofs.Math.Seq.{drop-append_seam, drop-length, take-append-add, take-append_seam, take-length}
pub use Rattle.std.proofs.lemmas.Bool.{MatchBool-at_false, MatchBool-at_true, and_from, and_parts, cases_eq, cases_lt, cond-false, cond-true, eq-eqb, eqb-false, eqb-true, false_from_ne_true, le-ltb, leb-true, lt-ltb, ltb-false, ltb-true, ne_eqb, or_parts, or_right}
pub use Rattle.std.proofs.lemmas.Bool.Decides.{Decides-eqb, Decides-int_eq, nat_tests}
pub use Rattle.std.proofs.lemmas.Cmp.{nat_cmp_total, nat_list_cmp_total}
pub use Rattle.std.proofs.lemmas.Fn.{always_returns_same}
pub use Rattle.std.proofs.lemmas.Grind.{flat_map-append}
pub use Rattle.std.proofs.lemmas.Int.{ints, to_z-of_z}
pub use Rattle.std.proofs.lemmas.List.{append-nil, append_assoc, get_or-append_right, get_or-drop, get_or-map, get_or-replicate, get_or-set_other, get_or-set_same, get_or_append_left, get_or_default, get_or_past, length-append, length-drop, length-map, length-reverse, length-set, length-take, length-take-le, length_push, map-append, reverse-append, take-append-drop, take-append-le, take_all, take_at, take_min, take_more}
pub use Rattle.std.proofs.lemmas.List.Elements.{filter_map-append}
pub use Rattle.std.proofs.lemmas.List.Folds.{concat-append, find-append, find_at, list_all_more, list_any-append, list_any_at, list_any_more}
pub use Rattle.std.proofs.lemmas.List.FromFn.{fill_by_all, get_or-map-range_with_len, get_or-range_with_len, length-map-range_with_len, length-range_with_len}
pub use Rattle.std.proofs.lemmas.List.MinMax.{ranks_by}
pub use Rattle.std.proofs.lemmas.List.Prefix.{front_rest}
pub use Rattle.std.proofs.lemmas.List.Sorted.{All-permutation, Contains-permutation, IsPermutation-map, searched, sorted_far}
pub use Rattle.std.proofs.lemmas.List.Sums.{fold-append, passes_at_first, position_or_len_is, sum_by-append, sum_by_push}
pub use Rattle.std.proofs.lemmas.Map.Keys.{IsDistinct-IsPermutation, apart_from_distinct}
pub use Rattle.std.proofs.lemmas.Map.Text.{is_eq-slice_cmp}
pub use Rattle.std.proofs.lemmas.Nat.{div-add-mod', mod-mul-add, pow-add}
pub use Rattle.std.proofs.lemmas.Option.{cond_some, get_or_from_slice_get, none-some, same_Some, slice_get-get_or, slice_get_past, slice_get_read, slice_get_within, unwrap_or-slice_get}
pub use Rattle.std.proofs.lemmas.Result.{err_from_is_err_and}
pub use Rattle.std.proofs.lemmas.Slice.Eq.{bytes_eq-Decides, strip_prefix_is}
pub use Rattle.std.proofs.lemmas.Slice.Zip.{AllZip-long, zip_end, zip_turn}
pub use Rattle.std.specs.Borrow.{Bor}
pub use Rattle.std.specs.Char.{is_ascii_digit}
pub use Rattle.std.specs.Cmp.{IsStrictWeakOrder, nat_cmp_is}
pub use Rattle.std.specs.Cmp.Lexicographic.{slice_cmp}
pub use Rattle.std.specs.Global.{Vec}
pub use Rattle.std.specs.Int.{div_ceil, int_min}
pub use Rattle.std.specs.Io.KnownBytes.{Appends}
pub use Rattle.std.specs.Iterator.Adapters.{zip_first, zip_second}
pub use Rattle.std.specs.List.{All, AllByRecursion, AllZip, Contains, IsDistinct, concat, join_with_byte, last_or, list_all, list_any, position_or_len, prefix_len, range_with_len, reduce, starts_with}
pub use Rattle.std.specs.List.Sorted.{IsBinarySearchResult, IsSorted, IsSortedBy, IsStrictlySortedBy}
pub use Rattle.std.specs.Option.{SomeIff, ok_or, option_or}
pub use Rattle.std.specs.Ordering.{int_eq, is_eq, is_lt, nat_cmp, ordering_reverse}
pub use Rattle.std.specs.Prelude.{IsPermutation, fold, int_le, nat_le, nat_lt, option_to_list, ◌-ℤ◌}
pub use Rattle.std.specs.declared.cmp.Ordering.{Ordering}
pub use Rattle.std.specs.declared.cmp.Ordering.TheVariants.{Equal, Greater, Less}
pub use Rattle.std.specs.Slice.Iter.{iter_rest}
pub use Rattle.vcd_head.specs.Calls.{ReadsEnd}
pub use Rattle.vcd_head.specs.Codes.{HasNone, Rises, RisesFrom, is_declared_as, is_of, keys_behind, keys_of}
pub use Rattle.vcd_head.specs.Declares.{IsBarred, MayStart, keyword_for}
pub use Rattle.vcd_head.specs.Draft.{AtFirstToken, AtKeyword, AtOther, CodeHeld, Declares, DraftsAll, DraftsUpTo, HasCodes, IsDraftOf, IsEntered, IsNew}
pub use Rattle.vcd_head.specs.Entered.{AddsKey, EntersKey, HasKey, code_with}
pub use Rattle.vcd_head.specs.Fault.{fault_number}
pub use Rattle.vcd_head.specs.Fronts.{AreRanks, AreShort, position_in_rank, prefix_in, rank_in, rank_of}
pub use Rattle.vcd_head.specs.Inside.{AreOpen, Enters, HasEntered, front}
pub use Rattle.vcd_head.specs.Keys.{AreKeysOf, is_key, same_shape, shape_in, shape_of}
pub use Rattle.vcd_head.specs.Marks.{AllMarked, AreClosed, Marked, is_marked}
pub use Rattle.vcd_head.specs.Matched.{HaveMatched, IsFirstFalse, Matched, Matches}
pub use Rattle.vcd_head.specs.Merged.{FitNumbers, IsBehind, ShowHeaders, closing, due, numbered, opening, opening_of, openings, pending_behind, written_behind}
pub use Rattle.vcd_head.specs.Moments.{asked, told, with_unit}
pub use Rattle.vcd_head.specs.NameOrder.{AreSame, AreShared, IsOrder, Notes, SelectsAll, comes_before, first_of, next_bytes, next_in, text_at}
pub use Rattle.vcd_head.specs.Paths.{names_text, scopes_text}
pub use Rattle.vcd_head.specs.Reads.{Fails, FailsAtEnd, FailsAtToken, GivesHead, HasFault, IsFaultless, IsGoodSoFar, Reads, ReadsToken, ReadsWhole}
pub use Rattle.vcd_head.specs.Runs.{Follows, GoesOn, IsDecided, Narrows}
pub use Rattle.vcd_head.specs.Scaled.{ScaleRead}
pub use Rattle.vcd_head.specs.ScopesLeft.{GivesNext, IsHeld, LeavesScopes, Walks}
pub use Rattle.vcd_head.specs.Selects.{selects_after}
pub use Rattle.vcd_head.specs.Shown.{shown}
pub use Rattle.vcd_head.specs.Texts.{AsksEnd, EndsThere, ReadsOn, RunsOn, Welcomes, spaced}
pub use Rattle.vcd_head.specs.Variables.{variable}
pub use Rattle.vcd_head.specs.Words.{power_in, size_in, unit_in}
pub use Rattle.vcd_head.specs.declared.code_key.CodeKey.{CodeKey}
pub use Rattle.vcd_head.specs.declared.codes.Codes.{Codes}
pub use Rattle.vcd_head.specs.declared.draft.Draft.{Draft}
pub use Rattle.vcd_head.specs.declared.enclosing.Enclosing.{Enclosing}
pub use Rattle.vcd_head.specs.declared.fault.HeadFault.{HeadFault}
pub use Rattle.vcd_head.specs.declared.fault.HeadFault.TheVariants.{BadScope, BadTimescale, BadVariable, CodeDiffers, EndOfInput, InputTooLong, NoScope, OutOfMemory, OutOfPlace, ReadFailed, TokenTooLong, TooDeep, TooMany, UnknownCommand}
pub use Rattle.vcd_head.specs.declared.head.Head.{Head}
pub use Rattle.vcd_head.specs.declared.inside.Inside.{Inside}
pub use Rattle.vcd_head.specs.declared.inside.Open.{Open}
pub use Rattle.vcd_head.specs.declared.moment.TickFault.{TickFault}
pub use Rattle.vcd_head.specs.declared.moment.TickFault.TheVariants.{OutOfRange}
pub use Rattle.vcd_head.specs.declared.names.NameRun.{NameRun}
pub use Rattle.vcd_head.specs.declared.selection.Match.{Match}
pub use Rattle.vcd_model.proofs.Decimals.{decimal_value-push}
pub use Rattle.vcd_model.proofs.Growing.{each_after-append}
pub use Rattle.vcd_model.proofs.HeaderGrammar.{find_passes, keyword_is, keyword_of-text}
pub use Rattle.vcd_model.proofs.MarkedPlaces.{around_marks, below_other, none_any, places_after, places_at, places_below, places_split}
pub use Rattle.vcd_model.proofs.ScopeLemmas.{enclosing-scope, enclosing-up, enclosing-var, enclosing_below, innermost, slice_get-take}
pub use Rattle.vcd_model.proofs.SoFarLemmas.{earlier-so_far, faulty-token, so_far-nothing, so_far-phrase, so_far-token, whole-phrase, without-last}
pub use Rattle.vcd_model.specs.Backward.{each, each_after}
pub use Rattle.vcd_model.specs.Bound.{kept_bytes}
pub use Rattle.vcd_model.specs.Bytes.{decimal_value, is_code_byte, is_decimal, is_empty}
pub use Rattle.vcd_model.specs.Checks.{first_failed, ◌or_fault◌}
pub use Rattle.vcd_model.specs.Declarations.{Declaration, IdCode, Variable, code_of, codes_of, enclosing, first_token, has_text, is_scope, is_up, name_of, names_at, open_scopes, parent, path_of, variable_of, variables_of}
pub use Rattle.vcd_model.specs.HeadText.{code_place, end_line, exponent, first_number, first_place, input_head, new_code, row_line, rows_text, scope_line, smaller, three_lines, three_lines_of, up_line, up_lines_at, var_line}
pub use Rattle.vcd_model.specs.Header.{Header, header_of}
pub use Rattle.vcd_model.specs.HeaderChecks.{agrees, begins_change, header_fault, inner_checks, inner_of, is_size, same_flag, start_checks, start_of, timescale_checks, var_checks}
pub use Rattle.vcd_model.specs.HeaderPhrases.{HeaderPhrase, date_of, declaration_of, declarations_of, header_phrase, phrase_behind, phrase_with, scale_of, timescale_of, until_end, variable_with, version_of}
pub use Rattle.vcd_model.specs.HeaderReading.{header_fault_of, header_grammar, is_last}
pub use Rattle.vcd_model.specs.Input.{Input}
pub use Rattle.vcd_model.specs.Job.{unit_exponent}
pub use Rattle.vcd_model.specs.Keywords.{Keyword, is_command, is_end, is_unknown_command, keyword_of, keyword_text}
pub use Rattle.vcd_model.specs.Laws.{IsPrefixOf}
pub use Rattle.vcd_model.specs.Reading.{Placed, Reading, phrases_of, reading_of}
pub use Rattle.vcd_model.specs.Scales.{exponent_of, is_scale_number, is_scale_unit, scale_text, scales}
pub use Rattle.vcd_model.specs.Selection.{Selected, first_unmatched, is_among, is_selected, is_variable, marked_places, selected, selects_code, selects_path, with_path}
pub use Rattle.vcd_model.specs.SoFar.{IsSoFar}
pub use Rattle.vcd_model.specs.Ticks.{Moment, in_range, ticks}
pub use Rattle.vcd_model.specs.Tokens.{Stream, Token, stream_of}
pub use Rattle.vcd_text.proofs.AdvancesLemmas.{advances_nowhere, advances_on}
pub use Rattle.vcd_text.proofs.ShownLemmas.{read_to_shown}
pub use Rattle.vcd_text.proofs.Steps.{before_or_from}
pub use Rattle.vcd_text.proofs.Writes.{AppendsSome, appends-first, appends-none, appends-some, appends-twice, counted, takes-twice}
pub use Rattle.vcd_text.specs.Advances.{Advances, CallEnd}
pub use Rattle.vcd_text.specs.Answer.{Ends, failed_after}
pub use Rattle.vcd_text.specs.Calls.{StandsStill}
pub use Rattle.vcd_text.specs.Device.{Puts, Takes}
pub use Rattle.vcd_text.specs.Feed.{HasGiven, limit_of, seen, token_of, value_of}
pub use Rattle.vcd_text.specs.declared.device.Source.{Ghosts}
pub use Rattle.vcd_text.specs.declared.feed.Feed.{Feed}
pub use Rattle.vcd_view.proofs.EntryLemmas.{all_replicated}
pub use Rattle.vcd_view.proofs.KeyLemmas.{same_key}
pub use Rattle.vcd_view.proofs.KeywordLemmas.{no_ends_more, not_until, until}
pub use Rattle.vcd_view.proofs.ListLemmas.{all_push, all_weaker, all_zip_push, bytes_flip, same_bytes, slice_get-front, slice_get-seam, there, to_all}
pub use Rattle.vcd_view.proofs.LookUpLemmas.{codes_len, place_is, same_place, texts_range}
pub use Rattle.vcd_view.proofs.ParentLemmas.{around_none, around_some, parent_before, parent_of_row, scopes_around, take-take, with_scopes}
pub use Rattle.vcd_view.proofs.RoomLemmas.{codes_few}
pub use Rattle.vcd_view.proofs.RowLemmas.{bytes_are, code_of_shown, read_row, row_at, row_of, row_of_variable, rows_len, text_within}
pub use Rattle.vcd_view.specs.Entries.{are_right, code_bytes, is_right}
pub use Rattle.vcd_view.specs.Finds.{Finds}
pub use Rattle.vcd_view.specs.Keys.{AreBytes, key_in}
pub use Rattle.vcd_view.specs.Keywords.{NoEnds, model_keyword}
pub use Rattle.vcd_view.specs.Shown.{HeadShown, parts}
pub use Rattle.vcd_view.specs.Views.{AreHeld, AreRows, HasTexts, IsCode, IsExponent, IsIndex, IsRow, IsRowOf, IsSize, Views, code_text, counted_from_one, reference_of, type_of}
pub use Rattle.vcd_view.specs.contracts.view.Kind.{the_type}
pub use Rattle.vcd_view.specs.declared.view.Code.{Code}
pub use Rattle.vcd_view.specs.declared.view.Kind.{Kind}
pub use Rattle.vcd_view.specs.declared.view.Row.{Row}
pub use Rattle.vcd_view.specs.declared.view.Scale.{Scale}
pub use borrow.Author.Count.{below_more}
pub use denote.Enum.Bare.{sameb}
pub use mir.Syntax.{w8}
pub use mir.Val.{SFits, of_z, to_z}
