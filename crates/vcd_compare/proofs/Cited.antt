-- What the proofs of this crate cite of std, of specs/ and of the crates below, under one path.
pub use Prim.Native.Nat.{zero}
pub use Rattle.std.proofs.Common.{Bool, Err, List, None, Ok, Option, Result, Some, [], add-one, add-zero, ap, append-nil, append_assoc, ap₂, arith, bytes_eq, codes, cond, count_by, decimal, drop, false, filter, filter_map, find, flat_map, fold, get_or, if◌then◌else◌, inl, inr, length, map, max, min, nat_eq, nat_le, nat_lt, not, position, refl, replicate, rules, set, slice_get, subst, suc, sym, take, true, ℕ, ◌%◌, ◌&&◌, ◌*◌, ◌++◌, ◌+◌, ◌-◌, ◌/◌, ◌<◌, ◌==◌, ◌||◌, ◌∙◌, ◌∷◌, ◌≡◌, ◌≢◌, ◌≤◌, ◌⊎◌}
pub use Rattle.std.proofs.Math.Bool.{and-false, or-false, or-true, or_self}
pub use Rattle.std.proofs.lemmas.Bool.{and_cases, and_from, and_left, and_parts, and_right, cases_eq, cases_lt, eq-eqb, eqb-false, eqb-true, false_from_ne_true, le-leb, le-ltb, leb-true, lt-leb, lt-ltb, ltb-false, ltb-true, ne_eqb, or_from, or_left, or_parts, or_right}
pub use Rattle.std.proofs.lemmas.List.{append_cancel_left, flat_map_more, get_or_past, get_or-replicate, get_or-set_other, get_or-set_same, length-append, length-map, length-replicate, length-set, map-append, take-append-drop, take_all, take_more}
pub use Rattle.std.proofs.lemmas.List.Concat.{flat_map-append}
pub use Rattle.std.proofs.lemmas.List.Elements.{filter-append, filter_map-append}
pub use Rattle.std.proofs.lemmas.List.Folds.{find_at, list_any-append}
pub use Rattle.std.proofs.lemmas.List.Sums.{sum_by-append, sum_by-cons}
pub use Rattle.std.proofs.lemmas.Option.{get_or_from_slice_get, same_Some, slice_get-get_or, slice_get-map, slice_get_cases, slice_get_past, slice_get_within}
pub use Rattle.std.proofs.lemmas.Slice.Eq.{bytes_eq-Decides}
pub use Rattle.std.proofs.lemmas.Slice.Zip.{AllZip-left, AllZip-long}
pub use Rattle.std.specs.Bool.{Decides}
pub use Rattle.std.specs.Global.{Vec}
pub use Rattle.std.specs.HashSet.{HashSet}
pub use Rattle.std.specs.Io.KnownBytes.{Appends}
pub use Rattle.std.specs.List.{AllByRecursion, AllZip, list_any, position_or_len, starts_with}
pub use Rattle.std.specs.Option.{IsSomeAnd}
pub use Rattle.std.specs.Prelude.{IfErr, IfOk, IfSome, IsErr, MatchOption, is_none, is_some, option_and_then, option_map, slice_set, unwrap_or, vec_len}
pub use Rattle.vcd_body.proofs.CallerLemmas.{gave_none_ahead}
pub use Rattle.vcd_body.proofs.CompareLemmas.{length_extended}
pub use Rattle.vcd_body.proofs.CurrentLemmas.{held_still, new_holds, room_enough}
pub use Rattle.vcd_body.proofs.StoreLemmas.{get_other, get_set}
pub use Rattle.vcd_body.proofs.TableLemmas.{shown_are, value_there}
pub use Rattle.vcd_body.proofs.WalkLemmas.{walk_passes}
pub use Rattle.vcd_body.specs.Ahead.{GaveAhead, LooksOver, PassesNoItem}
pub use Rattle.vcd_body.specs.Contents.{IsLaidOut, codes_shown, held_at, shown_as, shown_code, value_in}
pub use Rattle.vcd_body.specs.Current.{AreHeld}
pub use Rattle.vcd_body.specs.Given.{HasGoodText, IsItem}
pub use Rattle.vcd_body.specs.Items.{AreRegsAfter, model_form, regs_after}
pub use Rattle.vcd_body.specs.Kept.{Held, digit_in, real_text, value_at_size}
pub use Rattle.vcd_body.specs.Stored.{digits_held}
pub use Rattle.vcd_body.specs.Taken.{IsSection}
pub use Rattle.vcd_body.specs.Walk.{Begins, Further, Past, Stage, Trail, Walks, stage_at}
pub use Rattle.vcd_body.specs.declared.answer.Stop.{Stop}
pub use Rattle.vcd_body.specs.declared.answer.Stop.TheVariants.{Dump, Read, Unmatched, Write}
pub use Rattle.vcd_body.specs.declared.item.Form.{Form}
pub use Rattle.vcd_body.specs.declared.item.Item.{Item}
pub use Rattle.vcd_body.specs.declared.item.Item.TheVariants.{Begin, Change, Finish, Time}
pub use Rattle.vcd_body.specs.declared.item.Regs.{Regs}
pub use Rattle.vcd_body.specs.declared.values.slot.Shown.{Shown}
pub use Rattle.vcd_body.specs.declared.values.table.Table.{Table}
pub use Rattle.vcd_body.specs.declared.walk.WalkEnd.{WalkEnd}
pub use Rattle.vcd_body.specs.declared.walk.WalkEnd.TheVariants.{AtItem, AtLines, Over}
pub use Rattle.vcd_compare.specs.Asked.{model_asked, model_extent, rule_of}
pub use Rattle.vcd_compare.specs.Classes.{AddsEnd, EntersClass, HasClasses}
pub use Rattle.vcd_compare.specs.Comparing.{AreCurrent, AreFlags, AreMarks, AreSkips, AreTouched, AreTriggers, Compares, ComparesOne, HasFlags, IsEarlierEnd, IsLastTrigger, IsOfCode, CanGoOn, SameRequest, differs_at, flag_by, is_last, is_triggered_last, some_below, some_differ, stops_before, triggers_with, values_differ}
pub use Rattle.vcd_compare.specs.Counterparts.{AreCounterparts, ArePlaces, AreSelected, Climbs, FindPlaces, IsFound, IsBelow, IsCounterpart, IsNth, IsPlace, IsPlacing, IsReady, IsSettled, Settles, StaySettled, looked_up, place_of, place_of_node, replaced, selected_in, with_range, without_range}
pub use Rattle.vcd_compare.specs.Touched.{AreListed, IsListed, candidate, candidates, settled_as, taken, touched}
pub use Rattle.vcd_compare.specs.HasPairs.{AreNumbersOf, EntersNames, EntersTexts, HasPairs, HasSelected, alone_at, compared_at, compared_of, unlike_at, unlike_of}
pub use Rattle.vcd_compare.specs.Kinds.{model_kind}
pub use Rattle.vcd_compare.specs.LineTexts.{ArePairLines, states_of}
pub use Rattle.vcd_compare.specs.Lines.{DoNotFall, IsQuiet, changed_at, codes_differ, flag_of, had_line, is_always, lines_due, time_compared}
pub use Rattle.vcd_compare.specs.Outcomes.{AnswersGiveOutcomes, BodiesGiveOutcomes, ways_within}
pub use Rattle.vcd_compare.specs.Pairs.{AreFew, AreLinked, ArePairs, HasEnd, HoldsPairs, IsClassOf, IsLastEnd, IsPairAt, IsShownAt, IsUnlikeAt, codes_of, named_by, names_in}
pub use Rattle.vcd_compare.specs.Paths.{AreApart, AreTexts, EntersPath, EntersText, HasTexts, IsNumberOf, has_dot, joined, node_at, texts_in}
pub use Rattle.vcd_compare.specs.Run.{Answers, HasHandled, RunStands, Tells, TellsEnd, done_of, flag_after, is_due_now, plan_within, settled_by}
pub use Rattle.vcd_run.specs.Listed.{chosen}
pub use Rattle.vcd_compare.specs.Selected.{AreInside, AreNamedBelow, AreNearest, AreWithin, both_names, is_inside, is_kept, is_one_of, lists_in}
pub use Rattle.vcd_compare.specs.Variables.{AddsVariable, AreCounted, AreNumbered, AreUsers, AreVariables, HasSome, HasUsers, IsAround, IsAt, IsKeyOf, IsNamedAt, IsPathOf, IsScopeNumber, index_in, named_in, same_key, slice_of, those_at, used_by}
pub use Rattle.vcd_compare.specs.Slices.{EntersSlice, HasSlices, IsSlice, no_blanks, tail_of}
pub use Rattle.vcd_compare.specs.declared.slices.Slices.{Slices}
pub use Rattle.vcd_compare.specs.declared.variables.Users.{Users}
pub use Rattle.vcd_compare.specs.declared.comparing.Comparison.{Comparison}
pub use Rattle.vcd_compare.specs.declared.comparing.Watched.{Watched}
pub use Rattle.vcd_compare.specs.declared.counterparts.Places.{Places}
pub use Rattle.vcd_compare.specs.declared.current.Current.{Current}
pub use Rattle.vcd_compare.specs.declared.pairs.End.{End}
pub use Rattle.vcd_compare.specs.declared.pairs.NamePair.{NamePair}
pub use Rattle.vcd_compare.specs.declared.pairs.PairRow.{PairRow}
pub use Rattle.vcd_compare.specs.declared.pairs.Pairs.{Pairs}
pub use Rattle.vcd_compare.specs.declared.pairs.UnlikeRows.{UnlikeRows}
pub use Rattle.vcd_compare.specs.declared.paths.Paths.{Paths}
pub use Rattle.vcd_compare.specs.declared.variables.Variables.{Variables}
pub use Rattle.vcd_compare.specs.declared.whole.Answer.{Answer}
pub use Rattle.vcd_compare.specs.declared.whole.Run.{Run}
pub use Rattle.vcd_head.proofs.InsideLemmas.{front_is, front_next}
pub use Rattle.vcd_head.proofs.NamePaths.{selected_begins, selects-front, selects-longer, selects_behind_byte, selects_split}
pub use Rattle.vcd_head.proofs.PathLemmas.{path_is}
pub use Rattle.vcd_head.specs.Inside.{front}
pub use Rattle.vcd_head.specs.Paths.{scopes_text}
pub use Rattle.vcd_model.proofs.BodyFacts.{all_back, body_fit}
pub use Rattle.vcd_model.proofs.FinalValues.{times_within, value_by}
pub use Rattle.vcd_model.proofs.Growing.{each_after-append, entries-append}
pub use Rattle.vcd_model.proofs.HeaderFacts.{stream_words}
pub use Rattle.vcd_model.proofs.ItemStates.{AreFit}
pub use Rattle.vcd_model.proofs.Latest.{gives_at, last_value_is, latest, latest-append}
pub use Rattle.vcd_model.proofs.MergeSoFar.{fault_output}
pub use Rattle.vcd_model.proofs.ScopeLemmas.{innermost, slice_get-take}
pub use Rattle.vcd_model.proofs.SoFarLemmas.{whole-more}
pub use Rattle.vcd_model.proofs.Times.{below_greatest, fold-append, greatest_from, last_where-append, marks-append, none_later, time_after-append}
pub use Rattle.vcd_model.proofs.TokenTexts.{IsWord}
pub use Rattle.vcd_model.specs.Backward.{each, each_after}
pub use Rattle.vcd_model.specs.BodyReading.{body_fault_of, body_items, read_body}
pub use Rattle.vcd_model.specs.Bytes.{is_empty}
pub use Rattle.vcd_model.specs.Compare.{Asked, Extent, Kind, Named, Pair, Rule, all_match, all_named, alone_lines, changes_at, count_line, differs, digits_match, ends_with, exactly, first_of, full_name, in_order, is_alike, is_due, is_fit, is_left_in, is_triggered, kind_of, kind_shown, lacks_range, lines_at, lone, match, name_in, named_after, only_at, range_of, same_kind, state_at, the_only, unlike_lines, value_line, values_match, with_time}
pub use Rattle.vcd_model.specs.Compare.Extent.{Always, EachPair, First}
pub use Rattle.vcd_model.specs.Compare.Kind.{Digits, Event, Real}
pub use Rattle.vcd_model.specs.Cut.{is_mark_above}
pub use Rattle.vcd_model.specs.Declarations.{Declaration, IdCode, Variable, code_of, enclosing, name_of, parent, path_of, same_code}
pub use Rattle.vcd_model.specs.HeadText.{words}
pub use Rattle.vcd_model.specs.Header.{Header, header_of}
pub use Rattle.vcd_model.specs.HeaderPhrases.{HeaderPhrase}
pub use Rattle.vcd_model.specs.HeaderReading.{header_fault_of, header_grammar}
pub use Rattle.vcd_model.specs.History.{final_value, gives_to, last_value}
pub use Rattle.vcd_model.specs.Input.{Input}
pub use Rattle.vcd_model.specs.Items.{BodyItem, Entry, entries, entry_after, is_begin, is_end_of_section, leaves_open, marks, time_after}
pub use Rattle.vcd_model.specs.Laws.{IsPrefixOf}
pub use Rattle.vcd_model.specs.Outcome.{Opened, Outcome, declarations_allowed}
pub use Rattle.vcd_model.specs.Reading.{Placed, Reading, phrases_of, reading_of, texts_of}
pub use Rattle.vcd_model.specs.Reading.Ending.{AtLast}
pub use Rattle.vcd_model.specs.Sample.{is_settled, shown}
pub use Rattle.vcd_model.specs.Selection.{Selected, selects_path, with_path}
pub use Rattle.vcd_model.specs.SoFar.{IsWhole}
pub use Rattle.vcd_model.specs.Tokens.{Stream, Token, stream_of}
pub use Rattle.vcd_model.specs.Values.{Value, extend, extension, same_value}
pub use Rattle.vcd_model.specs.Within.{Names, alone_in, at_path, compared_in, ends_run, lines_where, pair_at, pairs_in, places_of, side, times_in, turned, unlike_in, within_close, within_head, within_open}
pub use Rattle.vcd_run.proofs.OutcomeLemmas.{gives_outcome}
pub use Rattle.vcd_run.specs.Outcomes.{Belongs, IsSound, KeepOutput}
pub use Rattle.vcd_run.specs.Plan.{Plan}
pub use Rattle.vcd_run.specs.Run.{BodyBegins, left_of}
pub use Rattle.vcd_run.specs.Task.{RunsOver, TakesOne}
pub use Rattle.vcd_text.proofs.Writes.{AppendsSome, appends-first, appends-none, appends-some, appends-twice, counted, takes-failed, takes-twice}
pub use Rattle.vcd_text.specs.Ahead.{bytes_of, longest_of, passed_of}
pub use Rattle.vcd_text.specs.Device.{Device, Gains, Takes, Writes, WritesSome}
pub use Rattle.vcd_text.specs.Feed.{HasGiven, limit_of}
pub use Rattle.vcd_text.specs.declared.ahead.Ahead.{Ahead}
pub use Rattle.vcd_text.specs.declared.device.Source.{Ghosts}
pub use Rattle.vcd_text.specs.declared.device.WriteFailed.{WriteFailed}
pub use Rattle.vcd_text.specs.declared.feed.Feed.{Feed}
pub use Rattle.vcd_view.proofs.ListLemmas.{all_zip_push, bytes_flip, slice_get-front, slice_get-seam, there}
pub use Rattle.vcd_view.proofs.LookUpLemmas.{codes_len, same_place}
pub use Rattle.vcd_view.proofs.ParentLemmas.{around_some, parent_before}
pub use Rattle.vcd_view.proofs.RowLemmas.{code_at, row_of, rows_len}
pub use Rattle.vcd_view.specs.Shown.{parts}
pub use Rattle.vcd_view.specs.Views.{IsCode, IsRow, IsViewOf, counted_from_one}
pub use Rattle.vcd_view.specs.declared.code_hash.CodeSeed.{CodeSeed}
pub use Rattle.vcd_view.specs.declared.view.Code.{Code}
pub use Rattle.vcd_view.specs.declared.view.HeadView.{HeadView}
pub use Rattle.vcd_view.specs.declared.view.Row.{Row}
