-- The lemmas of this crate that its answers cite, under one path.
pub use Rattle.vcd_head.proofs.CodeChecks.{code_bad, code_bytes, code_checked, not_some}
pub use Rattle.vcd_head.proofs.CodeKeys.{all_bytes, len_of, none_entered}
pub use Rattle.vcd_head.proofs.DraftCodes.{agrees_new}
pub use Rattle.vcd_head.proofs.DraftLemmas.{closed_narrow, code_narrow, has_codes_grow, holds_declared, holds_scale, scope_declared, scope_narrow, some_token, up_declared, var_entered}
pub use Rattle.vcd_head.proofs.DraftSteps.{carried, failed_test, no_scope, passed_test, popped, room, scope_may, some_open, too_deep, too_many, up_may, var_may, whole_test}
pub use Rattle.vcd_head.proofs.EnclosingLemmas.{HasWalked, IsReady, all_around, gives_some, leaves_most, ready_as_held, ready_by_walk, walk_ends, walk_first, walk_next, walk_stops}
pub use Rattle.vcd_head.proofs.EnteredLemmas.{entered_known, entered_new, entered_other}
pub use Rattle.vcd_head.proofs.FlagLemmas.{HaveFlags, are_at, flagged_all, flagged_next, flagged_none, flagged_other, flagged_outside, flagged_unmarked}
pub use Rattle.vcd_head.proofs.IndexLemmas.{before, front_fits, index_made, range_push}
pub use Rattle.vcd_head.proofs.InsideLemmas.{LeftAround, declares_none, declares_one, entered_next, front_is, front_next, get_mapped, is_empty-map, left_first, left_next, none_selects, notes_grow, notes_then_match, open_kept, open_matched, set_at, some_grouped, some_taken, take_group, the_variable}
pub use Rattle.vcd_head.proofs.MarkLemmas.{closed_after, closed_zeros, counted_within, marked_all, marked_before, marked_both, marked_first, marked_group, walk_on}
pub use Rattle.vcd_head.proofs.MarkedHead.{head_is, head_of_parts}
pub use Rattle.vcd_head.proofs.MatchLemmas.{Matching, first_is, first_within, match_all, match_first, match_next, match_none, match_same, matched_next, matched_row, no_match, none_matched, or_false, or_true, selected_row, unmatched_first, unmatched_later}
pub use Rattle.vcd_head.proofs.MergedLemmas.{HeaderAt, all_passed, header_at, input_text, least_more, number_more, numbers_fit, with_one}
pub use Rattle.vcd_head.proofs.MomentLemmas.{in_range_told, some_power, ticks_part_down, ticks_part_up, ticks_whole, unit_found, unit_missing}
pub use Rattle.vcd_head.proofs.NamePaths.{HasMatched, behind_component, component_differs, match_component, name_goes_on, other_front, point_behind, rest_decides, selects-longer}
pub use Rattle.vcd_head.proofs.OpenScopes.{Closes, closes_next, closes_none, closes_some, last_row, none_open, open_after_last_up, open_after_scope, open_after_up, open_after_var}
pub use Rattle.vcd_head.proofs.OrderLemmas.{before_weak, numbered_has, numbered_within, order_made, read_same}
pub use Rattle.vcd_head.proofs.PathLemmas.{HasNames, name_next, names_first, names_more, names_some, path_is, point_some}
pub use Rattle.vcd_head.proofs.PendingScopes.{IsWritten, Opens, behind_is, closing_is, few_written, kind_is, last_lines, nothing_written, opens_first, opens_more, opens_next, opens_some, row_next, row_some, scope_row_is, up_row_is, var_row_is}
pub use Rattle.vcd_head.proofs.PhraseLemmas.{barred, begun, ended, inside, not_begun, refused_inside, scale_asks_end, scope_asks_end, scope_welcomes_name, scope_welcomes_type, upscope_asks_end, var_runs, var_welcomes_reference, var_welcomes_type, var_whole}
pub use Rattle.vcd_head.proofs.PhraseSteps.{begun_by, carries_nothing, finished, unknown_begun, unknown_read}
pub use Rattle.vcd_head.proofs.RankLemmas.{place_left, ranks_made, ranks_more}
pub use Rattle.vcd_head.proofs.RenamedLemmas.{place_read}
pub use Rattle.vcd_head.proofs.RisingLemmas.{enters_found, enters_known, enters_number, enters_set, last_in, last_is, none_above, none_at, none_keyed, none_there, place_above, place_first, place_none, place_searched}
pub use Rattle.vcd_head.proofs.RunLemmas.{Noting, none_noted, noted_all, noted_before, noting_next, rises_in}
pub use Rattle.vcd_head.proofs.RunSteps.{follows_along, follows_step, goes_both, goes_empty, goes_nowhere, notes_step, path_selected, take_on}
pub use Rattle.vcd_head.proofs.ScaleChecks.{number_read, one_read, one_refused, two_added, two_refused}
pub use Rattle.vcd_head.proofs.ScaleLemmas.{front_1, front_10, front_100, front_other, not_stripped, stripped}
pub use Rattle.vcd_head.proofs.ScaleTexts.{no_scale, scale_in_range}
pub use Rattle.vcd_head.proofs.SelectionLemmas.{marks_more, marks_same}
pub use Rattle.vcd_head.proofs.TextSteps.{ends_at_once, ends_behind, faultless_more, joined, one_first, reads_more, runs_behind, spaced_more}
pub use Rattle.vcd_head.proofs.TokenSteps.{ends_on, fails_at_end, faultless, faultless_phrase, kept, refused, stays, then_ok, welcomed}
pub use Rattle.vcd_head.proofs.WordLemmas.{fault_of_change, fault_of_other, size_found, size_missing, size_parts, value_more}
pub use Rattle.vcd_head.proofs.WriteLemmas.{code_size, code_there, declared_there, lines-all, lines-next, lines-some, own_text, row_there, scope_row, scope_text, some_reference, texts-some, unmarked_row, up_none, up_some, variable_rest, variable_row, variable_text}
