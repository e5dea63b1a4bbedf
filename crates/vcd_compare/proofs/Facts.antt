-- The lemmas of this crate that its answers cite, under one path.
pub use Rattle.vcd_compare.proofs.AheadSteps.{ready_ahead, runs_ahead}
pub use Rattle.vcd_compare.proofs.ClassLemmas.{class_new}
pub use Rattle.vcd_compare.proofs.CompareSteps.{compares_still, compares_with, none_differs, none_some, not_past, open_same, other_quiet, same_time, section_quiet, some_found, time_later, time_more, time_same}
pub use Rattle.vcd_compare.proofs.EndLemmas.{marks_changed, touched_done, touched_first, touched_many, touched_on}
pub use Rattle.vcd_compare.proofs.KindLemmas.{is_digits, is_event, is_real, is_shortreal}
pub use Rattle.vcd_compare.proofs.LineLemmas.{byte_of, bytes_of, name_line, name_texts, alone_line, alone_of, alone_texts, event_is, event_shown, head_empty, head_is, lines_cut, lines_more, pair_codes, pair_line, pair_texts, state_texts, state_words, texts_cut, texts_last, take_next as take_one, texts_more, texts_none, unlike_line, unlike_texts, zip_get}
pub use Rattle.vcd_compare.proofs.MatchLemmas.{match_self}
pub use Rattle.vcd_compare.proofs.OutermostLemmas.{AreDistinct, Consists, GoesUp, around_apart, around_both, around_first, around_second, consists, distinct_more, is_out, out_more, outermost_below, outermost_is, up_found, up_next, up_none}
pub use Rattle.vcd_compare.proofs.PairLoops.{AloneBefore, HeldBefore, HeldNames, alone_all, alone_one, alone_same, few_kept, held_all, held_next, names_next, places_before}
pub use Rattle.vcd_compare.proofs.PairSteps.{fits_as, held_alone, held_unlike, kind_apart, kind_same, named_row, pair_more, path_number, place_both, place_missing, shown_name}
pub use Rattle.vcd_compare.proofs.PathTexts.{IsEntering, entering_more, number_within, path_entered, text_entered, text_found}
pub use Rattle.vcd_compare.proofs.PlaceLemmas.{and_next, climbs_back, climbs_none, climbs_on, empty_is, keys_of, listed_below, listed_variables, looked_next, lone_both, lone_place, only_is, only_none, paths_within, placed_at, places_found, placing_first, placing_next, range_number, ranged_first, ranged_place, same_len, text_is, zip_from}
pub use Rattle.vcd_compare.proofs.SliceLemmas.{slice_entered, slices_none, zip_at}
pub use Rattle.vcd_compare.proofs.RowPaths.{NumbersSome, around_at, around_joined, err_then, names_more, ok_then, some_row, texts_stay, zip_stays}
pub use Rattle.vcd_compare.proofs.RunEnds.{not_ended}
pub use Rattle.vcd_compare.proofs.RunSteps.{begins_none, closes, takes_section, takes_quiet, takes_time, time_forth}
pub use Rattle.vcd_compare.proofs.SelectedLemmas.{both_one, both_zip, named_below}
pub use Rattle.vcd_compare.proofs.SkipLemmas.{next_after, next_is, skips_after, skips_first, skips_stay}
pub use Rattle.vcd_compare.proofs.StartLemmas.{compares_first, open_first}
pub use Rattle.vcd_compare.proofs.StatesNow.{apart_from, bits_real, bits_there, both_real, few_match, held_final, held_state, lengths_match, next_digit, shown_digits, some_unset, told_same, triggered_now, unset_some}
pub use Rattle.vcd_compare.proofs.TimeSteps.{differs_none, differs_some, none_now, puts_now, settles_due, settles_none, tells_again, tells_first, tells_later, tells_none}
pub use Rattle.vcd_compare.proofs.TouchedLemmas.{GoneThrough, found, gone_all, gone_first, gone_kept, gone_taken, none_listed, one_within, still_listed}
pub use Rattle.vcd_compare.proofs.TriggerLemmas.{triggers_after}
pub use Rattle.vcd_compare.proofs.UnselectedLemmas.{IsMarking, all_held, both_held, exception_held, exception_unheld, held_all as held_by_all, marked_none, marking_first, marking_met, marking_next, marking_top, one_unheld, other_unheld}
pub use Rattle.vcd_compare.proofs.VariableLemmas.{counted_at, is_variable, not_variable, some_more, some_none, some_same, zero_behind}
