-- The lemmas of this crate that its answers cite, under one path.
pub use Rattle.vcd_merge.proofs.AheadTrails.{change_taken, mark_taken, section_taken, walk_runs}
pub use Rattle.vcd_merge.proofs.DueLine.{due_failed, due_put}
pub use Rattle.vcd_merge.proofs.Dumps.{marked_dump}
pub use Rattle.vcd_merge.proofs.MergeCloses.{closes_none, closes_some}
pub use Rattle.vcd_merge.proofs.MergeCounts.{get_map_or, left_moved, map_set, set_last, still_named}
pub use Rattle.vcd_merge.proofs.MergeItem.{event_of, line_is, number_fits, section_is, some_digits}
pub use Rattle.vcd_merge.proofs.MergeRoomLemmas.{still_within, without_windows}
pub use Rattle.vcd_merge.proofs.MergeRunOn.{IsSoFar}
pub use Rattle.vcd_merge.proofs.MergeRuns.{advances_on, as_many_olds, ended_on, same_failures, still_low, stopped_on, unwritten_head}
pub use Rattle.vcd_merge.proofs.MergeStart.{SetSoFar, all_set, as_begun, heads_given, holds_begun, one_more, opens, opens_with, power_fits, power_of, ready_begun}
pub use Rattle.vcd_merge.proofs.MergeSteps.{len_map}
pub use Rattle.vcd_merge.proofs.MergeTrails.{TookTurn, has_ended, one_step, was_cut, was_stopped, went_on}
pub use Rattle.vcd_merge.proofs.OrderLemmas.{alone_before, before_last, last_is_next, later_to, moved_behind, none_waiting, not_in, others_stay, others_wait, put_in, some_waits, sooner_from, with_one}
pub use Rattle.vcd_merge.proofs.PartLemmas.{AreOwn, len_chunks, len_put, len_tokens, lent_len, part_ends, part_other, seated_put, spot_lent, spot_other, spot_put}
pub use Rattle.vcd_merge.proofs.SeatAhead.{ahead_turns, lies_first}
pub use Rattle.vcd_merge.proofs.SeatLemmas.{faulty, large, no_more_at_end, no_more_at_item, not_large, out_of, timed, turned}
pub use Rattle.vcd_merge.proofs.SeatTrails.{at_once, cut_as, ended_as, goes_on, reaches_to, run_from, run_on, stays_at, turns_after, turns_then}
