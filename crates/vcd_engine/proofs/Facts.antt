-- The lemmas of this crate that its answers cite, under one path.
pub use Rattle.vcd_engine.proofs.CheckLemmas.{are_few, counted_begin, counted_change, counted_end, counted_time, report_is, six_lines}
pub use Rattle.vcd_engine.proofs.CutLemmas.{above_is, begun_at, begun_some, close_tells, closes_started, closes_unstarted, due_item, item_held, item_kept, item_passed, item_tells, item_time, kept_is, mark_before, mark_ends, mark_goes, mark_within, no_mark_is, none_before, open_begun, open_plain, open_some, plain_at, read_code, starts_begun, starts_plain, values_due, values_line, values_none, values_pass, values_rest}
pub use Rattle.vcd_engine.proofs.EngineLemmas.{stops_unmatched}
pub use Rattle.vcd_engine.proofs.ItemTextLemmas.{change_is, section_is, some_text, text_with, written_with}
pub use Rattle.vcd_engine.proofs.LeadLemmas.{LeadFrom, leads_past, leads_same, leads_shown, leads_shown_at, lines_all, mark_of_shown, no_rows, other_has_none, variable_has}
pub use Rattle.vcd_engine.proofs.Lines.{all-at}
pub use Rattle.vcd_engine.proofs.ListLemmas.{line_after, line_of_row, lines-pass, lines-variable, lines_after, listed-all, listed-some, row_there}
pub use Rattle.vcd_engine.proofs.NextLemmas.{goes_on_item, more_quietly}
pub use Rattle.vcd_engine.proofs.PickLemmas.{due_one, kept_time, last_tells, last_time, none_due, picks_on, picks_still}
pub use Rattle.vcd_engine.proofs.PieceLemmas.{begun_on, change_next, first_on, front_is, joined, line_there, next_line_is, no_timestamp_at, no_timestamp_here, none_held, none_on, pending_on, put_on, same_regs, section_next, twice_behind, two_bytes_line}
pub use Rattle.vcd_engine.proofs.PlanLemmas.{ahead_plan, closes_plan, takes_plan}
pub use Rattle.vcd_engine.proofs.RoomLemmas.{no_room_fits, no_room_within, pick_room_fits, pick_room_within, still_within, windows, within_each}
pub use Rattle.vcd_engine.proofs.RunLemmas.{begun_plan, follows, runs_plan, step_plan}
pub use Rattle.vcd_engine.proofs.SampleLemmas.{closes, due_unsettled, ends_is, first_or_len, place_within, quiet_item, quiet_mark, samples_behind, some_left, takes_due}
pub use Rattle.vcd_engine.proofs.SampleLines.{event_is, line_at, lines_are, no_line}
pub use Rattle.vcd_engine.proofs.SelectedLines.{declared_at, rows_all, rows_before, rows_marked, rows_none, rows_other, rows_some, rows_unmarked}
pub use Rattle.vcd_engine.proofs.StartStops.{never_begun}
pub use Rattle.vcd_engine.proofs.TallyLemmas.{follow_tallied, mark_passed, mark_tallied, new_tallied, shown_there, sized_there, still_tallied}
pub use Rattle.vcd_engine.proofs.TallyLines.{row_is, rows_are}
pub use Rattle.vcd_engine.proofs.Variables.{is_declared, read_other, read_variable}
pub use Rattle.vcd_engine.proofs.WalkLemmas.{passed_to, walk_begins, walk_ends, walk_over, walk_wrong}
