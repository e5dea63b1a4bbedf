-- The lemmas of this crate that its answers cite, under one path.
pub use Rattle.vcd_changes.proofs.DigitLemmas.{fits_extended, number_extended, number_one_more, ones_extended, room_for_one}
pub use Rattle.vcd_changes.proofs.DumpLemmas.{codes_in, finds_for, goes_behind, has_codes, none_before}
pub use Rattle.vcd_changes.proofs.FaultLemmas.{body_fault_is, head_fault_is, some_fault}
pub use Rattle.vcd_changes.proofs.HeaderLemmas.{found_text}
pub use Rattle.vcd_changes.proofs.LowerLemmas.{finds_more, goes_on_lower}
pub use Rattle.vcd_changes.proofs.PlaceLemmas.{ends_well, goes_on, has_not_failed, is_after}
pub use Rattle.vcd_changes.proofs.RowLemmas.{filled_ahead, filled_more, filled_none, no_row, none_ahead, not_both, taken}
pub use Rattle.vcd_changes.proofs.WalkLemmas.{came_by, walk_came}
