-- What the contracts of this crate cite, under one path: names of the crates below, and of this
-- one.
pub use Rattle.vcd_model.specs.HeadText.{least_exponent, merged_head}
pub use Rattle.vcd_model.specs.Header.{Header}
pub use Rattle.vcd_model.specs.ItemText.{time_due}
pub use Rattle.vcd_model.specs.Items.{BodyItem}
pub use Rattle.vcd_model.specs.Merge.{Dump, factor, merge_close, merge_open, merged_items}
pub use Rattle.vcd_model.specs.Tokens.{Token}
pub use Rattle.vcd_text.specs.Advances.{Advances, CallEnd, HasNotFailed}
pub use Rattle.vcd_text.specs.Ahead.{bytes_of, longest_of, passed_of}
pub use Rattle.vcd_text.specs.Device.{Counts, Device, failures_after, Puts, supply, Takes, Writes}
pub use Rattle.vcd_text.specs.Feed.{chunk_len_of, limit_of, parked_of, parked_seen, SameLoans, seen, source_of}
pub use Rattle.vcd_text.specs.Passed.{IsRun, Passed}
pub use Rattle.vcd_text.specs.Registers.{Fits}
pub use Rattle.vcd_view.specs.Shown.{parts}
pub use Rattle.vcd_view.specs.Views.{IsExponent, IsViewOf, Views}
pub use Rattle.vcd_view.specs.declared.view.Code.{Code}
pub use Rattle.vcd_head.specs.Merged.{ShowHeaders}
pub use Rattle.vcd_head.specs.Shown.{shown}
pub use Rattle.vcd_body.specs.Answer.{EndsAtRead, goes_on, NamesInput, reads_failed}
pub use Rattle.vcd_body.specs.Given.{IsGoodText}
pub use Rattle.vcd_body.specs.Prompt.{HasPassedOn}
pub use Rattle.vcd_body.specs.Taken.{TakesItem}
pub use Rattle.vcd_merge.specs.MergeAhead.{PutsDue, seat_with, TakesNext}
pub use Rattle.vcd_merge.specs.MergeOrder.{greatest_time, IsNext}
pub use Rattle.vcd_merge.specs.MergeParts.{AreParts, AreSeated, part, part_len, SameLengths, spot_at}
pub use Rattle.vcd_merge.specs.MergeRoom.{MergeIsWithinBound, no_windows, windows_size}
pub use Rattle.vcd_merge.specs.MergeRun.{Follows}
pub use Rattle.vcd_merge.specs.MergeStart.{AreBegun, AreOpen, HasBegun, HaveNoItems}
pub use Rattle.vcd_merge.specs.MergeStep.{AreMarked, EndsAtReadOf, failures_with, Gives, Holds, is_going, IsReady, last_written, left_of, standing, standing_of}
pub use Rattle.vcd_merge.specs.MergeTrail.{AheadTurns, Runs, RunTurns, stage, stage_with, Touches, TurnsAt}
pub use Rattle.vcd_merge.specs.Order.{AllWait}
pub use Rattle.vcd_merge.specs.Seat.{AtSeat, IsSeated, Lane, SameSeat, Spot, spot, spot_with, Turns}
pub use Rattle.vcd_merge.specs.SeatStep.{CountsWrites, Moved}
