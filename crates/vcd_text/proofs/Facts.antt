-- The lemmas of this crate that its answers cite, under one path.
pub use Rattle.vcd_text.proofs.AheadLemmas.{line_feeds_in-joined, line_feeds_in-next, slice-index, slice_range-append}
pub use Rattle.vcd_text.proofs.Digits.{HasRead, back_fails, few_below, front_fails, product_too_large, read_all, read_more, sum_too_large, two_below, two_spelled}
pub use Rattle.vcd_text.proofs.Eights.{all_digits, fits-padded, lanes_kept, lanes_value, last_of_eight, length-padded, no_digits, padded, spelled-padded, worth}
pub use Rattle.vcd_text.proofs.FirstLemmas.{Stays, stays_long, stays_part, stays_whole}
pub use Rattle.vcd_text.proofs.Known.{first-stands, if-some, near-more, next-stands, parked-stands}
pub use Rattle.vcd_text.proofs.Masks.{above_space, all_found, bits-none, bits-on, clear-is, found, mask-shifted, ones-sel, places_ok, set-inside, sum-ones, sum-three, tells, tells-none}
pub use Rattle.vcd_text.proofs.OffsetLemmas.{goes_on_at, phase_back}
pub use Rattle.vcd_text.proofs.PassedLemmas.{ahead_fits, before_bits, gone_fits, line_feeds_in-few, marked_first, marked_run, pass_far, pass_stands, passed_to, passed_within, run_behind, run_bits, run_past, white_on, white_one, white_rest}
pub use Rattle.vcd_text.proofs.Places.{length-slice_range}
pub use Rattle.vcd_text.proofs.WindowLemmas.{Turns, after-skip, again-gives, fail-gives, fail-rest, failed-marked, finish-near, finish-stands, input-gives, long-gives, more-within, part-within, short-going, short-near, short-skips, short-stands, whole-near, whole-stands}
pub use Rattle.vcd_text.proofs.Writes.{appends-more, puts-twice, some-behind, some-first}
