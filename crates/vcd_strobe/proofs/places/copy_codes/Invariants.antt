use Rattle.std.proofs.Common.{◌≡◌, ℕ, ◌/◌, ◌<◌, length, slice_get}
use Rattle.vcd_strobe.proofs.places.copy_codes.Given as goal

abbrev pub invariant-loop-index : goal.invariant-loop-index
invariant-loop-index l = record {
  len : length l.room ≡ length l.fn.room;
  each : (i : ℕ) → i < l.index → slice_get l.room i ≡ slice_get l.codes (i / 4);
}
