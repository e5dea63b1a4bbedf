use Rattle.vcd_head.proofs.Cited.{◌≡◌, ◌<◌, ℕ, length, get_or}
use Rattle.vcd_head.proofs.names.put_indexes.Given as goal

abbrev pub invariant-loop-position : goal.invariant-loop-position
invariant-loop-position l = record {
  len : length l.positions ≡ length l.initial.positions;
  each : (i : ℕ) → i < l.position → get_or l.positions i 0 ≡ i;
}
