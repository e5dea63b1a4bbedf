use Rattle.vcd_head.proofs.Cited.{◌≡◌, ◌<◌, ℕ, get_or}
use Rattle.vcd_head.proofs.names.shared.Given as goal

abbrev pub invariant-loop-position : goal.invariant-loop-position
invariant-loop-position l = record {
  first : (i : ℕ) → i < l.position → get_or l.first i 0 ≡ get_or l.bytes i 0;
  last : (i : ℕ) → i < l.position → get_or l.last i 0 ≡ get_or l.bytes i 0;
}
