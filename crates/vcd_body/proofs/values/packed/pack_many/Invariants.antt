use Rattle.vcd_body.proofs.Cited.{◌≡◌, ◌-◌, ℕ, ◌<◌, get_or, packed_byte}
use Rattle.vcd_body.proofs.values.packed.pack_many.Given as goal

abbrev pub invariant-loop-at : goal.invariant-loop-at
invariant-loop-at l = (j : ℕ) → j < l.at → get_or l.bytes j 0 ≡ packed_byte l.text l.quarter j

abbrev pub decreases-loop-at : goal.decreases-loop-at
decreases-loop-at l = l.last - l.at
