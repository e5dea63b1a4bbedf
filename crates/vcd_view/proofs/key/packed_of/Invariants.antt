use Rattle.vcd_view.proofs.Cited.{◌≡◌, ◌≤◌, ◌<◌, ◌*◌, ◌^◌, ◌-◌, drop, length, packed}
use Rattle.vcd_view.proofs.key.packed_of.Given as goal

abbrev pub invariant-loop-position : goal.invariant-loop-position
invariant-loop-position l = (l.position ≤ length l.code) × (l.key ≡ packed (drop l.position l.code)) × (l.key < 33 * 256 ^ (length l.code - l.position))

abbrev pub decreases-loop-position : goal.decreases-loop-position
decreases-loop-position l = l.position
