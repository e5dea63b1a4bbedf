use Rattle.vcd_view.proofs.Cited.{◌≡◌, ◌≤◌, drop, length, number_in}
use Rattle.vcd_view.proofs.entries.long_code_number.Given as goal

abbrev pub invariant-loop-position : goal.invariant-loop-position
invariant-loop-position l = (l.position ≤ length l.code) × (l.number ≡ number_in (drop l.position l.code))

abbrev pub decreases-loop-position : goal.decreases-loop-position
decreases-loop-position l = l.position
