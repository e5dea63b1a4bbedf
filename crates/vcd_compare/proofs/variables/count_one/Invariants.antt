use Rattle.vcd_compare.proofs.Cited.{◌≡◌, ◌-◌, ◌+◌, ℕ, get_or, length}
use Rattle.vcd_compare.proofs.variables.count_one.Given as goal

-- counts that are added are 0
abbrev pub invariant-loop-counts : goal.invariant-loop-counts
invariant-loop-counts l = (n : ℕ) → get_or l.counts.items n 0 ≡ get_or l.initial.counts.items n 0

abbrev pub decreases-loop-counts : goal.decreases-loop-counts
decreases-loop-counts l = l.index + 1 - length l.counts.items
