use Rattle.vcd_body.proofs.Cited.{◌-◌, ◌<◌, ℕ, InClear}
use Rattle.vcd_body.proofs.words.first_marked.Given as goal

abbrev pub invariant-loop-at : goal.invariant-loop-at
invariant-loop-at g l = (k : ℕ) → k < l.at → InClear (goal.F-post g l.marks) g.row.N k

abbrev pub decreases-loop-at : goal.decreases-loop-at
decreases-loop-at g l = l.last - l.at
