use Rattle.vcd_compare.proofs.Cited.{◌≡◌, ◌<◌, ℕ, false, candidate, differs_at}
use Rattle.vcd_compare.proofs.comparing.Comparison.some_differ.Given as goal

-- none of the candidates before an index is touched and differs
abbrev pub invariant-loop-index : goal.invariant-loop-index
invariant-loop-index l = (i : ℕ) → i < l.index → differs_at l.self l.at (candidate l.self.touched i) ≡ false
