use Rattle.vcd_body.proofs.Cited.{◌≡◌, ℕ, ◌+◌, ◌<◌, get_or}
use Rattle.vcd_body.proofs.digits.copy_digits.Given as goal

abbrev pub invariant-loop-index : goal.invariant-loop-index
invariant-loop-index g l = (k : ℕ) → k < l.index → get_or l.to k 0 ≡ get_or (g.D.Digits.digits l.digits) (l.from + k) 0
