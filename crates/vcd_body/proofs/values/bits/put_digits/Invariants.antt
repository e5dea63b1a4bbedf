use Rattle.vcd_body.proofs.Cited.{◌≡◌, ℕ, ◌<◌, get_or, binary_digits}
use Rattle.vcd_body.proofs.values.bits.put_digits.Given as goal

abbrev pub invariant-loop-index : goal.invariant-loop-index
invariant-loop-index l = (k : ℕ) → k < l.index → get_or l.to k 0 ≡ get_or (binary_digits l.bits.len l.bits.number) k 0
