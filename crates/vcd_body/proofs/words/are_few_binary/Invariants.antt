use Rattle.vcd_body.proofs.Cited.{ℕ, ◌≤◌, ◌<◌, IsBinaryAt}
use Rattle.vcd_body.proofs.words.are_few_binary.Given as goal

abbrev pub invariant-loop-digit : goal.invariant-loop-digit
invariant-loop-digit l = l.largest ≤ 1 → (k : ℕ) → k < l.digit-index → IsBinaryAt l.digits k
