use Rattle.vcd_text.proofs.Cited.{inl, inr, arith, cases_order, bit_at-pow_other}
use Rattle.vcd_text.proofs.ahead.White.before.Goals as goal

pub returns-clause-bit : goal.returns-clause-bit
returns-clause-bit c = λ k set. elim (cases_order k 63) [
  | inl same ↦ same
  | inr (inl lt) ↦ absurd (omega (arith, bit_at-pow_other 63 k (λ e. absurd (omega (arith, e, lt))), set))
  | inr (inr gt) ↦ absurd (omega (arith, bit_at-pow_other 63 k (λ e. absurd (omega (arith, e, gt))), set))
]
