use Rattle.vcd_body.proofs.Cited.{◌≡◌, ◌<◌, ℕ, inl, inr, rules, arith, get_or, cases_lt, bit_at-zero}
use Rattle.vcd_body.proofs.Facts.{behind, in_block}
use Rattle.vcd_body.proofs.change.same_as_first.Goals as goal

pub returns-clause-same : goal.returns-clause-same
returns-clause-same c =
    let at = c.first_marked-at.result.0 in
    let IsSame : ℕ → Type 0 = λ j. get_or c.args.bytes.now j 0 ≡ get_or c.args.bytes.now 0 0 in
    let marked = c.first_marked-at.ensures.marked in
    λ k less. elim (cases_lt k at) [
      | inl before ↦ in_block IsSame (c.first_marked-at.ensures.before k before) (λ i none j few. let z = bit_at-zero j in search rules)
      | inr late ↦ behind IsSame at c.clear_bits.result (λ j few. let z = c.clear_bits.ensures.clear j few in
          let f : j < 32 = omega (arith, few, c.clear_bits.ensures.less) in search rules) k late less
    ]
