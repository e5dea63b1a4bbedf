use Rattle.vcd_body.proofs.Cited.{◌≡◌, ◌+◌, ◌-◌, inl, inr, get_or, subst, ◌∙◌, arith, cases_lt, packed_byte}
use Rattle.vcd_body.proofs.values.packed.pack_many.Goals as goal

pub loop-at-preserved : goal.loop-at-preserved
loop-at-preserved c = λ j less. elim (cases_lt j c.loop-at.at) [
  | inl before ↦ c.pack_16.ensures.before j before ∙ c.loop-at.invariant j before
  | inr late ↦
      let at = c.loop-at.at in
      let back : at + (j - at) ≡ j = omega arith in
      subst (λ i. get_or c.pack_16.new.bytes i 0 ≡ packed_byte c.args.text.now c.args.quarter i) back (c.pack_16.ensures.packed (j - at) (omega arith))
]

pub returns : goal.returns
returns c = λ j less. elim (cases_lt j (c.args.quarter - 16)) [
  | inl before ↦ c.pack_16-2.ensures.before j before ∙ c.loop-at.invariant j (omega (arith, c.loop-at-test.false, before))
  | inr late ↦
      let last = c.args.quarter - 16 in
      let back : last + (j - last) ≡ j = omega arith in
      subst (λ i. get_or c.pack_16-2.new.bytes i 0 ≡ packed_byte c.args.text.now c.args.quarter i) back (c.pack_16-2.ensures.packed (j - last) (omega (arith, c.requires.many)))
]
