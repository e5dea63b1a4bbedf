use Rattle.vcd_body.proofs.Cited.{◌-◌, inl, inr, subst, arith, cases_lt}
use Rattle.vcd_body.proofs.words.first_marked.Goals as goal

pub loop-at-preserved : goal.loop-at-preserved
loop-at-preserved g c = λ k less. elim (cases_lt k c.loop-at.at) [
  | inl before ↦ c.loop-at.invariant k before
  | inr late ↦ record { at = c.loop-at.at; from = late; to = less; clear = subst (goal.F-post g c.args.marks c.loop-at.at) c.if-mask-ne0.false c.marks-mask.ensures }
]

pub returns-clause-none : goal.returns-clause-none
returns-clause-none g c = λ none k less. let last = c.args.len - g.row.N in elim (cases_lt k last) [
  | inl before ↦ c.loop-at.invariant k (omega (arith, before, c.loop-at-test.false))
  | inr late ↦ record { at = last; from = late; to = omega (arith, less, c.requires.some); clear = subst (goal.F-post g c.args.marks last) none c.marks.ensures }
]
