use Rattle.vcd_compare.proofs.Cited.{◌≡◌, inl, inr, ◌==◌, ◌&&◌, false, length, get_or, sym, ap, subst, ◌∙◌, arith, and_from, cases_eq, eqb-true, ne_eqb, differs_at}
use Rattle.vcd_compare.proofs.Facts.{found, none_some, one_within, some_found}
use Rattle.vcd_compare.specs.Comparing.{differs_now}
use Rattle.vcd_compare.proofs.comparing.Comparison.some_differ.Goals as goal

pub returns-then-differs : goal.returns-then-differs
returns-then-differs c =
    let s = c.args.self.now in
    let class = c.candidate-class.result in
    let marked = sym c.is_touched.ensures ∙ c.if-is_touched.true in
    let low = one_within s.touched.marks.now class (eqb-true (get_or s.touched.marks.now class 0) 1 marked) in
    sym (some_found (differs_at s c.args.at) (length s.touched.marks.now) class low
    (and_from (get_or s.touched.marks.now class 0 == 1) (differs_now s.current class c.args.at) marked (sym c.differs.ensures ∙ c.if-differs.true)))

pub returns : goal.returns
returns c =
    let s = c.args.self.now in
    sym (none_some (differs_at s c.args.at) (length s.touched.marks.now) (λ k low. elim (cases_eq (get_or s.touched.marks.now k 0) 1) [
      | inr other ↦ ap (λ b. b && differs_now s.current k c.args.at) (ne_eqb (get_or s.touched.marks.now k 0) 1 other)
      | inl one ↦
          let at = found s.touched k c.requires.listed one in
          let before = at.1 in
          subst (λ j. differs_at s c.args.at j ≡ false) at.2 (c.loop-index.invariant at.0 (omega (arith, before, c.loop-index-test.false, c.candidates-index-end.ensures)))
    ]))
