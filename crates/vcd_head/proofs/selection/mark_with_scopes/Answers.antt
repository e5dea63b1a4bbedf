use Rattle.vcd_head.proofs.Cited.{◌≤◌, ◌<◌, suc, get_or, inl, inr, set, sym, ap, subst, ◌∙◌, arith, cases_eq, get_or-set_other, get_or-set_same, Marked, counted_from_one, with_scopes}
use Rattle.vcd_head.proofs.Facts.{counted_within, marked_before, walk_on}
use Rattle.vcd_head.proofs.selection.mark_with_scopes.Goals as goal

pub loop-next-preserved : goal.loop-next-preserved
loop-next-preserved c =
    let p = c.in-Some.declared in
    let marks = c.loop-next.marks in
    let before : suc p ≤ suc c.args.row = subst (λ o. counted_from_one o ≤ suc c.args.row) c.in-Some.is c.loop-next.invariant.within in
    let earlier = counted_within c.scope_of-next.result p c.scope_of-next.ensures.earlier in
    record {
      within = omega (arith, earlier);
      same = λ i lt. get_or-set_other marks p i 1 0 (omega (arith, earlier, lt))
          ∙ c.loop-next.invariant.same i (subst (λ o. i < counted_from_one o) (sym c.in-Some.is) (omega (arith, earlier, lt)));
      grown = λ i one. elim (cases_eq i p) [
        | inl e ↦ ap (λ k. get_or (set marks p 1) k 0) e ∙ get_or-set_same marks p 1 0 (omega arith)
        | inr n ↦ get_or-set_other marks p i 1 0 n ∙ c.loop-next.invariant.grown i one
      ];
      left = λ h new v l m.
          let ds = h.declarations in
          let rest = subst (λ o. Marked (with_scopes ds o) (set marks p 1) new) (c.scope_of-next.ensures.scope h v (omega arith)) m in
          c.loop-next.invariant.left h new v l (subst (λ o. Marked (with_scopes ds o) marks new) (sym c.in-Some.is) (walk_on ds p marks new (omega arith) rest));
    }

pub returns-then-marks-declared-eq1-clause-marks : goal.returns-then-marks-declared-eq1-clause-marks
returns-then-marks-declared-eq1-clause-marks c = λ h v l closed.
    let ds = h.declarations in
    let p = c.in-Some.declared in
    let marks = c.loop-next.marks in
    let same = c.loop-next.invariant.same p (subst (λ o. p < counted_from_one o) (sym c.in-Some.is) (omega arith)) in
    let rest = marked_before ds p c.args.marks.now marks c.loop-next.auto.marks closed (sym same ∙ c.if-marks-declared-eq1.true) c.loop-next.invariant.grown in
    c.loop-next.invariant.left h marks v l (subst (λ o. Marked (with_scopes ds o) marks marks) (sym c.in-Some.is) rest)
