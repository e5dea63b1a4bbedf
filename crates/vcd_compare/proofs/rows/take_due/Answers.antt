use Rattle.vcd_compare.proofs.Cited.{◌⊎◌, inl, inr, ◌≡◌, ◌∙◌, ◌==◌, ◌&&◌, ◌||◌, ◌≤◌, ℕ, true, false, List, get_or, refl, sym, ap, subst, arith, eqb-true, or-false}
use Rattle.vcd_compare.specs.Rows.{AreDue, is_flagged, is_of, was_flagged}
use Rattle.vcd_compare.specs.Touched.{candidates}
use Rattle.vcd_compare.proofs.Facts.{gone_all, gone_first, gone_taken, none_listed, one_within}
use Rattle.vcd_compare.proofs.RowLemmas.{due_as, none_due, not_past, not_twice, settled_due, was_next}
use Rattle.vcd_compare.proofs.rows.take_due.Goals as goal
use Rattle.vcd_compare.proofs.rows.take_due.Goals.{then-take_mark, else-take_mark}

pub loop-index-init : goal.loop-index-init
loop-index-init c = record {
  gone = gone_first c.args.touched.now c.args.after (λ _. false);
  len = refl;
  due = λ cs linked room enough. none_due c.args.touched.now.marks.now cs c.args.due.now;
}

pub loop-index-preserved : goal.loop-index-preserved
loop-index-preserved c =
    let old = c.args.touched.now.marks.now in
    let marks = c.loop-index.touched.marks.now in
    let class = c.candidate-class.result in
    let after = c.args.after in
    let s = c.loop-index.invariant in
    let other = c.requires.after in
    let is = c.take_mark.ensures.marks in
    let each : (k : ℕ) → (get_or marks k 0 ≡ get_or old k 0) ⊎ ((get_or old k 0 ≡ 1) × (get_or marks k 0 ≡ after)) = λ k. elim (s.gone.each k) [ inl same ↦ inl same | inr new ↦ inr (new.0, new.1) ] in
    record {
      gone = gone_taken c.args.touched.now c.loop-index.touched after (λ _. false) c.loop-index.index s.gone class c.candidate-class.ensures _ other refl is refl refl;
      len = c.if-take_mark.auto.due ∙ s.len;
      due = λ cs linked room enough.
          let was = s.due cs linked room enough in
          let many = s.gone.many in
          let none = not_twice marks cs class after other old each in
          let past = not_past marks cs class after other old each in
          subst (λ (l : List ℕ). AreDue c.if-take_mark.due c.if-take_mark.count (was_flagged old l cs)) (sym is)
          (due_as c.if-take_mark.due c.if-take_mark.count (λ i. was_flagged old marks cs i || (get_or marks class 0 == 1 && is_of cs class i)) _ (was_next marks cs class after other old each)
          (elim c.if-take_mark.branch [
            | then-take_mark w ↦
                let flagged : (get_or marks class 0 == 1) ≡ true = sym c.take_mark.ensures.is ∙ w.if-take_mark.true in
                let one = eqb-true (get_or marks class 0) 1 flagged in
                let low = one_within marks class one in
                subst (λ (d : List ℕ). AreDue d c.if-take_mark.count (λ i. was_flagged old marks cs i || (get_or marks class 0 == 1 && is_of cs class i))) (sym w.due-is)
                (subst (λ (n : ℕ). AreDue w.put_class-count.new.due n (λ i. was_flagged old marks cs i || (get_or marks class 0 == 1 && is_of cs class i))) (sym w.count-is)
                (due_as w.put_class-count.new.due w.put_class-count.result (λ i. was_flagged old marks cs i || is_of cs class i) _
                (λ i. ap (λ b. was_flagged old marks cs i || (b && is_of cs class i)) (sym flagged))
                (w.put_class-count.ensures.due cs (was_flagged old marks cs) linked (omega (arith, low, room, many)) (omega (arith, enough, s.len)) past (none one) was)))
            | else-take_mark w ↦
                let other : (get_or marks class 0 == 1) ≡ false = sym c.take_mark.ensures.is ∙ w.if-take_mark.false in
                subst (λ (d : List ℕ). AreDue d c.if-take_mark.count (λ i. was_flagged old marks cs i || (get_or marks class 0 == 1 && is_of cs class i))) (sym w.due-is)
                (subst (λ (n : ℕ). AreDue c.loop-index.due n (λ i. was_flagged old marks cs i || (get_or marks class 0 == 1 && is_of cs class i))) (sym w.count-is)
                (due_as c.loop-index.due c.loop-index.count (was_flagged old marks cs) _
                (λ i. sym (ap (λ b. was_flagged old marks cs i || (b && is_of cs class i)) other ∙ or-false (was_flagged old marks cs i))) was))
          ]));
    }

pub returns-clause-many : goal.returns-clause-many
returns-clause-many c = c.loop-index.invariant.gone.many

pub returns-clause-settled : goal.returns-clause-settled
returns-clause-settled c =
    let all : candidates c.args.touched.now ≤ c.loop-index.index = omega (arith, c.loop-index-test.false, c.candidates-index-end.ensures) in
    gone_all c.args.touched.now c.loop-index.touched c.args.after (λ _. false) c.loop-index.index c.requires.listed c.loop-index.invariant.gone all

pub returns-clause-listed : goal.returns-clause-listed
returns-clause-listed c = none_listed c.args.touched.now.marks.now c.loop-index.touched.marks.now c.loop-index.touched.classes.now c.args.after c.requires.after (returns-clause-settled c)

pub returns-clause-due : goal.returns-clause-due
returns-clause-due c = λ cs linked room enough.
    let old = c.args.touched.now.marks.now in
    let now = c.loop-index.touched.marks.now in
    due_as c.loop-index.due c.loop-index.count (was_flagged old now cs) (is_flagged old cs)
    (settled_due old now c.args.after c.requires.after (returns-clause-settled c) cs) (c.loop-index.invariant.due cs linked room enough)
