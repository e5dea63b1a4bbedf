use Rattle.std.proofs.Common.{◌⊎◌, inl, inr, ◌&&◌, ◌≡◌, ◌≤◌, ◌<◌, ◌+◌, ◌||◌, ℕ, suc, List, Some, refl, sym, ap, subst, ◌∙◌, arith, length, slice_get, get_or}
use Rattle.std.proofs.lemmas.List.{length-set}
use Rattle.std.proofs.lemmas.Option.{slice_get_within}
use Rattle.std.proofs.lemmas.Bool.{cases_lt, le-leb}
use Rattle.vcd_compare.specs.Rows.{AreDue, IsLastRow, is_of}
use Rattle.vcd_compare.proofs.RowLemmas.{class_first, class_next, due_as, with_class}
use Rattle.vcd_compare.proofs.rows.put_class.Goals as goal

pub rows-init : goal.rows-init
rows-init c = (
  refl,
  λ classes passes linked low room past none due.
      let is : IsLastRow classes (length classes) c.args.class c.number_at-left.result = subst (IsLastRow classes (length classes) c.args.class)
      (sym c.number_at-left.ensures) (linked.from c.args.class low) in
      (class_first classes c.args.class passes c.args.due.now c.args.count c.number_at-left.result is due, λ i e. is.is i e),
)

pub rows-preserved : goal.rows-preserved
rows-preserved c = (
  ap length c.put_at.ensures ∙ length-set c.rows.due c.rows.count c.in-Some.row ∙ c.rows.invariant.0,
  λ classes passes linked low room past none due.
      let row = c.in-Some.row in
      let before = c.rows.invariant.1 classes passes linked low room past none due in
      let left : c.rows.left ≡ suc row = omega (arith, c.in-Some.ensures.0, c.in-Some.ensures.1) in
      let at : slice_get classes row ≡ Some c.args.class = before.1 row left in
      let within = slice_get_within classes row c.args.class at in
      let is : IsLastRow classes row c.args.class (get_or c.args.earlier.now row 0) = linked.each row c.args.class within at low in
      let next : c.min-left.result ≡ get_or c.args.earlier.now row 0 = (let w = is.within in omega (arith, w, c.min-left.ensures, c.number_at.ensures)) in
      let more = class_next classes c.args.class passes c.rows.due c.rows.count row (get_or c.args.earlier.now row 0) (omega (arith, room, c.rows.invariant.0)) past (none row at) at is
      (subst (λ l. AreDue c.rows.due c.rows.count (with_class passes classes c.args.class l)) left before.0) in
      let count : c.saturating_add-count.result ≡ c.rows.count + 1 = (let few = more.0 in omega (arith, few, within, room, c.saturating_add-count.ensures)) in (
        subst (λ (l : ℕ). AreDue c.put_at.new.numbers c.saturating_add-count.result (with_class passes classes c.args.class l)) (sym next)
            (subst (λ (n : ℕ). AreDue c.put_at.new.numbers n (with_class passes classes c.args.class (get_or c.args.earlier.now row 0))) (sym count)
            (subst (λ (d : List ℕ). AreDue d (c.rows.count + 1) (with_class passes classes c.args.class (get_or c.args.earlier.now row 0))) (sym c.put_at.ensures) more.1)),
        λ i e. is.is i (sym next ∙ e),
      ),
)

by_left : (left : ℕ) → (1 ≤ left → ⊥) → (i : ℕ) → left ≤ i
by_left left none i = by_zero (cases_lt 0 left)
  where
    by_zero : (0 < left) ⊎ (left ≤ 0) → left ≤ i
    by_zero (inl some) = absurd (none (omega (arith, some)))
    by_zero (inr zero) = omega (arith, zero)

pub returns-clause-due : goal.returns-clause-due
returns-clause-due c = λ classes passes linked low room past none due.
    let before = c.rows.invariant.1 classes passes linked low room past none due in
    due_as c.rows.due c.rows.count (with_class passes classes c.args.class c.rows.left) (λ i. passes i || is_of classes c.args.class i)
    (λ i. ap (λ b. passes i || (b && is_of classes c.args.class i)) (le-leb c.rows.left i (let some = c.in_default.ensures in by_left c.rows.left some i))) before.0
