use Rattle.vcd_head.proofs.Cited.{◌≡◌, true, false, [], ◌∷◌, ◌&&◌, Bool, take, refl, sym, subst, ◌∙◌, arith, take_all, enclosing, is_selected, is_variable, marked_places, AreClosed, Marked, parts, read_row, rows_len, there}
use Rattle.vcd_head.proofs.Facts.{closed_after, declares_none, declares_one, marked_both, marked_first, marks_more, marks_same}
use Rattle.vcd_head.proofs.selection.mark_all.Goals as goal
use Rattle.vcd_head.proofs.selection.mark_all.Goals.{in-Var, in_default, then-matches, else-matches}

and_true : (b : Bool) → (b && true) ≡ b
and_true true = refl
and_true false = refl

pub loop-row-init : goal.loop-row-init
loop-row-init c = record { marks = λ h v closed. marked_first [] h.declarations c.args.marks.now; closed = λ h v closed. closed }

pub loop-row-preserved : goal.loop-row-preserved
loop-row-preserved c = record {
  marks = λ h v closed.
      let ds = h.declarations in
      let row = c.loop-row.row in
      let zeros = c.args.marks.now in
      let rows = rows_len c.args.view.text.now h.codes [] c.args.view.rows.now h.declarations v.rows in
      let d = there ds row (omega (arith, rows)) in
      let s = parts c.args.view in
      let selected : is_selected [] (take row ds) d.0 ≡ c.match-matches.matches = and_true (is_variable d.0) ∙ elim c.match-matches.branch [
        | in-Var w ↦ declares_one s h row _ d.0 v (read_row s row _ (omega arith)) d.1 w.in-Var.is ∙ sym w.matches-is
        | in_default w ↦ declares_none s h row _ d.0 v (read_row s row _ (omega arith)) d.1 w.in_default.not-Var ∙ sym w.matches-is
      ] in
      elim c.if-matches.branch [
        | then-matches w ↦
            let more = subst (Marked (row ∷ enclosing (take row ds)) c.loop-row.marks) (sym w.marks-is)
            (w.mark_with_scopes.ensures.marks h v (omega (arith, rows)) (c.loop-row.invariant.closed h v closed)) in
            subst (λ ps. Marked ps zeros c.if-matches.marks) (sym (marks_more [] ds row d.0 d.1 (selected ∙ w.if-matches.true)))
            (marked_both (marked_places [] (take row ds)) (row ∷ enclosing (take row ds)) zeros c.loop-row.marks c.if-matches.marks (c.loop-row.invariant.marks h v closed) more)
        | else-matches w ↦
            subst (λ ps. Marked ps zeros c.if-matches.marks) (sym (marks_same [] ds row d.0 d.1 (selected ∙ w.if-matches.false)))
            (subst (Marked (marked_places [] (take row ds)) zeros) (sym w.marks-is) (c.loop-row.invariant.marks h v closed))
      ];
  closed = λ h v closed.
      let rows = rows_len c.args.view.text.now h.codes [] c.args.view.rows.now h.declarations v.rows in
      elim c.if-matches.branch [
        | then-matches w ↦ subst (AreClosed h.declarations) (sym w.marks-is)
            (closed_after h.declarations c.loop-row.row c.loop-row.marks w.mark_with_scopes.new.marks (c.loop-row.invariant.closed h v closed)
            (w.mark_with_scopes.ensures.marks h v (omega (arith, rows)) (c.loop-row.invariant.closed h v closed)))
        | else-matches w ↦ subst (AreClosed h.declarations) (sym w.marks-is) (c.loop-row.invariant.closed h v closed)
      ];
}

pub returns-clause-marks : goal.returns-clause-marks
returns-clause-marks c = λ h v closed.
    let ds = h.declarations in
    let rows = rows_len c.args.view.text.now h.codes [] c.args.view.rows.now h.declarations v.rows in
    subst (λ l. Marked (marked_places [] l) c.args.marks.now c.loop-row.marks) (take_all c.loop-row.row ds (omega (arith, rows))) (c.loop-row.invariant.marks h v closed)
