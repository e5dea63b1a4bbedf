use Rattle.vcd_head.proofs.Cited.{[], ◌∷◌, map, take, length, string_bytes, false, sym, ap, subst, ◌∙◌, arith, length-map, take_all, enclosing, is_selected, marked_places, AreClosed, Marked, HaveMatched, Matched, IsOrder, rows_len, there}
use Rattle.vcd_head.proofs.Facts.{closed_after, marked_both, marked_first, first_is, first_within, matched_next, none_matched, read_same, marks_more, marks_same}
use Rattle.vcd_head.proofs.selection.mark_selected.Goals as goal
use Rattle.vcd_head.proofs.selection.mark_selected.Goals.{then-take_row, else-take_row}

pub loop-row-init : goal.loop-row-init
loop-row-init c = record {
  marks = λ h v closed. marked_first
      (map string_bytes c.args.names.now) h.declarations c.args.marks.now;
  closed = λ h v closed. closed;
  matched = λ h v. none_matched
      (map string_bytes c.args.names.now) h.declarations 16384 (omega (arith, length-map c.args.names.now string_bytes));
  held = λ h v.
      c.new-open.ensures h _ (subst (λ ns. IsOrder (map string_bytes ns) c.new-group.result.order.now) (sym c.new-group.ensures.names)
      (subst (IsOrder (map string_bytes c.args.names.now)) (sym c.new-group.ensures.order) c.put_name_order.ensures))
      (λ p q name a b. read_same false 16384 p ∙ sym (read_same false 16384 q));
}

pub loop-row-preserved : goal.loop-row-preserved
loop-row-preserved c = record {
  marks = λ h v closed.
      let ds = h.declarations in
      let names = map string_bytes c.args.names.now in
      let row = c.loop-row.row in
      let zeros = c.args.marks.now in
      let rows = rows_len c.args.view.text.now h.codes [] c.args.view.rows.now h.declarations v.rows in
      let d = there ds row (omega (arith, rows)) in
      let selected = c.take_row.ensures.selected h d.0 v d.1 (c.loop-row.invariant.held h v) ∙ ap (λ ns. is_selected (map string_bytes ns) (take row ds) d.0) c.new-group.ensures.names in
      elim c.if-take_row.branch [
        | then-take_row w ↦
            let more = subst (Marked (row ∷ enclosing (take row ds)) c.loop-row.marks) (sym w.marks-is)
            (w.mark_with_scopes.ensures.marks h v (omega (arith, rows)) (c.loop-row.invariant.closed h v closed)) in
            subst (λ ps. Marked ps zeros c.if-take_row.marks) (sym (marks_more names ds row d.0 d.1 (sym selected ∙ w.if-take_row.true)))
            (marked_both (marked_places names (take row ds)) (row ∷ enclosing (take row ds)) zeros c.loop-row.marks c.if-take_row.marks (c.loop-row.invariant.marks h v closed) more)
        | else-take_row w ↦
            subst (λ ps. Marked ps zeros c.if-take_row.marks) (sym (marks_same names ds row d.0 d.1 (sym selected ∙ w.if-take_row.false)))
            (subst (Marked (marked_places names (take row ds)) zeros) (sym w.marks-is) (c.loop-row.invariant.marks h v closed))
      ];
  closed = λ h v closed.
      let rows = rows_len c.args.view.text.now h.codes [] c.args.view.rows.now h.declarations v.rows in
      elim c.if-take_row.branch [
        | then-take_row w ↦ subst (AreClosed h.declarations) (sym w.marks-is)
            (closed_after h.declarations c.loop-row.row c.loop-row.marks w.mark_with_scopes.new.marks (c.loop-row.invariant.closed h v closed)
            (w.mark_with_scopes.ensures.marks h v (omega (arith, rows)) (c.loop-row.invariant.closed h v closed)))
        | else-take_row w ↦ subst (AreClosed h.declarations) (sym w.marks-is) (c.loop-row.invariant.closed h v closed)
      ];
  matched = λ h v.
      let ds = h.declarations in
      let names = map string_bytes c.args.names.now in
      let row = c.loop-row.row in
      let rows = rows_len c.args.view.text.now h.codes [] c.args.view.rows.now h.declarations v.rows in
      let d = there ds row (omega (arith, rows)) in
      matched_next names ds row d.0 c.loop-row.matched c.take_row.new.matched d.1 (c.loop-row.invariant.matched h v)
      (subst (λ ns. Matched (λ name. is_selected (name ∷ []) (take row ds) d.0) (map string_bytes ns) c.loop-row.matched c.take_row.new.matched)
      c.new-group.ensures.names (c.take_row.ensures.matched h d.0 v d.1 (c.loop-row.invariant.held h v)));
  held = λ h v. c.take_row.ensures.open h v (c.loop-row.invariant.held h v);
}

pub returns-clause-marks : goal.returns-clause-marks
returns-clause-marks c = λ h v closed.
    let ds = h.declarations in
    let names = map string_bytes c.args.names.now in
    let rows = rows_len c.args.view.text.now h.codes [] c.args.view.rows.now h.declarations v.rows in
    subst (λ l. Marked (marked_places names l) c.args.marks.now c.loop-row.marks) (take_all c.loop-row.row ds (omega (arith, rows))) (c.loop-row.invariant.marks h v closed)

pub returns-clause-names : goal.returns-clause-names
returns-clause-names c = λ h v.
    let ds = h.declarations in
    let names = map string_bytes c.args.names.now in
    let rows = rows_len c.args.view.text.now h.codes [] c.args.view.rows.now h.declarations v.rows in
    first_is names ds c.loop-row.matched (length c.args.names.now) c.first_false.result (sym (length-map c.args.names.now string_bytes))
    (subst (λ l. HaveMatched names l c.loop-row.matched) (take_all c.loop-row.row ds (omega (arith, rows))) (c.loop-row.invariant.matched h v))
    c.first_false.ensures

pub returns-clause-within : goal.returns-clause-within
returns-clause-within c = first_within c.loop-row.matched (length c.args.names.now) c.first_false.result c.first_false.ensures

pub put_name_order-requires-clause-zeros : goal.put_name_order-requires-clause-zeros
put_name_order-requires-clause-zeros c = λ i. read_same 0 16384 i
