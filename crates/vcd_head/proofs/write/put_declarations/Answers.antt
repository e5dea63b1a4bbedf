use Rattle.vcd_head.proofs.Cited.{◌≡◌, List, ℕ, Err, take, sym, subst, ◌∙◌, arith, rules, Appends, concat, each, enclosing, row_line, up_lines_at, appends-first, appends-twice, counted, takes-twice, is_marked, parts}
use Rattle.vcd_head.proofs.Facts.{declared_there, lines-next, lines-some, lines-all}
use Rattle.vcd_model.specs.HeadText.{rows_text}
use Rattle.vcd_head.proofs.write.put_declarations.Goals as goal

pub loop-row-preserved : goal.loop-row-preserved
loop-row-preserved g c = record {
  same = c.in_ok-put_marked_row.ensures.1 ∙ c.loop-row.invariant.same;
  lines = λ h v.
      let i = c.loop-row.row in
      let f = row_line (λ code. code) (is_marked c.args.marks.now) in
      let d = declared_there (parts c.args.view) h i v (omega arith) in
      subst (λ (l : List ℕ). Appends (g.W.Sink.device c.args.w.now).held (g.W.Sink.device c.put_marked_row.new.w).held l) (sym (lines-next f h.declarations i d.0 d.1))
      (appends-twice _ _ _ _ (f (take i h.declarations) d.0) (c.loop-row.invariant.lines h v) (c.in_ok-put_marked_row.ensures.0 h d.0 v d.1));
}

pub returns-in_err-put_marked_row : goal.returns-in_err-put_marked_row
unfolding rows_text
returns-in_err-put_marked_row g c = counted (search rules) (λ h v.
    let e : c.from_residual.result ≡ Err c.in_err-put_marked_row.field-0.0 = search rules in
    let i = c.loop-row.row in
    let d = declared_there (parts c.args.view) h i v (omega arith) in
    rw e (appends-first _ _ _ (up_lines_at (is_marked c.args.marks.now) (enclosing h.declarations))
    (lines-some (row_line (λ code. code) (is_marked c.args.marks.now)) _ _ _ h.declarations i d.0 d.1 (c.loop-row.invariant.lines h v) (c.in_err-put_marked_row.ensures.0 h d.0 v d.1))))

pub returns : goal.returns
unfolding rows_text
returns g c = counted (search rules) (λ h v.
    let f = row_line (λ code. code) (is_marked c.args.marks.now) in
    let rows = subst (λ (l : List ℕ). Appends (g.W.Sink.device c.args.w.now).held (g.W.Sink.device c.loop-row.w).held l)
    (lines-all f (parts c.args.view) h c.loop-row.row v (omega arith)) (c.loop-row.invariant.lines h v) in
    takes-twice _ _ _ (concat (each f h.declarations)) (up_lines_at (is_marked c.args.marks.now) (enclosing h.declarations)) c.put_ups_at_end.result rows (c.put_ups_at_end.ensures.0 h v))
