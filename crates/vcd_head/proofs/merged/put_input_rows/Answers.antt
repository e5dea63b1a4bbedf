use Rattle.vcd_head.proofs.Cited.{◌≡◌, ◌+◌, ◌++◌, [], List, ℕ, Err, take, refl, sym, subst, ◌∙◌, arith, rules, Takes, appends-none, appends-twice, counted, takes-twice, due, written_behind, parts, read_row, rows_len}
use Rattle.vcd_head.proofs.Facts.{IsWritten, behind_is, few_written, kind_is, last_lines, nothing_written, row_next, row_some, declared_there}
use Rattle.vcd_head.proofs.merged.put_input_rows.Goals as goal

pub loop-row-init : goal.loop-row-init
loop-row-init g c = record { same = refl; lines = λ h v fits. ([], nothing_written c.args.first h, appends-none (g.W.Sink.device c.args.w.now).held) }

pub loop-row-preserved : goal.loop-row-preserved
loop-row-preserved g c = record {
  same = c.in_ok-put_input_row.ensures.1 ∙ c.loop-row.invariant.same;
  lines = λ h v fits.
      let i = c.loop-row.row in
      let s = parts c.args.view in
      let now = c.loop-row.scopes in
      let behind = c.pass_row.new.self in
      let (text, w, puts) = c.loop-row.invariant.lines h v fits in
      let d = declared_there s h i v (omega arith) in
      let kind = kind_is s h i _ d.0 v (read_row s i _ (omega arith)) d.1 in
      let few = few_written c.args.first h i now.pending now.written text w in
      let is = behind_is d.0 now.pending now.written behind.pending behind.written (omega (arith, few)) (record {
        scope = λ k. c.pass_row.ensures.scope (kind ∙ k);
        pending_up = λ k. c.pass_row.ensures.pending_up (kind ∙ k);
        written_up = λ k. c.pass_row.ensures.written_up (kind ∙ k);
        variable = λ k. c.pass_row.ensures.variable (kind ∙ k);
      }) in
      let more = text ++ due h c.args.first now.pending now.written (take i h.declarations) d.0 in (
        more,
        subst (λ (n : ℕ). IsWritten c.args.first h (i + 1) behind.pending n more) is.1
            (subst (λ (n : ℕ). IsWritten c.args.first h (i + 1) n (written_behind d.0 now.pending now.written) more) is.0
            (row_next c.args.first h i now.pending now.written text w d.0 d.1)),
        appends-twice _ _ _ text _ puts (c.in_ok-put_input_row.ensures.0 h d.0 v d.1 fits),
      );
}

pub returns-in_err-put_input_row : goal.returns-in_err-put_input_row
returns-in_err-put_input_row g c = counted (search rules) (λ h v fits.
    let e : c.from_residual.result ≡ Err c.in_err-put_input_row.field-0.0 = search rules in
    let i = c.loop-row.row in
    let now = c.loop-row.scopes in
    let (text, w, puts) = c.loop-row.invariant.lines h v fits in
    let d = declared_there (parts c.args.view) h i v (omega arith) in
    rw e (row_some c.args.first h i now.pending now.written text _ _ _ d.0 w d.1 puts (c.in_err-put_input_row.ensures.0 h d.0 v d.1 fits)))

pub returns : goal.returns
returns g c = counted (search rules) (λ h v fits.
    let now = c.loop-row.scopes in
    let (text, w, puts) = c.loop-row.invariant.lines h v fits in
    let rows = rows_len _ h.codes [] c.args.view.rows.now h.declarations v.rows in
    let (scopes, count, whole) = last_lines c.args.first h c.loop-row.row now.pending now.written text w (omega (arith, rows)) in
    subst (λ (l : List ℕ). Takes (g.W.Sink.device c.args.w.now) (g.W.Sink.device c.put_closings.new.w) l c.put_closings.result) (sym whole)
    (takes-twice _ _ _ text _ c.put_closings.result puts (c.put_closings.ensures.0 scopes count)))
