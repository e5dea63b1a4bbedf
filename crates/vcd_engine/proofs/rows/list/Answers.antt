use Rattle.vcd_engine.proofs.Cited.{◌≡◌, List, ℕ, Err, take, sym, subst, ◌∙◌, arith, rules, Appends, appends-twice, parts, Write}
use Rattle.vcd_engine.proofs.Facts.{read_variable, read_other, is_declared, line_after, lines-variable, lines-pass, listed-some, listed-all}
use Rattle.vcd_engine.proofs.rows.list.Goals as goal
use Rattle.vcd_engine.proofs.rows.list.Goals.{then-eq+in_ok-put_list_line, else-eq}

pub loop-row-preserved : goal.loop-row-preserved
loop-row-preserved g c =
    let s = parts c.args.view in
    let i = c.loop-row.row in
    elim c.if-eq.branch [
      | then-eq+in_ok-put_list_line w ↦
          let is = read_variable s i _ c.eq.result c.eq.ensures w.if-eq.true c.loop-row-test.true in
          rw w.out-is (
            w.in_ok-put_list_line.ensures.1 ∙ c.loop-row.invariant.0,
            λ h views.
                let v = is_declared s h i views is in
                subst (λ (l : List ℕ). Appends (g.W.Sink.device c.args.out.now).held (g.W.Sink.device w.put_list_line.new.out).held l) (sym (lines-variable h.declarations i v.0 v.1))
                (appends-twice _ _ _ _ (line_after (take i h.declarations) v.0) (c.loop-row.invariant.1 h views) (w.in_ok-put_list_line.ensures.0 h v.0 views v.1)),
          )
      | else-eq w ↦
          let other = read_other s i _ c.eq.result c.eq.ensures w.if-eq.false c.loop-row-test.true in
          rw w.out-is (
            c.loop-row.invariant.0,
            λ h views.
                subst (λ (l : List ℕ). Appends (g.W.Sink.device c.args.out.now).held (g.W.Sink.device c.loop-row.out).held l)
                (sym (lines-pass s h i other.0 views other.1 other.2)) (c.loop-row.invariant.1 h views),
          )
    ]

pub returns-in_err-put_list_line-clause-takes : goal.returns-in_err-put_list_line-clause-takes
returns-in_err-put_list_line-clause-takes g c = λ h views.
    let s = parts c.args.view in
    let i = c.loop-row.row in
    let e : c.from_residual.result ≡ Err Write = search rules in
    let is = read_variable s i _ c.eq.result c.eq.ensures c.if-eq.true c.loop-row-test.true in
    let v = is_declared s h i views is in
    rw e (listed-some _ _ _ h i v.0 v.1 (c.loop-row.invariant.1 h views) (c.in_err-put_list_line.ensures.0 h v.0 views v.1))

pub returns-clause-takes : goal.returns-clause-takes
returns-clause-takes g c = λ h views.
    let s = parts c.args.view in
    subst (λ (l : List ℕ). Appends (g.W.Sink.device c.args.out.now).held (g.W.Sink.device c.loop-row.out).held l)
    (listed-all s h c.loop-row.row views (omega (arith, c.loop-row-test.false, c.loop-row.auto.row-end))) (c.loop-row.invariant.1 h views)
