use Rattle.vcd_engine.proofs.Cited.{◌≡◌, ◌+◌, List, ℕ, Err, refl, sym, subst, ◌∙◌, arith, rules, Appends, edges_line, appends-none, appends-twice, parts}
use Rattle.vcd_engine.proofs.Facts.{declared_at, rows_all, rows_before, rows_marked, rows_none, rows_other, rows_some, rows_unmarked, read_variable, read_other, is_declared}
use Rattle.vcd_engine.proofs.tally.put_edges_lines.Goals as goal
use Rattle.vcd_engine.proofs.tally.put_edges_lines.Goals.{then-eq+then-is_marked+in_ok-put_edges_line, else-eq, else-eq-via-then-eq+else-is_marked, else-eq-via-else-eq}

pub loop-row-init : goal.loop-row-init
loop-row-init g c = (
  refl,
  λ h items names views marked tallied.
      subst (Appends (g.W.Sink.device c.args.out.now).held (g.W.Sink.device c.args.out.now).held)
      (sym (rows_none (edges_line items) names h.declarations)) (appends-none (g.W.Sink.device c.args.out.now).held),
)

pub loop-row-preserved : goal.loop-row-preserved
loop-row-preserved g c =
    let s = parts c.args.view in
    let i = c.loop-row.row in
    let old = (g.W.Sink.device c.args.out.now).held in
    elim c.if-eq.branch [
      | then-eq+then-is_marked+in_ok-put_edges_line w ↦
          let is = read_variable s i _ c.eq.result c.eq.ensures w.if-eq.true c.loop-row-test.true in
          rw w.out-is (
            w.in_ok-put_edges_line.ensures.1 ∙ c.loop-row.invariant.0,
            λ h items names views marked tallied.
                let v = is_declared s h i views is in
                let mark = sym w.is_marked.ensures ∙ w.if-is_marked.true in
                subst (λ (l : List ℕ). Appends old (g.W.Sink.device w.put_edges_line.new.out).held l) (sym (rows_marked (edges_line items) names s h i c.args.marks.now views marked v.0 v.1 mark))
                (appends-twice _ _ _ _ (edges_line items (declared_at h.declarations i v.0))
                (c.loop-row.invariant.1 h items names views marked tallied) (w.in_ok-put_edges_line.ensures.0 h v.0 views v.1 items tallied)),
          )
      | else-eq w ↦
          rw w.out-is (
            c.loop-row.invariant.0,
            λ h items names views marked tallied.
                let same : rows_before (edges_line items) names h.declarations (i + 1) ≡ rows_before (edges_line items) names h.declarations i = elim w.else-eq.branch [
                  | else-eq-via-then-eq+else-is_marked u ↦
                      let v = is_declared s h i views (read_variable s i _ c.eq.result c.eq.ensures u.if-eq.true c.loop-row-test.true) in
                      rows_unmarked (edges_line items) names s h i c.args.marks.now views marked v.0 v.1 (sym u.is_marked.ensures ∙ u.if-is_marked.false)
                  | else-eq-via-else-eq u ↦
                      let other = read_other s i _ c.eq.result c.eq.ensures u.if-eq.false c.loop-row-test.true in
                      rows_other (edges_line items) names s h i c.args.marks.now views marked other.0 other.1 other.2
                ] in
                subst (λ (l : List ℕ). Appends old (g.W.Sink.device c.loop-row.out).held l) (sym same) (c.loop-row.invariant.1 h items names views marked tallied),
          )
    ]

pub returns-in_err-put_edges_line-clause-takes : goal.returns-in_err-put_edges_line-clause-takes
returns-in_err-put_edges_line-clause-takes g c = λ h items names views marked tallied.
    let s = parts c.args.view in
    let i = c.loop-row.row in
    let e : c.from_residual.result ≡ Err c.in_err-put_edges_line.field-0.0 = search rules in
    let v = is_declared s h i views (read_variable s i _ c.eq.result c.eq.ensures c.if-eq.true c.loop-row-test.true) in
    rw e (rows_some (edges_line items) names s h i c.args.marks.now views marked _ _ _ v.0 v.1 (sym c.is_marked.ensures ∙ c.if-is_marked.true)
    (c.loop-row.invariant.1 h items names views marked tallied) (c.in_err-put_edges_line.ensures.0 h v.0 views v.1 items tallied))

pub returns-clause-takes : goal.returns-clause-takes
returns-clause-takes g c = λ h items names views marked tallied.
    let s = parts c.args.view in
    subst (λ (l : List ℕ). Appends (g.W.Sink.device c.args.out.now).held (g.W.Sink.device c.loop-row.out).held l)
    (rows_all (edges_line items) names s h c.loop-row.row c.args.marks.now views marked
    (omega (arith, c.loop-row-test.false, c.loop-row.auto.row-end))) (c.loop-row.invariant.1 h items names views marked tallied)
