use Rattle.vcd_engine.proofs.Cited.{◌≡◌, ◌+◌, ◌≤◌, List, ℕ, Err, get_or, refl, sym, ap, subst, ◌∙◌, arith, rules, Appends, selected, marks_of, appends-none, appends-twice, counted, parts, rows_on}
use Rattle.vcd_engine.proofs.Facts.{leads_same, leads_shown_at, lines_all, line_at, lines_are, declared_at, rows_before, rows_marked, rows_none, rows_some}
use Rattle.vcd_engine.proofs.sample_lines.put_sample.Goals as goal
use Rattle.vcd_engine.proofs.sample_lines.put_sample.Goals.{then-mark-eq1+in_ok-put_sample_line, else-mark-eq1}

pub loop-row-init : goal.loop-row-init
loop-row-init g c = (
  refl,
  λ h items names views lead held late.
      subst (Appends (g.W.Sink.device c.args.out.now).held (g.W.Sink.device c.args.out.now).held)
      (sym (rows_none (line_at items c.args.time) names h.declarations)) (appends-none (g.W.Sink.device c.args.out.now).held),
)

pub returns : goal.returns
returns g c = counted (search rules) (λ h items names views lead held late.
    subst (λ (l : List ℕ). Appends (g.W.Sink.device c.args.out.now).held (g.W.Sink.device c.loop-row.out).held l)
    (lines_all names h c.args.marks.now lead items c.args.time c.loop-row.row c.loop-row-test.false) (c.loop-row.invariant.1 h items names views lead held late))

pub loop-row-preserved : goal.loop-row-preserved
loop-row-preserved g c =
    let s = parts c.args.view in
    let i = c.loop-row.row in
    let marks = c.args.marks.now in
    let to = c.saturating_add-row.result in
    let old = (g.W.Sink.device c.args.out.now).held in
    elim c.if-mark-eq1.branch [
      | then-mark-eq1+in_ok-put_sample_line w ↦
          let one : c.rows_on.result ≡ 1 = c.rows_on.ensures.passes ∙ ap rows_on w.if-mark-eq1.true in
          let next : i + 1 ≡ to = omega (arith, c.saturating_add-row.ensures, one, c.loop-row-test.true) in
          rw w.out-is (
            w.in_ok-put_sample_line.ensures.1 ∙ c.loop-row.invariant.0,
            λ h items names views lead held late.
                let shown = leads_shown_at names h marks lead i c.loop-row-test.true w.if-mark-eq1.true in
                subst (λ n. Appends old (g.W.Sink.device w.put_sample_line.new.out).held (rows_before (line_at items c.args.time) names h.declarations n)) next
                (subst (λ (l : List ℕ). Appends old (g.W.Sink.device w.put_sample_line.new.out).held l)
                (sym (rows_marked (line_at items c.args.time) names s h i (marks_of names h.declarations)
                views refl shown.variable shown.declared shown.marked))
                (appends-twice _ _ _ _ (line_at items c.args.time (declared_at h.declarations i shown.variable))
                (c.loop-row.invariant.1 h items names views lead held late)
                (w.in_ok-put_sample_line.ensures.0 h shown.variable views shown.declared items held late))),
          )
      | else-mark-eq1 w ↦
          rw w.out-is (
            c.loop-row.invariant.0,
            λ h items names views lead held late.
                let low : i ≤ to = omega (arith, c.saturating_add-row.ensures, c.loop-row-test.true) in
                let high : to ≤ i + rows_on (get_or marks i 0) = omega (arith, c.saturating_add-row.ensures, c.rows_on.ensures.passes) in
                subst (λ (l : List ℕ). Appends old (g.W.Sink.device c.loop-row.out).held l)
                (sym (leads_same names h marks lead i c.loop-row-test.true items c.args.time to w.if-mark-eq1.false low high))
                (c.loop-row.invariant.1 h items names views lead held late),
          )
    ]

pub returns-in_err-put_sample_line : goal.returns-in_err-put_sample_line
returns-in_err-put_sample_line g c = counted (search rules) (λ h items names views lead held late.
    let i = c.loop-row.row in
    let e : c.from_residual.result ≡ Err c.in_err-put_sample_line.field-0.0 = search rules in
    let shown = leads_shown_at names h c.args.marks.now lead i c.loop-row-test.true c.if-mark-eq1.true in
    rw (e, ← lines_are items c.args.time (selected names h.declarations))
    (rows_some (line_at items c.args.time) names (parts c.args.view) h i
    (marks_of names h.declarations) views refl _ _ _ shown.variable shown.declared shown.marked
    (c.loop-row.invariant.1 h items names views lead held late)
    (c.in_err-put_sample_line.ensures.0 h shown.variable views shown.declared items held late)))
