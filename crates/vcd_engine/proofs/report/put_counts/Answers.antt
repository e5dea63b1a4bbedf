use Rattle.vcd_engine.proofs.Cited.{◌≡◌, ◌+◌, ◌∙◌, Err, ap, arith, rules, named_line, texts-some}
use Rattle.vcd_engine.proofs.report.put_counts.Goals as goal

pub returns-in_err-put_count : goal.returns-in_err-put_count
returns-in_err-put_count g c =
    let e : c.from_residual.result ≡ Err c.in_err-put_count.field-0.0 = search rules in
    rw e (
      texts-some _ _ _ named_line c.args.counts.now c.loop-name.name-index _ (omega arith) c.loop-name.invariant.1 c.in_err-put_count.ensures.0,
      c.in_err-put_count.ensures.1 ∙ ap (λ n. n + 1) c.loop-name.invariant.0,
    )
