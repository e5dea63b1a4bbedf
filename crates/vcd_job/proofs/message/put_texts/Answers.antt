use Rattle.vcd_job.proofs.Cited.{◌≡◌, ◌+◌, ◌∙◌, Err, ap, arith, rules, texts-some}
use Rattle.vcd_job.proofs.message.put_texts.Goals as goal

pub returns-in_err-put : goal.returns-in_err-put
returns-in_err-put g c =
    let e : c.from_residual.result ≡ Err c.in_err-put.field-0.0 = search rules in
    rw e (
      texts-some _ _ _ (λ text. text.now) c.args.texts.now c.loop-text.text-index _ (omega arith) c.loop-text.invariant.1 c.in_err-put.ensures.0,
      c.in_err-put.ensures.1 ∙ ap (λ n. n + 1) c.loop-text.invariant.0,
    )
