use Rattle.vcd_head.proofs.Cited.{◌≡◌, ◌+◌, ◌∙◌, Err, ap, arith, rules}
use Rattle.vcd_head.proofs.Facts.{texts-some}
use Rattle.vcd_head.proofs.write.put_texts.Goals as goal

pub returns-in_err-put : goal.returns-in_err-put
returns-in_err-put g c =
    let e : c.from_residual.result ≡ Err c.in_err-put.field-0.0 = search rules in
    rw e (
      texts-some _ _ _ (λ text. text.now) c.args.texts.now c.loop-text.text-index _ (omega arith) c.loop-text.invariant.1 c.in_err-put.ensures.0,
      c.in_err-put.ensures.1 ∙ ap (λ n. n + 1) c.loop-text.invariant.0,
    )
