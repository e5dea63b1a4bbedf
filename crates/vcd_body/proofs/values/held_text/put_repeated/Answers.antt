use Rattle.vcd_body.proofs.Cited.{◌≡◌, ◌+◌, ◌-◌, replicate, take, ap, subst, ◌∙◌, arith, Appends, err_from_is_err_and}
use Rattle.vcd_body.proofs.Facts.{piece-more, piece-some, repeated_part}
use Rattle.vcd_body.proofs.values.held_text.put_repeated.Goals as goal

pub returns-in_err-put : goal.returns-in_err-put
returns-in_err-put g c =
    let p = err_from_is_err_and c.from_residual.result c.from_residual.ensures.1 in
    let i = c.loop-rest.invariant in
    let within = i.1 in
    let part = repeated_part c.args.digit c.args.count (c.args.count - c.loop-rest.rest) c.min-some.result 64 (omega (arith, within, c.min-some.ensures)) (omega (arith, c.min-some.ensures)) in
    rw p.1 (
      piece-some _ _ _ (replicate c.args.count c.args.digit) _ (c.args.count - c.loop-rest.rest) c.min-some.result part i.2 c.in_err-put.ensures.0,
      c.in_err-put.ensures.1 ∙ ap (λ n. n + 1) i.0,
    )

pub loop-rest-preserved : goal.loop-rest-preserved
loop-rest-preserved g c =
    let i = c.loop-rest.invariant in
    let within = i.1 in
    let all = replicate c.args.count c.args.digit in
    let part = repeated_part c.args.digit c.args.count (c.args.count - c.loop-rest.rest) c.min-some.result 64 (omega (arith, within, c.min-some.ensures)) (omega (arith, c.min-some.ensures)) in
    let more = piece-more _ _ _ all _ (c.args.count - c.loop-rest.rest) c.min-some.result part i.2 c.in_ok-put.ensures.0 in
    let further : (c.args.count - c.loop-rest.rest) + c.min-some.result ≡ c.args.count - (c.loop-rest.rest - c.min-some.result) = omega (arith, within, c.min-some.ensures) in (
      c.in_ok-put.ensures.1 ∙ i.0,
      omega (arith, within),
      subst (λ n. Appends (g.W.Sink.device c.args.w.now).held (g.W.Sink.device c.put.new.w).held (take n all)) further more,
    )
