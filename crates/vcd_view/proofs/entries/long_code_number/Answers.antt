use Rattle.vcd_view.proofs.Cited.{◌≡◌, ◌-◌, ◌+◌, get_or, ap, ◌∙◌, arith, drop_more, above}
use Rattle.vcd_view.proofs.entries.long_code_number.Goals as goal

pub loop-position-preserved : goal.loop-position-preserved
loop-position-preserved c =
    let p = c.loop-position.position in
    let back : p - 1 + 1 ≡ p = omega (arith, c.loop-position-test.true) in
    let step = drop_more c.args.code.now (p - 1) 0 (omega (arith, c.loop-position-test.true, c.loop-position.invariant.0)) in (
      omega (arith, c.loop-position.invariant.0),
      rw (step, back) (c.above-number.ensures ∙ ap (λ n. above n (get_or c.args.code.now (p - 1) 0)) c.loop-position.invariant.1),
    )
