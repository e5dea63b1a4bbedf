use Rattle.vcd_body.proofs.Cited.{take, drop, ap, ◌∙◌, arith}
use Rattle.vcd_body.proofs.Facts.{same_part}
use Rattle.vcd_body.proofs.digits.copy_digits.Goals as goal

pub overflow_add-from : goal.overflow_add-from
overflow_add-from g c = let long = c.loop-index.auto.to in omega (arith, long, c.requires.within, c.requires.few)

pub returns : goal.returns
returns g c =
    let ds = g.D.Digits.digits c.args.digits in
    let long = c.loop-index.auto.to in
    same_part c.loop-index.to ds c.args.from (omega (arith, long, c.requires.within)) (λ k few. c.loop-index.invariant k (omega (arith, long, few)))
    ∙ ap (λ n. take n (drop c.args.from ds)) long
