use Rattle.vcd_body.proofs.Cited.{◌≡◌, ◌+◌, length, take, drop, ap, sym, ◌∙◌, arith, drop-drop, length-take-le, err_from_is_err_and}
use Rattle.vcd_body.proofs.Facts.{front_part, piece-more, piece-some}
use Rattle.vcd_body.proofs.digits.put_from.Goals as goal

pub returns-in_err-put : goal.returns-in_err-put
returns-in_err-put g c =
    let p = err_from_is_err_and c.from_residual.result c.from_residual.ensures.1 in
    let i = c.loop-at.invariant.1 in
    let ds = g.D.Digits.digits c.args.digits in
    let some = c.min-some.result in
    let size : length (take some c.loop-at.block) ≡ some = length-take-le some c.loop-at.block (omega (arith, c.min-some.ensures, c.min-some.array_long)) in
    let part = front_part c.copy_digits.new.to (drop some c.loop-at.block) some (c.copy_digits.auto.to ∙ size) ∙ c.copy_digits.ensures
    ∙ ap (λ n. take n (drop c.loop-at.at ds)) size ∙ ap (λ a. take some (drop a ds)) i.1 ∙ sym (ap (take some) (drop-drop i.0 c.args.from ds)) in
    rw p.1 (
      piece-some _ _ _ (drop c.args.from ds) _ i.0 some part i.2 c.in_err-put.ensures.0,
      c.in_err-put.ensures.1 ∙ ap (λ n. n + 1) c.loop-at.invariant.0,
    )

pub loop-at-preserved : goal.loop-at-preserved
loop-at-preserved g c =
    let i = c.loop-at.invariant.1 in
    let ds = g.D.Digits.digits c.args.digits in
    let some = c.min-some.result in
    let size : length (take some c.loop-at.block) ≡ some = length-take-le some c.loop-at.block (omega (arith, c.min-some.ensures, c.min-some.array_long)) in
    let part = front_part c.copy_digits.new.to (drop some c.loop-at.block) some (c.copy_digits.auto.to ∙ size) ∙ c.copy_digits.ensures
    ∙ ap (λ n. take n (drop c.loop-at.at ds)) size ∙ ap (λ a. take some (drop a ds)) i.1 ∙ sym (ap (take some) (drop-drop i.0 c.args.from ds)) in
    let at = i.1 in (
      c.in_ok-put.ensures.1 ∙ c.loop-at.invariant.0,
      (i.0 + some, omega (arith, at), piece-more _ _ _ (drop c.args.from ds) _ i.0 some part i.2 c.in_ok-put.ensures.0),
    )
