use Rattle.vcd_body.proofs.Cited.{◌≡◌, ◌≢◌, max, true, false, length, arith, digits_with}
use Rattle.vcd_body.proofs.Facts.{other_sizes, same_at_longest}
use Rattle.vcd_body.proofs.values.same.are_same_digits.Goals as goal

pub returns-then-max : goal.returns-then-max
returns-then-max c =
    let xs = digits_with c.args.held.holding c.args.held.bytes.now in
    let ys = digits_with c.args.its.holding c.args.its.bytes.now in
    let apart : max c.args.size (length xs) ≢ max c.args.size (length ys) = λ e. c.if-max.true
    (omega (arith, e, c.max.ensures, c.max-2.ensures, c.count-count.ensures, c.count-its_count.ensures)) in (
      λ f. absurd (let g : false ≡ true = f in cc),
      λ same. absurd (other_sizes xs ys c.args.size apart same),
    )

pub returns : goal.returns
returns c =
    let xs = digits_with c.args.held.holding c.args.held.bytes.now in
    let ys = digits_with c.args.its.holding c.args.its.bytes.now in
    same_at_longest xs ys c.args.size c.max-3.result (omega (arith, c.max-3.ensures, c.count-count.ensures, c.count-its_count.ensures))
    (omega (arith, c.max.ensures, c.max-2.ensures, c.count-count.ensures, c.count-its_count.ensures, c.if-max.false))
    c.are_alike.result c.are_alike.ensures
