use Rattle.vcd_body.proofs.Cited.{◌≡◌, ◌-◌, Some, get_or, length, slice_get, sym, ap, ◌∙◌, arith, slice_get-get_or, digits_of}
use Rattle.vcd_body.proofs.Facts.{end_digit}
use Rattle.vcd_body.proofs.values.compare.places_differ.Goals as goal

pub returns-then-digit : goal.returns-then-digit
returns-then-digit c = λ t size e.
    let ds = digits_of c.args.held in
    let n = c.count-count.ensures in
    let back = c.loop-back.back in
    let less = c.loop-back-test.true in
    let m = c.min-back-end.ensures in
    let j : length ds - 1 - back ≡ c.count-count.result - 1 - back = omega (arith, n) in
    let at : slice_get ds (length ds - 1 - back) ≡ Some c.digit.result =
    slice_get-get_or ds (length ds - 1 - back) 0 (omega (arith, n, less, m)) ∙ ap Some (ap (λ i. get_or ds i 0) j ∙ sym c.digit.ensures) in
    c.if-digit.true (end_digit ds c.args.text.now size back c.digit.result (omega (arith, n, less, m)) (omega (arith, less, m)) e at ∙ sym c.to_ascii_lowercase-digit.ensures.value)
