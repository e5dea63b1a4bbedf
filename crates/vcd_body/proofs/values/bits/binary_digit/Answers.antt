use Rattle.vcd_body.proofs.Cited.{◌-◌, ◌+◌, ◌/◌, ◌%◌, ◌^◌, Some, sym, ap, ◌∙◌, arith, count_in, number_in, len_of}
use Rattle.vcd_body.proofs.Facts.{binary_at, binary_past}
use Rattle.vcd_body.proofs.values.bits.binary_digit.Goals as goal

pub returns-then-index-count : goal.returns-then-index-count
returns-then-index-count c = sym (binary_past (count_in (len_of c.args.holding)) (number_in (len_of c.args.holding)) c.args.index (omega (arith, c.count_in-count.ensures, c.if-index-count.true)))

pub returns : goal.returns
returns c =
    let n = c.number_in.result in
    let position = c.args.index in
    ap (λ k. Some (48 + n / 2 ^ (k - 1 - position) % 2)) c.count_in-count.ensures
    ∙ ap (λ k. Some (48 + k / 2 ^ (count_in (len_of c.args.holding) - 1 - position) % 2)) c.number_in.ensures
    ∙ sym (binary_at (count_in (len_of c.args.holding)) (number_in (len_of c.args.holding)) position (omega (arith, c.count_in-count.ensures, c.if-index-count.false)))
