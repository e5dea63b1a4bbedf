use Rattle.vcd_body.proofs.Cited.{◌≡◌, ◌+◌, ◌*◌, ◌-◌, length, ap, ◌∙◌, arith, two_bits_or}
use Rattle.vcd_body.proofs.values.packed.packed_16.Goals as goal

pub returns-clause-each : goal.returns-clause-each
returns-clause-each c = λ k less.
    let text = c.args.text.now in
    let q = c.args.quarter in
    let at = c.args.at in
    let second : two_bits_or text (at + q + k) ≡ two_bits_or text (at + k + q) = ap (two_bits_or text) (omega arith) in
    let third : two_bits_or text (at + 2 * q + k) ≡ two_bits_or text (at + k + 2 * q) = ap (two_bits_or text) (omega arith) in
    let last : two_bits_or text (at + (length text - q) + k) ≡ two_bits_or text (at + k + (length text - q)) = ap (two_bits_or text) (omega arith) in
    c.packed_from.ensures.each k less ∙ omega (arith, second, third, last)
