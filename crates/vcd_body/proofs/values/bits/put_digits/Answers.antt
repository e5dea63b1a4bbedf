use Rattle.vcd_body.proofs.Cited.{arith, same_number_lists, binary_digits}
use Rattle.vcd_body.proofs.Facts.{length_binary}
use Rattle.vcd_body.proofs.values.bits.put_digits.Goals as goal

pub returns : goal.returns
returns c =
    let long = c.loop-index.auto.to in
    let count = length_binary c.args.bits.len c.args.bits.number in
    same_number_lists c.loop-index.to (binary_digits c.args.bits.len c.args.bits.number) (omega (arith, long, count, c.requires)) (λ k few. c.loop-index.invariant k (omega (arith, long, few)))
