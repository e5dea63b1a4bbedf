use Rattle.vcd_body.proofs.Facts.{written}
use Rattle.vcd_body.proofs.words.bits_at.Goals as goal

pub returns-then-are_binary_at : goal.returns-then-are_binary_at
returns-then-are_binary_at c = written c.args.digits.now c.args.bytes.now c.args.at c.binary_number_at-number.result c.requires.position
    (c.are_binary_at.ensures.binary c.if-are_binary_at.true) c.binary_number_at-number.ensures.bits
