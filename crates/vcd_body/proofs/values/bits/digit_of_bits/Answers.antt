use Rattle.vcd_body.proofs.Cited.{sym}
use Rattle.vcd_body.proofs.Facts.{binary_get}
use Rattle.vcd_body.proofs.values.bits.digit_of_bits.Goals as goal

pub returns : goal.returns
returns c = sym (binary_get c.args.bits.len c.args.bits.number c.args.index c.requires)
