use Rattle.vcd_body.proofs.Facts.{bit_line_there}
use Rattle.vcd_body.proofs.lines.is_bit_line.Goals as goal

pub returns : goal.returns
returns c = λ e text code t long. bit_line_there c.args.bytes.now c.args.from c.args.to c.args.code_at text code e t long (c.type_inv.bytes c.args.from).fits
