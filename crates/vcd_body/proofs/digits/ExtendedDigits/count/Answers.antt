use Rattle.vcd_body.proofs.Cited.{arith}
use Rattle.vcd_body.proofs.Facts.{length_extended}
use Rattle.vcd_body.proofs.digits.ExtendedDigits.count.Goals as goal

pub returns : goal.returns
returns g c = let l = length_extended (g.D.Digits.digits c.args.self.digits) c.args.self.size in omega (arith, l, c.max.ensures, c.count.ensures)
