use Rattle.vcd_body.proofs.Cited.{arith}
use Rattle.vcd_body.proofs.Facts.{fewer_differ}
use Rattle.vcd_body.proofs.values.compare.are_too_few.Goals as goal

pub returns : goal.returns
returns g c = λ yes size fill. fewer_differ (g.E.Digits.digits c.args.others) (g.D.Digits.digits c.args.digits) size
    (c.are_shortest.ensures yes size) (omega (arith, c.count-count.ensures, c.if-count-eq0.false))
    (omega (arith, c.count-count.ensures, c.count.ensures, c.if-count.false)) fill
