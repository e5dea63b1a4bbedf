use Rattle.vcd_body.proofs.Cited.{extend}
use Rattle.vcd_body.proofs.Facts.{SameFrom}
use Rattle.vcd_body.proofs.values.compare.are_alike.Given as goal

abbrev pub invariant-loop-index : goal.invariant-loop-index
invariant-loop-index g l = SameFrom l.index (extend (g.D.Digits.digits l.fn.one) l.size) (extend (g.E.Digits.digits l.fn.other) l.size)

abbrev pub decreases-loop-index : goal.decreases-loop-index
decreases-loop-index g l = l.index
