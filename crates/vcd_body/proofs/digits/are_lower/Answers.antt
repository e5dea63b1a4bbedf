use Rattle.vcd_body.proofs.Facts.{low_more}
use Rattle.vcd_body.proofs.digits.are_lower.Goals as goal

pub loop-digit-preserved : goal.loop-digit-preserved
loop-digit-preserved c = low_more c.args.digits.now c.loop-digit.digit-index c.loop-digit.all c.loop-digit-test.true (c.type_inv.digits c.loop-digit.digit-index).fits c.loop-digit.invariant
