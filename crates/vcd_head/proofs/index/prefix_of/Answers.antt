use Rattle.vcd_head.proofs.Cited.{arith}
use Rattle.vcd_head.proofs.Facts.{front_fits}
use Rattle.vcd_head.proofs.index.prefix_of.Goals as goal

pub overflow_mul-number : goal.overflow_mul-number
overflow_mul-number c = omega (arith, front_fits c.loop-position.number c.loop-position.position 0 c.loop-position.invariant.1 (omega (arith, c.loop-position-test.true, c.requires)) (omega arith))

pub overflow_add-number : goal.overflow_add-number
overflow_add-number c = omega (
  arith,
  front_fits c.loop-position.number c.loop-position.position c.byte_at.result c.loop-position.invariant.1
      (omega (arith, c.loop-position-test.true, c.requires)) c.byte_at.ensures.small,
)
