use Rattle.vcd_text.proofs.Cited.{arith}
use Rattle.vcd_text.proofs.Facts.{tells-none}
use Rattle.vcd_text.proofs.ahead.look_ahead.Goals as goal

pub loop-next-preserved : goal.loop-next-preserved
loop-next-preserved c = record {
  within = omega arith;
  from = omega arith;
  other = tells-none c.args.bytes.now c.args.from c.loop-next.next c.white_64-bits.result c.loop-next.invariant.other c.white_64-bits.ensures c.if-bits-ne0.false;
}
