use Rattle.std.proofs.Common.{◌∙◌}
use Rattle.std.proofs.lemmas.List.{length-set}
use Rattle.vcd_strobe.proofs.BinaryDigits.{binary_next}
use Rattle.vcd_strobe.proofs.edge_lines.put_binary.Goals as goal

pub loop-index-preserved : goal.loop-index-preserved
loop-index-preserved c = record {
  long = length-set c.loop-index.digits c.loop-index.index _ ∙ c.loop-index.invariant.long;
  so_far = binary_next c.loop-index.digits c.loop-index.index c.args.number c.loop-index-test.true c.loop-index.invariant.long c.loop-index.invariant.so_far;
}
