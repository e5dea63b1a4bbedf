use Rattle.std.proofs.Common.{◌∙◌, arith}
use Rattle.vcd_strobe.proofs.ListSteps.{settles_more}
use Rattle.vcd_strobe.proofs.touched.settle_roles.Goals as goal

pub loop-code-preserved : goal.loop-code-preserved
loop-code-preserved c = record {
  len = c.settle_role.ensures.len ∙ c.loop-code.invariant.len;
  settles = settles_more c.args.codes.now c.loop-code.code-index c.args.time c.args.roles.now c.loop-code.roles _
      (omega arith) c.loop-code.invariant.settles c.settle_role.ensures.there c.settle_role.ensures.past;
}
