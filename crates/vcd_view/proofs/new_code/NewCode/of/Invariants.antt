use Rattle.vcd_view.proofs.Cited.{◌-◌}
use Rattle.vcd_view.proofs.Facts.{SoFar}
use Rattle.vcd_view.proofs.new_code.NewCode.of.Given as goal

abbrev pub invariant-loop-len : goal.invariant-loop-len
invariant-loop-len l = SoFar l.number l.bytes l.rest l.len

abbrev pub decreases-loop-len : goal.decreases-loop-len
decreases-loop-len l = 9 - l.len
