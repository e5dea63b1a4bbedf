use Rattle.vcd_text.proofs.Cited.{arith}
use Rattle.vcd_text.proofs.ahead.Ahead.new.Goals as goal

pub invariant_of-result-clause-bits : goal.invariant_of-result-clause-bits
invariant_of-result-clause-bits c = c.unknown.ensures.bits _ _ _ (omega arith) (omega arith)
