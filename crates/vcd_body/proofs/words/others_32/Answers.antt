use Rattle.vcd_body.proofs.Cited.{arith}
use Rattle.vcd_body.proofs.Facts.{clear_is, others_bit, set_is}
use Rattle.vcd_body.proofs.words.others_32.Goals as goal

pub returns-clause-same : goal.returns-clause-same
returns-clause-same c = λ k less none. clear_is _ _ (others_bit c.args.byte c.args.bytes.now c.args.at 32 c.requires (omega arith) k less) none

pub returns-clause-other : goal.returns-clause-other
returns-clause-other c = λ k less set. set_is _ _ (others_bit c.args.byte c.args.bytes.now c.args.at 32 c.requires (omega arith) k less) set
