use Rattle.vcd_job.proofs.Cited.{Err, ap, HeadFault}
use Rattle.vcd_job.proofs.Facts.{head_last}
use Rattle.vcd_job.proofs.inputs.read_head_of.Goals as goal

pub returns-in-Err-clause-last : goal.returns-in-Err-clause-last
returns-in-Err-clause-last g c = rw c.of_head.ensures (head_last _ c.in-Err.fault c.args.input c.line.result (λ e. c.in-Err.ensures.last c.requires.«open» (ap (λ (f : HeadFault). Err f) e)))
