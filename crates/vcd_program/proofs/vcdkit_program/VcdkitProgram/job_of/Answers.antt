use Rattle.vcd_program.proofs.Facts.{asks-are, refusals-are}
use Rattle.vcd_program.proofs.vcdkit_program.VcdkitProgram.job_of.Goals as goal

pub returns-clause-asks : goal.returns-clause-asks
returns-clause-asks c = asks-are c.args.matches.now c.job_of.result c.job_of.ensures.job c.job_of.ensures.chunk c.job_of.ensures.fault

pub returns-clause-refusal : goal.returns-clause-refusal
returns-clause-refusal c = refusals-are c.args.matches.now c.job_of.result c.job_of.ensures.fault
