use Rattle.vcd_program.proofs.Cited.{[]}
use Rattle.vcd_program.proofs.Facts.{refusals-by}
use Rattle.vcd_program.proofs.one_input_program.AnyProgram.job_of.Goals as goal

pub returns-clause-refusal : goal.returns-clause-refusal
returns-clause-refusal g c = refusals-by (g.P.OneInputProgram.asks c.args.matches.now) (g.P.OneInputProgram.outcome c.args.matches.now [] []) (c.law.ensures.1 c.args.matches.now) c.job_of.result c.job_of.ensures
