use Rattle.vcd_program.proofs.Cited.{arith}
use Rattle.vcd_program.proofs.Facts.{refusal-low, refusal-memory, refusal-quiet}
use Rattle.vcd_program.proofs.one_input_program.AnyProgram.use_fault.Goals as goal

pub returns-clause-line : goal.returns-clause-line
returns-clause-line g c = rw c.program.ensures at c.use_fault.ensures

pub returns-clause-quiet : goal.returns-clause-quiet
returns-clause-quiet g c = refusal-quiet c.args.fault

pub returns-clause-memory : goal.returns-clause-memory
returns-clause-memory g c = refusal-memory

pub returns-clause-low : goal.returns-clause-low
returns-clause-low g c = let is = c.use_fault.ensures.status in let low = refusal-low c.args.fault in omega (arith, is, low)
