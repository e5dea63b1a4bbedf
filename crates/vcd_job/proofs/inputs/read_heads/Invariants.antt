use Rattle.vcd_job.proofs.Facts.{Opening}
use Rattle.vcd_job.proofs.inputs.read_heads.Given as goal

abbrev pub invariant-loop-input : goal.invariant-loop-input
invariant-loop-input g l = Opening g.S.Source.rest g.S.Source.failures l.fn.readers l.readers l.fn.windows l.windows l.input l.most l.inputs.heads.items l.inputs.seats.items
