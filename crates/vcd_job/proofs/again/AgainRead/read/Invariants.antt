use Rattle.vcd_job.proofs.Cited.{Keeps}
use Rattle.vcd_job.proofs.again.AgainRead.read.Given as goal

abbrev pub invariant-loop : goal.invariant-loop
invariant-loop g l = Keeps (g.D.Read.remaining l.fn.self.device) (g.D.Read.remaining l.self.device)
