use Rattle.vcd_job.proofs.Cited.{Keeps}
use Rattle.vcd_job.proofs.again.AgainWrite.write.Given as goal

abbrev pub invariant-loop : goal.invariant-loop
invariant-loop g l = Keeps (g.D.Write.contents l.fn.self.device) (g.D.Write.contents l.self.device)
