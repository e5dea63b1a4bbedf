use Rattle.vcd_body.proofs.Cited.{◌≡◌, ◌-◌, false, length, bytes_of, passed_of, HasCome, stage_at}
use Rattle.vcd_body.proofs.walk.take_shorts.Given as goal

abbrev pub invariant-items : goal.invariant-items
invariant-items g l = record {
  come : HasCome g.V.Visit.takes g.V.Visit.stands g.V.Visit.over l.fn.view
      (stage_at l.fn.ahead l.fn.regs l.fn.visit l.fn.command (g.W.Sink.device l.fn.out))
      (stage_at l.ahead l.regs l.visit l.command (g.W.Sink.device l.out));
  on : g.V.Visit.over l.visit ≡ false;
}

abbrev pub decreases-items : goal.decreases-items
decreases-items g l = length (bytes_of l.ahead) - passed_of l.ahead
