use Rattle.vcd_body.proofs.Cited.{◌≡◌, ◌-◌, ◌≤◌, replicate, take, Appends}
use Rattle.vcd_body.proofs.values.held_text.put_repeated.Given as goal

abbrev pub invariant-loop-rest : goal.invariant-loop-rest
invariant-loop-rest g l = ((g.W.Sink.device l.w).failures ≡ (g.W.Sink.device l.fn.w).failures)
    × (l.rest ≤ l.count)
    × Appends (g.W.Sink.device l.fn.w).held (g.W.Sink.device l.w).held (take (l.count - l.rest) (replicate l.count l.digit))

abbrev pub decreases-loop-rest : goal.decreases-loop-rest
decreases-loop-rest g l = l.rest
