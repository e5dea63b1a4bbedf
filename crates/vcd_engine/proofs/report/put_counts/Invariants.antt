use Rattle.vcd_engine.proofs.Cited.{◌≡◌, take, flat_map, Appends, named_line}
use Rattle.vcd_engine.proofs.report.put_counts.Given as goal

abbrev pub invariant-loop-name : goal.invariant-loop-name
invariant-loop-name g l = ((g.W.Sink.device l.out).failures ≡ (g.W.Sink.device l.fn.out).failures)
    × Appends (g.W.Sink.device l.fn.out).held (g.W.Sink.device l.out).held (flat_map named_line (take l.name-index l.counts))
