use Rattle.vcd_engine.proofs.Cited.{◌≡◌, [], take, Appends, Header, parts, Views}
use Rattle.vcd_engine.proofs.Facts.{lines_after}
use Rattle.vcd_engine.proofs.rows.list.Given as goal

abbrev pub invariant-loop-row : goal.invariant-loop-row
invariant-loop-row g l = ((g.W.Sink.device l.out).failures ≡ (g.W.Sink.device l.fn.out).failures)
    × ((h : Header) → Views (parts l.view) h → Appends (g.W.Sink.device l.fn.out).held (g.W.Sink.device l.out).held (lines_after [] (take l.row h.declarations)))
