use Rattle.vcd_engine.proofs.Cited.{◌≡◌, ℕ, List, Appends, edges_line, Header, BodyItem, marks_of, parts, Views, AreTallied}
use Rattle.vcd_engine.proofs.Facts.{rows_before}
use Rattle.vcd_engine.proofs.tally.put_edges_lines.Given as goal

abbrev pub invariant-loop-row : goal.invariant-loop-row
invariant-loop-row g l = ((g.W.Sink.device l.out).failures ≡ (g.W.Sink.device l.fn.out).failures)
    × ((h : Header) (items : List BodyItem) (names : List (List ℕ)) → Views (parts l.view) h → l.marks ≡ marks_of names h.declarations → AreTallied l.table h items
    → Appends (g.W.Sink.device l.fn.out).held (g.W.Sink.device l.out).held (rows_before (edges_line items) names h.declarations l.row))
