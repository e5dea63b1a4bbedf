use Rattle.vcd_engine.proofs.Cited.{◌≡◌, ◌-◌, ℕ, List, length, false, Appends, Header, BodyItem, is_settled, parts, Views, LeadOn, AreHeld}
use Rattle.vcd_engine.proofs.Facts.{line_at, rows_before}
use Rattle.vcd_engine.proofs.sample_lines.put_sample.Given as goal

abbrev pub invariant-loop-row : goal.invariant-loop-row
invariant-loop-row g l = ((g.W.Sink.device l.out).failures ≡ (g.W.Sink.device l.fn.out).failures)
    × ((h : Header) (items : List BodyItem) (names : List (List ℕ)) → Views (parts l.view) h → LeadOn names h.declarations l.marks
    → AreHeld l.table h items → is_settled items l.time ≡ false
    → Appends (g.W.Sink.device l.fn.out).held (g.W.Sink.device l.out).held (rows_before (line_at items l.time) names h.declarations l.row))

abbrev pub decreases-loop-row : goal.decreases-loop-row
decreases-loop-row g l = length l.marks - l.row
