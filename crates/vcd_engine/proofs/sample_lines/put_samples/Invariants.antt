use Rattle.vcd_engine.proofs.Cited.{◌≡◌, ℕ, List, false, take, flat_map, Appends, AllByRecursion, Header, BodyItem, is_settled, sample_lines, selected, IsViewOf, LeadOn, AreHeld}
use Rattle.vcd_engine.proofs.sample_lines.put_samples.Given as goal

abbrev pub invariant-loop-time : goal.invariant-loop-time
invariant-loop-time g l = ((g.W.Sink.device l.out).failures ≡ (g.W.Sink.device l.fn.out).failures)
    × ((h : Header) (items : List BodyItem) (names : List (List ℕ)) → IsViewOf l.view h → LeadOn names h.declarations l.marks
    → AreHeld l.table h items → AllByRecursion (λ t. is_settled items t ≡ false) l.times
    → Appends (g.W.Sink.device l.fn.out).held (g.W.Sink.device l.out).held (flat_map (sample_lines (selected names h.declarations) items) (take l.time-index l.times)))
