use Rattle.vcd_compare.proofs.Cited.{◌≡◌, ℕ, List, get_or, Names, Climbs, HasTexts, IsBelow, IsNumberOf}
use Rattle.vcd_compare.proofs.counterparts.climb.Given as goal

abbrev pub invariant-loop-number : goal.invariant-loop-number
invariant-loop-number l = (n : Names) (texts : List (List ℕ)) → HasTexts l.paths texts → ((m : ℕ) → IsNumberOf texts m n.0 → get_or l.turns m 0 ≡ l.turn) → IsBelow n texts l.from
    → Climbs l.paths.nodes.keys n texts l.from l.climbed.items l.number × IsBelow n texts l.number

abbrev pub decreases-loop-number : goal.decreases-loop-number
decreases-loop-number l = l.number
