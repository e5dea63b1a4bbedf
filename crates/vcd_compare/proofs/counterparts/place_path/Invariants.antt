use Rattle.vcd_compare.proofs.Cited.{ℕ, List, length, Names, Climbs, HasTexts, IsBelow, IsPlacing, IsSettled, StaySettled}
use Rattle.vcd_compare.proofs.counterparts.place_path.Given as goal

abbrev pub invariant-loop-inner : goal.invariant-loop-inner
invariant-loop-inner l = (n : Names) (texts : List (List ℕ)) → HasTexts l.paths texts → IsPlacing n texts l.fn.places → IsBelow n texts l.number
    → IsPlacing n texts l.places × StaySettled l.fn.places l.places × ((top : ℕ) × Climbs l.paths.nodes.keys n texts l.number l.places.climbed.items top × IsSettled l.places top)

abbrev pub decreases-loop-inner : goal.decreases-loop-inner
decreases-loop-inner l = length l.places.climbed.items
