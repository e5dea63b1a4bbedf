use Rattle.vcd_compare.proofs.Cited.{◌≤◌, ℕ, List, length, HasTexts}
use Rattle.vcd_compare.proofs.Facts.{IsMarking}
use Rattle.vcd_compare.proofs.unselected.mark_around.Given as goal

abbrev pub invariant-loop-number : goal.invariant-loop-number
invariant-loop-number l = (texts : List (List ℕ)) → HasTexts l.paths texts → l.from ≤ length texts → IsMarking texts l.from l.number l.initial.held.items l.held.items

abbrev pub decreases-loop-number : goal.decreases-loop-number
decreases-loop-number l = l.number
