use Rattle.vcd_compare.proofs.Cited.{◌≤◌, ℕ, List, length, HasTexts}
use Rattle.vcd_compare.proofs.Facts.{IsEntering}
use Rattle.vcd_compare.proofs.paths.enter_path.Given as goal

abbrev pub invariant-loop-part : goal.invariant-loop-part
invariant-loop-part l = (texts : List (List ℕ)) → HasTexts l.initial.paths texts → l.around ≤ length texts → IsEntering texts l.around l.name l.paths l.number l.rest

abbrev pub decreases-loop-part : goal.decreases-loop-part
decreases-loop-part l = length l.rest
