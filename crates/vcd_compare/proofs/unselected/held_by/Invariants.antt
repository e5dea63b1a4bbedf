use Rattle.vcd_compare.proofs.Cited.{ℕ, List, length, take, AreWithin, HasTexts}
use Rattle.vcd_compare.proofs.unselected.held_by.Given as goal
use Rattle.vcd_compare.specs.Unselected.{AreMarkedUp}

abbrev pub invariant-loop-path : goal.invariant-loop-path
invariant-loop-path l = (texts : List (List ℕ)) → HasTexts l.paths texts → AreWithin l.variables.paths.items (length texts)
    → AreMarkedUp texts (take l.path-index l.variables.paths.items) l.held.items
