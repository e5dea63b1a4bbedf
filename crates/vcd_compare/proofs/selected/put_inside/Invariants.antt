use Rattle.vcd_compare.proofs.Cited.{◌≤◌, ℕ, List, length, texts_in, AreNamedBelow, AreNearest, HasTexts}
use Rattle.vcd_compare.proofs.SelectedLemmas.{IsPutting}
use Rattle.vcd_compare.proofs.selected.put_inside.Given as goal

abbrev pub invariant-loop-number : goal.invariant-loop-number
invariant-loop-number l = (texts names : List (List ℕ)) → (has : HasTexts l.paths texts) → (near : AreNearest texts names (length texts) l.nearest)
    → l.around ≤ length texts → AreNamedBelow texts names (length l.initial.lists.items)
    → IsPutting (texts_in l.paths.parts) l.paths.nodes.keys texts has names l.nearest near l.around l.index l.number l.initial.lists.items l.lists.items

abbrev pub decreases-loop-number : goal.decreases-loop-number
decreases-loop-number l = l.number
