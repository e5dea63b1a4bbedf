use Rattle.vcd_compare.proofs.Cited.{◌≡◌, ◌+◌, ℕ, List, length, AreInside, AreNamedBelow, AreNearest, AreWithin, HasTexts}
use Rattle.vcd_compare.proofs.selected.inside_of.Given as goal

abbrev pub invariant-loop-index : goal.invariant-loop-index
invariant-loop-index l = (texts names es : List (List ℕ)) → HasTexts l.paths texts → AreNearest texts names (length texts) l.nearest
    → AreNearest texts es (length texts) l.left_out → AreWithin l.items (length texts) → AreNamedBelow texts names (l.named + 1)
    → (length l.lists.items ≡ l.named + 1) × AreInside texts names es l.items l.index l.lists.items
