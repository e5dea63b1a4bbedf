use Rattle.vcd_compare.proofs.Cited.{ℕ, List, AllZip, AreNearest, HasTexts, IsNumberOf}
use Rattle.vcd_compare.proofs.selected.nearest_of.Given as goal

abbrev pub invariant-loop-index : goal.invariant-loop-index
invariant-loop-index l = (texts names : List (List ℕ)) → HasTexts l.paths texts → AllZip (IsNumberOf texts) l.numbers names → AreNearest texts names l.index l.nearest.items
