use Rattle.vcd_compare.proofs.Cited.{ℕ, ◌<◌, List, length, get_or, Asked, Header, Names, AreSelected, AreVariables, HasTexts, IsNumberOf, IsPlacing, IsReady, IsSettled}
use Rattle.vcd_compare.proofs.counterparts.place_paths.Given as goal

-- the paths of the first variables are settled
abbrev pub invariant-loop-index : goal.invariant-loop-index
invariant-loop-index l = (q : Asked) (h : Header) (n : Names) (texts : List (List ℕ)) → HasTexts l.paths texts → AreVariables h texts l.variables
    → IsNumberOf texts l.one n.0 → IsNumberOf texts l.other n.1 → AreSelected q h n l.selected → IsReady (length texts) l.fn.places
    → IsPlacing n texts l.places × ((i : ℕ) → i < l.index-index → IsSettled l.places (get_or l.variables.paths.items (get_or l.selected i 0) 0))
