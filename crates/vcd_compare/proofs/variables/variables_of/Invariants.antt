use Rattle.vcd_compare.proofs.Cited.{◌≡◌, ℕ, List, length, Header, IsViewOf, AreApart, AreNumbered, HasSome}
use Rattle.vcd_compare.proofs.variables.variables_of.Given as goal

abbrev pub invariant-loop-row : goal.invariant-loop-row
invariant-loop-row l = (h : Header) (texts : List (List ℕ)) → IsViewOf l.view h → AreNumbered h texts l.numbers (length h.declarations) → AreApart texts → length texts ≡ l.count
    → HasSome h texts l.row l.variables l.counts.items
