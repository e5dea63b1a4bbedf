use Rattle.vcd_compare.proofs.Cited.{ℕ, List, Header, IsViewOf, HasTexts}
use Rattle.vcd_compare.proofs.Facts.{NumbersSome}
use Rattle.vcd_compare.proofs.variables.number_rows.Given as goal

abbrev pub invariant-loop-row : goal.invariant-loop-row
invariant-loop-row l = (h : Header) (texts : List (List ℕ)) → IsViewOf l.view h → HasTexts l.initial.paths texts → NumbersSome h texts l.paths l.numbers.items l.row
