use Rattle.vcd_compare.proofs.Cited.{ℕ, List, length, AllZip, Asked, Header, Names, IsReady, IsViewOf, AreNumbersOf, HasSelected}
use Rattle.vcd_compare.proofs.Facts.{HeldNames}
use Rattle.vcd_compare.proofs.pairs.pairs_between.Given as goal

abbrev pub invariant-loop-one : goal.invariant-loop-one
invariant-loop-one l = (q : Asked) (h : Header) (ns : List Names) (texts : List (List ℕ)) → IsViewOf l.view h
    → HasSelected l.paths l.variables l.lists q h ns texts → AllZip (AreNumbersOf texts) l.numbers ns → IsReady (length texts) l.places
    × HeldNames q h ns l.keys.keys l.pairs l.one-index
