use Rattle.vcd_compare.proofs.Cited.{ℕ, List, Asked, Named, Pair, Header, Names, IsViewOf, AreSelected, FindPlaces, HasPairs}
use Rattle.vcd_compare.proofs.Facts.{HeldBefore}
use Rattle.vcd_compare.proofs.pairs.add_pairs.Given as goal

abbrev pub invariant-loop-index : goal.invariant-loop-index
invariant-loop-index l = (q : Asked) (h : Header) (n : Names) (texts : List (List ℕ)) (compared other_kinds : List Pair) (ones others : List Named)
    → IsViewOf l.view h → FindPlaces q h n texts l.variables l.places → AreSelected q h n l.selected
    → HasPairs l.initial.keys.keys l.initial.pairs h compared other_kinds ones others → HeldBefore l.keys.keys l.pairs q h n compared other_kinds ones others l.index-index
