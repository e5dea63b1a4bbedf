use Rattle.vcd_compare.proofs.Cited.{ℕ, List, AllZip, Asked, Named, Header, Names, AreSelected, FindPlaces, IsNamedAt}
use Rattle.vcd_compare.proofs.Facts.{AloneBefore}
use Rattle.vcd_compare.proofs.pairs.add_alone.Given as goal

abbrev pub invariant-loop-index : goal.invariant-loop-index
invariant-loop-index l = (q : Asked) (h : Header) (n : Names) (texts : List (List ℕ)) (others : List Named)
    → FindPlaces q h n texts l.variables l.places → AreSelected q h n l.selected → AllZip (IsNamedAt h) l.initial.alone.items others
    → AloneBefore q h n others l.alone.items l.index-index
