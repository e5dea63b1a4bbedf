use Rattle.vcd_compare.proofs.Cited.{◌≡◌, ℕ, List, None, take, AllZip, AreNumbersOf, Header, Names, both_names}
use Rattle.vcd_compare.proofs.unselected.refuse_names.Given as goal
use Rattle.vcd_compare.specs.Unselected.{AreHeld, first_unheld}

abbrev pub invariant-loop-index : goal.invariant-loop-index
invariant-loop-index l = (h : Header) (ns : List Names) (texts : List (List ℕ)) → AreHeld h texts l.held → AllZip (AreNumbersOf texts) l.names ns
    → first_unheld h (both_names (take l.index ns)) ≡ None
