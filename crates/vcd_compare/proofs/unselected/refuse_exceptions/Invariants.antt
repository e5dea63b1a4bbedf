use Rattle.vcd_compare.proofs.Cited.{◌≡◌, ℕ, List, None, take, AllZip, Header, IsNumberOf}
use Rattle.vcd_compare.proofs.unselected.refuse_exceptions.Given as goal
use Rattle.vcd_compare.specs.Unselected.{AreHeld, first_unheld}

abbrev pub invariant-loop-index : goal.invariant-loop-index
invariant-loop-index l = (h : Header) (es texts : List (List ℕ)) → AreHeld h texts l.held → AllZip (IsNumberOf texts) l.exceptions es → first_unheld h (take l.index es) ≡ None
