use Rattle.vcd_compare.proofs.Cited.{ℕ, List, AreNumbersOf, HasTexts, Names}
use Rattle.vcd_compare.proofs.Facts.{GoesUp}
use Rattle.vcd_compare.proofs.outermost.is_covered.Given as goal
use Rattle.vcd_compare.specs.Outermost.{AreKeysOf}

abbrev pub invariant-loop-around : goal.invariant-loop-around
invariant-loop-around l = (texts : List (List ℕ)) (n : Names) (ns : List Names) → HasTexts l.paths texts → AreNumbersOf texts l.fn.pair n
    → AreKeysOf texts l.all.keys ns → GoesUp texts l.inner n ns

abbrev pub decreases-loop-around : goal.decreases-loop-around
decreases-loop-around l = l.inner.0
