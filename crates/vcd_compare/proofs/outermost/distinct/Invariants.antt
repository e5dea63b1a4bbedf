use Rattle.vcd_compare.proofs.Cited.{ℕ, List, take, AllZip, AreApart, AreNumbersOf, Names}
use Rattle.vcd_compare.proofs.Facts.{AreDistinct}
use Rattle.vcd_compare.proofs.outermost.distinct.Given as goal

abbrev pub invariant-loop-pair : goal.invariant-loop-pair
invariant-loop-pair l = (texts : List (List ℕ)) (ns : List Names) → AreApart texts → AllZip (AreNumbersOf texts) l.pairs ns → AreDistinct texts l.all.keys (take l.pair-index ns)
