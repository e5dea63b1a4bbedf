use Rattle.vcd_compare.proofs.Cited.{ℕ, List, filter, take, AllZip, AreNumbersOf, HasTexts, Names}
use Rattle.vcd_compare.proofs.Facts.{is_out}
use Rattle.vcd_compare.proofs.outermost.outermost.Given as goal
use Rattle.vcd_compare.specs.Outermost.{firsts}

abbrev pub invariant-loop-pair : goal.invariant-loop-pair
invariant-loop-pair l = (texts : List (List ℕ)) (ns : List Names) → HasTexts l.paths texts → AllZip (AreNumbersOf texts) l.names ns
    → AllZip (AreNumbersOf texts) l.outermost.items (filter (is_out ns) (take l.pair-index (firsts ns)))
