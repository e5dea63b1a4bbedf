use Rattle.vcd_compare.proofs.Cited.{false}
use Rattle.vcd_compare.proofs.TouchedLemmas.{GoneThrough}
use Rattle.vcd_compare.proofs.touched.Touched.clear.Given as goal

-- the candidates before an index are cleared
abbrev pub invariant-loop-index : goal.invariant-loop-index
invariant-loop-index l = GoneThrough l.fn.self l.self 0 (λ _. false) l.index
