use Rattle.vcd_compare.proofs.Cited.{◌≡◌}
use Rattle.vcd_compare.proofs.TouchedLemmas.{GoneThrough}
use Rattle.vcd_compare.specs.Comparing.{differs_now}
use Rattle.vcd_compare.proofs.comparing.Comparison.drop_same.Given as goal

-- of the candidates before an index only those are touched still that differ
abbrev pub invariant-loop-index : goal.invariant-loop-index
invariant-loop-index l = record {
  rest : l.self ≡ record l.fn.self { touched = l.self.touched };
  gone : GoneThrough l.fn.self.touched l.self.touched 0 (λ k. differs_now l.fn.self.current k l.at) l.index;
}
