use Rattle.vcd_head.proofs.Cited.{◌≡◌, ℕ, List, length, take, flat_map, Appends, up_line}
use Rattle.vcd_head.proofs.merged.put_closings.Given as goal

abbrev pub invariant-scopes : goal.invariant-scopes
invariant-scopes g l = record {
  same : (g.W.Sink.device l.w).failures ≡ (g.W.Sink.device l.fn.w).failures;
  lines : (scopes : List ℕ) → length scopes ≡ l.count → Appends (g.W.Sink.device l.fn.w).held (g.W.Sink.device l.w).held (flat_map (λ (scope : ℕ). up_line) (take l.counter scopes));
}
