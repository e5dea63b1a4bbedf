use Rattle.vcd_head.proofs.Cited.{◌≡◌, ◌<◌, length, Header, parts, Views}
use Rattle.vcd_head.proofs.Facts.{Opens}
use Rattle.vcd_head.proofs.merged.put_openings.Given as goal

abbrev pub invariant-loop-scope : goal.invariant-loop-scope
invariant-loop-scope g l = record {
  same : (g.W.Sink.device l.w).failures ≡ (g.W.Sink.device l.fn.w).failures;
  opens : (h : Header) → Views (parts l.view) h → l.row < length h.declarations → Opens h l.row l.count l.scopes (g.W.Sink.device l.fn.w).held (g.W.Sink.device l.w).held;
}

abbrev pub decreases-loop-scope : goal.decreases-loop-scope
decreases-loop-scope g l = l.scopes.left
