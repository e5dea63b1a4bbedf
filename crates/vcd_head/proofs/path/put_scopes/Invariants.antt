use Rattle.vcd_head.proofs.Cited.{◌≡◌, ◌<◌, length, Header, parts, Views}
use Rattle.vcd_head.proofs.Facts.{HasNames}
use Rattle.vcd_head.proofs.path.put_scopes.Given as goal

abbrev pub invariant-loop-scope : goal.invariant-loop-scope
invariant-loop-scope g l = record {
  same : (g.W.Sink.device l.w).failures ≡ (g.W.Sink.device l.fn.w).failures;
  names : (h : Header) → Views (parts l.view) h → l.row < length h.declarations → HasNames h l.row l.scopes (g.W.Sink.device l.fn.w).held (g.W.Sink.device l.w).held;
}

abbrev pub decreases-loop-scope : goal.decreases-loop-scope
decreases-loop-scope g l = l.scopes.left
