use Rattle.vcd_head.proofs.Cited.{◌≡◌, ℕ, List, Appends, Header, FitNumbers, parts, Views}
use Rattle.vcd_head.proofs.Facts.{IsWritten}
use Rattle.vcd_head.proofs.merged.put_input_rows.Given as goal

abbrev pub invariant-loop-row : goal.invariant-loop-row
invariant-loop-row g l = record {
  same : (g.W.Sink.device l.w).failures ≡ (g.W.Sink.device l.fn.w).failures;
  lines : (h : Header) → Views (parts l.view) h → FitNumbers l.first h → (text : List ℕ)
      × IsWritten l.first h l.row l.scopes.pending l.scopes.written text × Appends (g.W.Sink.device l.fn.w).held (g.W.Sink.device l.w).held text;
}
