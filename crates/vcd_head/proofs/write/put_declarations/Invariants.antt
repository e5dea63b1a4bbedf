use Rattle.vcd_head.proofs.Cited.{◌≡◌, take, concat, Appends, each, Header, row_line, is_marked, parts, Views}
use Rattle.vcd_head.proofs.write.put_declarations.Given as goal

abbrev pub invariant-loop-row : goal.invariant-loop-row
invariant-loop-row g l = record {
  same : (g.W.Sink.device l.w).failures ≡ (g.W.Sink.device l.fn.w).failures;
  lines : (h : Header) → Views (parts l.view) h → Appends (g.W.Sink.device l.fn.w).held (g.W.Sink.device l.w).held
      (concat (each (row_line (λ code. code) (is_marked l.marks)) (take l.row h.declarations)));
}
