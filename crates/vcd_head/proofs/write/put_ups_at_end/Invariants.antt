use Rattle.vcd_head.proofs.Cited.{◌≡◌, Header, is_marked, parts, Views, counted_from_one}
use Rattle.vcd_head.proofs.Facts.{Closes}
use Rattle.vcd_head.proofs.write.put_ups_at_end.Given as goal

abbrev pub invariant-loop-next : goal.invariant-loop-next
invariant-loop-next g l = record {
  same : (g.W.Sink.device l.w).failures ≡ (g.W.Sink.device l.fn.w).failures;
  closes : (h : Header) → Views (parts l.view) h → Closes (is_marked l.marks) h.declarations l.next (g.W.Sink.device l.fn.w).held (g.W.Sink.device l.w).held;
}

abbrev pub decreases-loop-next : goal.decreases-loop-next
decreases-loop-next g l = counted_from_one l.next
