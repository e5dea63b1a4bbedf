use Rattle.vcd_head.proofs.Cited.{[], take, Header, marked_places, AreClosed, Marked, parts, Views}
use Rattle.vcd_head.proofs.selection.mark_all.Given as goal

abbrev pub invariant-loop-row : goal.invariant-loop-row
invariant-loop-row l = record {
  marks : (h : Header) → Views (parts l.view) h → AreClosed h.declarations l.initial.marks → Marked (marked_places [] (take l.row h.declarations)) l.initial.marks l.marks;
  closed : (h : Header) → Views (parts l.view) h → AreClosed h.declarations l.initial.marks → AreClosed h.declarations l.marks;
}
