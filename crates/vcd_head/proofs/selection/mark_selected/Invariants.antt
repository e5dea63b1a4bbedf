use Rattle.vcd_head.proofs.Cited.{map, take, string_bytes, Header, marked_places, AreOpen, AreClosed, Marked, HaveMatched, parts, Views}
use Rattle.vcd_head.proofs.selection.mark_selected.Given as goal

abbrev pub invariant-loop-row : goal.invariant-loop-row
invariant-loop-row l = record {
  marks : (h : Header) → Views (parts l.view) h → AreClosed h.declarations l.initial.marks
      → Marked (marked_places (map string_bytes l.names) (take l.row h.declarations)) l.initial.marks l.marks;
  closed : (h : Header) → Views (parts l.view) h → AreClosed h.declarations l.initial.marks → AreClosed h.declarations l.marks;
  matched : (h : Header) → Views (parts l.view) h → HaveMatched (map string_bytes l.names) (take l.row h.declarations) l.matched;
  held : (h : Header) → Views (parts l.view) h → AreOpen h (map string_bytes l.group.names.now) l.group.order.now l.matched l.open;
}
