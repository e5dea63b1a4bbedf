use Rattle.vcd_head.proofs.Cited.{◌≡◌, ◌≤◌, ◌<◌, List, ℕ, suc, ◌∷◌, get_or, length, take, enclosing, Header, Marked, parts, Views, counted_from_one, with_scopes}
use Rattle.vcd_head.proofs.selection.mark_with_scopes.Given as goal

abbrev pub invariant-loop-next : goal.invariant-loop-next
invariant-loop-next l = record {
  within : counted_from_one l.next ≤ suc l.row;
  same : (i : ℕ) → i < counted_from_one l.next → get_or l.marks i 0 ≡ get_or l.initial.marks i 0;
  grown : (i : ℕ) → get_or l.initial.marks i 0 ≡ 1 → get_or l.marks i 0 ≡ 1;
  left : (h : Header) (new : List ℕ) → Views (parts l.view) h → l.row < length h.declarations
      → Marked (with_scopes h.declarations l.next) l.marks new → Marked (l.row ∷ enclosing (take l.row h.declarations)) l.initial.marks new;
}

abbrev pub decreases-loop-next : goal.decreases-loop-next
decreases-loop-next l = counted_from_one l.next
