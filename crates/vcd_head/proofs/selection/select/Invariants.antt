use Rattle.vcd_head.proofs.Cited.{◌≡◌, None, ◌-◌, ◌<◌, ◌≤◌, List, ℕ, length, map, take, string_bytes, Header, first_unmatched, marked_places, AreClosed, Marked, parts, Views}
use Rattle.vcd_head.proofs.selection.select.Given as goal

abbrev pub invariant-loop-done : goal.invariant-loop-done
invariant-loop-done l = record {
  within : l.done ≤ length l.names;
  some : l.done < length l.names → 0 < l.done;
  len : length l.marks ≡ length l.view.rows.now;
  matched : (h : Header) → Views (parts l.view) h → first_unmatched (map string_bytes (take l.done l.names)) h.declarations ≡ None;
  closed : (h : Header) → Views (parts l.view) h → AreClosed h.declarations l.initial.marks → AreClosed h.declarations l.marks;
  marks : (h : Header) (zeros : List ℕ) → Views (parts l.view) h → AreClosed h.declarations l.initial.marks
      → Marked (marked_places (map string_bytes (take l.initial.done l.names)) h.declarations) zeros l.initial.marks
      → Marked (marked_places (map string_bytes (take l.done l.names)) h.declarations) zeros l.marks;
}

abbrev pub decreases-loop-done : goal.decreases-loop-done
decreases-loop-done l = length l.names - l.done
