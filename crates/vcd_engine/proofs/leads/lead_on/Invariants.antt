use Rattle.vcd_engine.proofs.Cited.{◌≡◌, ◌+◌, ◌<◌, ◌≤◌, List, ℕ, length, get_or, Header, marks_of, parts, Views}
use Rattle.vcd_engine.proofs.Facts.{LeadFrom}
use Rattle.vcd_engine.proofs.leads.lead_on.Given as goal

abbrev pub invariant-loop-row : goal.invariant-loop-row
invariant-loop-row l = record {
  within : l.row + l.without ≤ length l.marks;
  len : length l.marks ≡ length l.initial.marks;
  front : (i : ℕ) → i < l.row → get_or l.marks i 0 ≡ get_or l.initial.marks i 0;
  leads : (h : Header) (names : List (List ℕ)) → Views (parts l.view) h → l.initial.marks ≡ marks_of names h.declarations → LeadFrom names h.declarations l.marks l.row l.without;
}

abbrev pub decreases-loop-row : goal.decreases-loop-row
decreases-loop-row l = l.row
