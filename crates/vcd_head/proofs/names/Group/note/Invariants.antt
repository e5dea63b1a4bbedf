use Rattle.vcd_head.proofs.Cited.{◌≡◌, ◌≤◌, ℕ, List, length, map, string_bytes, Follows}
use Rattle.vcd_head.proofs.Facts.{Noting}
use Rattle.vcd_head.proofs.names.Group.note.Given as goal

abbrev pub invariant-loop-at : goal.invariant-loop-at
invariant-loop-at l = record {
  len : length l.matched ≡ 16384;
  up : l.run.first ≤ l.at;
  noting : (front : List ℕ) → Follows (map string_bytes l.self.names.now) l.self.order.now l.initial.matched front l.run
      → Noting (map string_bytes l.self.names.now) l.self.order.now front l.initial.matched l.matched l.run.first l.at;
}
