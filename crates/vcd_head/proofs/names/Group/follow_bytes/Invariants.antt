use Rattle.vcd_head.proofs.Cited.{List, ℕ, ◌++◌, ◌-◌, ◌≤◌, length, take, map, string_bytes, Follows, GoesOn}
use Rattle.vcd_head.proofs.names.Group.follow_bytes.Given as goal

abbrev pub invariant-loop-done : goal.invariant-loop-done
invariant-loop-done l = record {
  within : l.done ≤ length l.bytes;
  goes : (front : List ℕ) → Follows (map string_bytes l.self.names.now) l.self.order.now l.initial.matched front l.initial.run
      → GoesOn (map string_bytes l.self.names.now) l.self.order.now l.initial.matched l.matched (front ++ take l.done l.bytes) l.run;
}

abbrev pub decreases-loop-done : goal.decreases-loop-done
decreases-loop-done l = length l.bytes - l.done
