use Rattle.vcd_head.proofs.Cited.{◌-◌, ◌<◌, ◌≤◌, ℕ, map, string_bytes, next_in}
use Rattle.vcd_head.specs.NameOrder.{Rises}
use Rattle.vcd_head.proofs.names.Group.first_from.Given as goal

abbrev pub invariant-loop-low : goal.invariant-loop-low
invariant-loop-low l = record {
  range : l.first ≤ l.end → (l.first ≤ l.low) × (l.low ≤ l.high) × (l.high ≤ l.end);
  below : l.first ≤ l.end → Rises (map string_bytes l.self.names.now) l.self.order.now l.front_len l.first l.end → (i : ℕ) → l.first ≤ i → i < l.low
      → next_in (map string_bytes l.self.names.now) l.self.order.now l.front_len i < l.least;
  above : l.first ≤ l.end → Rises (map string_bytes l.self.names.now) l.self.order.now l.front_len l.first l.end → (i : ℕ) → l.high ≤ i → i < l.end
      → l.least ≤ next_in (map string_bytes l.self.names.now) l.self.order.now l.front_len i;
}

abbrev pub decreases-loop-low : goal.decreases-loop-low
decreases-loop-low l = l.high - l.low
