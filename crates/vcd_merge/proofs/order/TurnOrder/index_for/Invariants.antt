use Rattle.vcd_merge.proofs.Cited.{◌-◌, ℕ, ◌<◌, ◌≤◌, get_or, ComesBefore, time_of}
use Rattle.vcd_merge.proofs.order.TurnOrder.index_for.Given as goal

abbrev pub invariant-loop-low : goal.invariant-loop-low
invariant-loop-low l = record {
  order : l.low ≤ l.high;
  within : l.high ≤ l.self.len;
  before : (p : ℕ) → l.high ≤ p → p < l.self.len → ComesBefore (time_of l.seats (get_or l.self.inputs p 0)) (get_or l.self.inputs p 0) (time_of l.seats l.input) l.input;
  after : (p : ℕ) → p < l.low → ComesBefore (time_of l.seats l.input) l.input (time_of l.seats (get_or l.self.inputs p 0)) (get_or l.self.inputs p 0);
}

abbrev pub decreases-loop-low : goal.decreases-loop-low
decreases-loop-low l = l.high - l.low
