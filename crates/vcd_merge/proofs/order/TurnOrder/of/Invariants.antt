use Rattle.vcd_merge.proofs.Cited.{◌≡◌, ◌≤◌, IsOrder}
use Rattle.vcd_merge.proofs.order.TurnOrder.of.Given as goal

abbrev pub invariant-loop-input : goal.invariant-loop-input
invariant-loop-input l = record {
  order : IsOrder l.seats l.input l.input l.order.inputs l.order.len;
  few : l.order.len ≤ l.input;
  until : l.order.until ≡ l.fn.until;
}
