use Rattle.vcd_text.proofs.Cited.{◌≡◌, ◌-◌, ◌<◌, ◌≤◌, ℕ, false, length, slice_index, is_white_space}
use Rattle.vcd_text.proofs.ahead.look_ahead.Given as goal

abbrev pub invariant-loop-next : goal.invariant-loop-next
invariant-loop-next l = record {
  within : l.next ≤ length l.bytes;
  from : l.from ≤ l.next;
  other : (j : ℕ) → l.from ≤ j → j < l.next → is_white_space (slice_index l.bytes j) ≡ false;
}

abbrev pub decreases-loop-next : goal.decreases-loop-next
decreases-loop-next l = length l.bytes - l.next
