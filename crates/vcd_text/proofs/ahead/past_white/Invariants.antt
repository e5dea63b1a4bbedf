use Rattle.vcd_text.proofs.Cited.{◌-◌, ◌≤◌, length, AreWhite}
use Rattle.vcd_text.proofs.ahead.past_white.Given as goal

abbrev pub invariant-loop-at : goal.invariant-loop-at
invariant-loop-at l = (l.at ≤ length l.fn.bytes) × AreWhite l.fn.bytes l.fn.from l.at

abbrev pub decreases-loop-at : goal.decreases-loop-at
decreases-loop-at l = length l.fn.bytes - l.at
