use Rattle.vcd_text.proofs.Cited.{◌≡◌, ◌-◌, ◌≤◌, slice_range, line_feeds_in}
use Rattle.vcd_text.proofs.scan.count_few.Given as goal

abbrev pub invariant-loop-at : goal.invariant-loop-at
invariant-loop-at l = (l.from ≤ l.at) × (l.at ≤ l.to) × (l.line_feeds ≤ l.at - l.from) × (l.line_feeds ≡ line_feeds_in (slice_range l.bytes l.from l.at))

abbrev pub decreases-loop-at : goal.decreases-loop-at
decreases-loop-at l = l.to - l.at
