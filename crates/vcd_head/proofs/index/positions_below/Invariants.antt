use Rattle.vcd_head.proofs.Cited.{◌≡◌, range_with_len}
use Rattle.vcd_head.proofs.index.positions_below.Given as goal

abbrev pub invariant-loop-position : goal.invariant-loop-position
invariant-loop-position l = l.positions.items ≡ range_with_len 0 l.position
