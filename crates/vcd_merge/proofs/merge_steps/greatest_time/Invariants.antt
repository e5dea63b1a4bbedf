use Rattle.vcd_merge.proofs.Cited.{◌≡◌, drop, None, greatest_from}
use Rattle.vcd_merge.proofs.merge_steps.greatest_time.Given as goal

abbrev pub invariant-loop-seat : goal.invariant-loop-seat
invariant-loop-seat l = greatest_from l.greatest (drop l.seat-index l.seats) ≡ greatest_from None l.seats
