-- It ends, since each turn reads some bytes, and what was read is in the slice.
use Rattle.vcd_host.proofs.Cited.{◌≡◌, ◌-◌, ◌≤◌, length, take, Consumes}
use Rattle.vcd_host.proofs.prefetched.Prefetched.read_front.Given as goal

abbrev pub invariant-loop-count : goal.invariant-loop-count
invariant-loop-count g l = (l.count ≤ length l.into) × (length l.into ≡ length l.initial.into)
    × Consumes (g.R.Read.remaining l.initial.reader) (g.R.Read.remaining l.reader) (take l.count l.into)

abbrev pub decreases-loop-count : goal.decreases-loop-count
decreases-loop-count g l = length l.initial.into - l.count
