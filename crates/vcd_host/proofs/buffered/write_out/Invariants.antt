-- It ends, since each turn writes some bytes, and what was written is in the device.
use Rattle.vcd_host.proofs.Cited.{◌-◌, ◌≤◌, length, take, Appends}
use Rattle.vcd_host.proofs.buffered.write_out.Given as goal

abbrev pub invariant-loop-written : goal.invariant-loop-written
invariant-loop-written g l = (l.written ≤ length l.bytes) × Appends (g.D.Write.contents l.initial.device) (g.D.Write.contents l.device) (take l.written l.bytes)

abbrev pub decreases-loop-written : goal.decreases-loop-written
decreases-loop-written g l = length l.bytes - l.written
