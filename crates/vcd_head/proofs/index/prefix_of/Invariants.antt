use Rattle.vcd_head.proofs.Cited.{◌≡◌, ◌<◌, ◌^◌, prefix_in}
use Rattle.vcd_head.proofs.index.prefix_of.Given as goal

abbrev pub invariant-loop-position : goal.invariant-loop-position
invariant-loop-position l = (l.number ≡ prefix_in l.position l.bytes) × (l.number < 256 ^ l.position)
