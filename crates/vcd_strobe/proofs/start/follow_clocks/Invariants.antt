use Rattle.std.proofs.Common.{◌≡◌, length, take}
use Rattle.vcd_strobe.specs.Listed.{FollowsEach}
use Rattle.vcd_strobe.proofs.start.follow_clocks.Given as goal

abbrev pub invariant-loop-clock : goal.invariant-loop-clock
invariant-loop-clock l = record {
  len : length l.roles ≡ length l.fn.roles;
  follows : FollowsEach (take l.clock-index l.clocks) l.fn.roles l.roles;
}
