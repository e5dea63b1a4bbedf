use Rattle.std.proofs.Common.{◌≡◌, length, take}
use Rattle.vcd_strobe.specs.Listed.{SettlesEach}
use Rattle.vcd_strobe.proofs.touched.settle_roles.Given as goal

abbrev pub invariant-loop-code : goal.invariant-loop-code
invariant-loop-code l = record {
  len : length l.roles ≡ length l.fn.roles;
  settles : SettlesEach (take l.code-index l.codes) l.time l.fn.roles l.roles;
}
