use Rattle.std.proofs.Common.{◌≡◌, ℕ, ◌<◌, Some, length, slice_get}
use Rattle.vcd_head.specs.Marks.{is_marked}
use Rattle.vcd_strobe.specs.Roles.{fresh}
use Rattle.vcd_strobe.proofs.start.set_roles.Given as goal

abbrev pub invariant-loop-code : goal.invariant-loop-code
invariant-loop-code l = record {
  len : length l.roles ≡ length l.fn.roles;
  each : (i : ℕ) → i < l.code → slice_get l.roles i ≡ Some (fresh (is_marked l.flags i));
}
