use Rattle.std.proofs.Common.{◌≡◌}
use Rattle.vcd_text.specs.Watch.{failed_calls}
use Rattle.vcd_head_tests.proofs.head.paths_of_nested_scopes.Given as goal

abbrev pub invariant-loop-row : goal.invariant-loop-row
invariant-loop-row g l = failed_calls l.paths ≡ 0
