use Rattle.std.proofs.Common.{◌≡◌, take, count_by}
use Rattle.example_head.specs.Variables.{is_variable}
use Rattle.example_head.proofs.variable_rows.Given as goal

abbrev pub invariant-loop-row : goal.invariant-loop-row
invariant-loop-row l = l.variables ≡ count_by (λ r. is_variable r.kind) (take l.row-index l.rows)
