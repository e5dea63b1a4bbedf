use Rattle.vcd_engine.proofs.Cited.{◌≡◌, take, count_by, declares_variable, opens_scope}
use Rattle.vcd_engine.proofs.report.declared_in.Given as goal

abbrev pub invariant-loop-row : goal.invariant-loop-row
invariant-loop-row l = (l.scopes ≡ count_by (λ r. opens_scope r.kind) (take l.row-index l.rows))
    × (l.variables ≡ count_by (λ r. declares_variable r.kind) (take l.row-index l.rows))
