use Rattle.vcd_head.proofs.Cited.{sym, subst, ◌∙◌, arith, eqb-true, eqb-false, IsBarred, MayStart, TooDeep, NoScope}
use Rattle.vcd_head.proofs.Facts.{too_many, too_deep, scope_may, no_scope, up_may, var_may}
use Rattle.vcd_head.proofs.declarations.check_start.Goals as goal

pub returns-then-len-most-clause-checks : goal.returns-then-len-most-clause-checks
returns-then-len-most-clause-checks c = λ ps h. too_many c.args.most c.args.draft.now ps c.args.kind h (omega arith)

pub returns-in-Scope-clause-checks : goal.returns-in-Scope-clause-checks
returns-in-Scope-clause-checks c = λ ps h.
    subst (λ k. IsBarred c.args.most ps k TooDeep) (sym c.in-Scope.is) (too_deep c.args.most c.args.draft.now ps h (omega arith) (omega arith))

pub returns-in-Up-clause-checks : goal.returns-in-Up-clause-checks
returns-in-Up-clause-checks c = λ ps h.
    subst (λ k. IsBarred c.args.most ps k NoScope) (sym c.in-Up.is)
    (no_scope c.args.most c.args.draft.now ps h (omega arith) (omega (arith, eqb-true _ _ (sym c.is_empty.ensures ∙ c.if-is_empty.true))))

pub returns-in-Scope-2-clause-checks : goal.returns-in-Scope-2-clause-checks
returns-in-Scope-2-clause-checks c = λ ps h.
    subst (MayStart c.args.most ps) (sym c.in-Scope.is) (scope_may c.args.most c.args.draft.now ps h (omega arith) (omega arith))

pub returns-in-Up-2-clause-checks : goal.returns-in-Up-2-clause-checks
returns-in-Up-2-clause-checks c = λ ps h.
    subst (MayStart c.args.most ps) (sym c.in-Up.is) (up_may c.args.most c.args.draft.now ps h (omega arith) (omega (arith, eqb-false _ _ (sym c.is_empty.ensures ∙ c.if-is_empty.false))))

pub returns-in-Var-clause-checks : goal.returns-in-Var-clause-checks
returns-in-Var-clause-checks c = λ ps h.
    subst (MayStart c.args.most ps) (sym c.in-Var.is) (var_may c.args.most c.args.draft.now ps h (omega arith))
