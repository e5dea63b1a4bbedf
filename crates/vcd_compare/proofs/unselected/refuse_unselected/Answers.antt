use Rattle.vcd_compare.proofs.Cited.{◌≡◌, Err, rules, sym, subst}
use Rattle.vcd_compare.proofs.Facts.{all_held, err_then, ok_then}
use Rattle.vcd_compare.proofs.unselected.refuse_unselected.Goals as goal
use Rattle.vcd_compare.specs.Unselected.{AreHeld}

pub returns-in_err-refuse_names-clause-faults : goal.returns-in_err-refuse_names-clause-faults
returns-in_err-refuse_names-clause-faults c =
    let e : c.from_residual-in_err-refuse_names.result ≡ Err c.in_err-refuse_names.field-0.0 = search rules in
    rw e (λ q h ns texts has are names exceptions. c.in_err-refuse_names.ensures.faults q h ns texts
    (subst (AreHeld h texts) (sym c.deref.ensures.value) (c.in_ok-held.ensures h texts has are)) names)

pub returns-clause-selected : goal.returns-clause-selected
returns-clause-selected c = ok_then c.refuse_exceptions.result _ _ (λ _ all q h ns texts has are names exceptions.
    let held = c.in_ok-held.ensures h texts has are in
    all_held h ns q.exceptions (c.in_ok-refuse_names.ensures.selected h ns texts (subst (AreHeld h texts) (sym c.deref.ensures.value) held) names)
    (all h q.exceptions texts (subst (AreHeld h texts) (sym c.deref-2.ensures.value) held) exceptions)) c.refuse_exceptions.ensures.selected

pub returns-clause-faults : goal.returns-clause-faults
returns-clause-faults c = err_then c.refuse_exceptions.result _ _ (λ _ says q h ns texts has are names exceptions.
    let held = c.in_ok-held.ensures h texts has are in
    says q h ns texts (subst (AreHeld h texts) (sym c.deref-2.ensures.value) held) exceptions
    (c.in_ok-refuse_names.ensures.selected h ns texts (subst (AreHeld h texts) (sym c.deref.ensures.value) held) names))
    c.refuse_exceptions.ensures.faults
