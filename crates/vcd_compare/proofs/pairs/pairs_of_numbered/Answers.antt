use Rattle.vcd_compare.proofs.Cited.{◌+◌, length, sym, subst, AllZip, AreInside, AreNumbersOf, IsNumberOf, both_names}
use Rattle.std.proofs.lemmas.Result.{err_from_is_err_and}
use Rattle.vcd_compare.proofs.Facts.{few_kept, outermost_below, paths_within}
use Rattle.vcd_compare.proofs.pairs.pairs_of_numbered.Goals as goal
use Rattle.vcd_model.specs.Within.{outermost}

pub returns-clause-pairs : goal.returns-clause-pairs
returns-clause-pairs c = λ h q ns view a.
    let all = c.args.all.now in
    let vs = all.variables in
    let out = c.in_ok-names.ensures a.texts ns a.has (subst (λ l. AllZip (AreNumbersOf a.texts) l ns) (sym c.deref-3.ensures.value) a.names) in
    let inside = c.in_ok-lists.ensures a.texts q.exceptions (outermost ns) a.has (outermost_below a.texts ns (all.named + 1) a.below) (paths_within h a.texts vs a.are)
    (subst (λ l. AllZip (AreNumbersOf a.texts) l (outermost ns)) (sym c.deref-4.ensures.value) out)
    (subst (λ l. AllZip (IsNumberOf a.texts) l q.exceptions) (sym c.deref-5.ensures.value) a.exceptions) in
    let are = c.in_ok-pairs_between.ensures q h (outermost ns) a.texts view (record {
      has = a.has;
      are = a.are;
      inside = subst (λ ls. AreInside a.texts (both_names (outermost ns)) q.exceptions vs.paths.items (length vs.paths.items) ls) (sym c.deref-6.ensures.value) inside;
    }) (subst (λ l. AllZip (AreNumbersOf a.texts) l (outermost ns)) (sym c.deref-7.ensures.value) out) in
    (are, few_kept c.in_ok-pairs_between.field-0 h q (outermost ns) are)

pub returns-clause-selected : goal.returns-clause-selected
returns-clause-selected c = λ h q ns a. c.in_ok-refuse_unselected.ensures.selected q h ns a.texts a.has a.are
    (subst (λ l. AllZip (AreNumbersOf a.texts) l ns) (sym c.deref.ensures.value) a.names)
    (subst (λ l. AllZip (IsNumberOf a.texts) l q.exceptions) (sym c.deref-2.ensures.value) a.exceptions)

pub returns-in_err-refuse_unselected-clause-faults : goal.returns-in_err-refuse_unselected-clause-faults
returns-in_err-refuse_unselected-clause-faults c =
    let p = err_from_is_err_and c.from_residual.result c.from_residual.ensures.1 in
    rw (p.1, p.2) (λ h q ns a. c.in_err-refuse_unselected.ensures.faults q h ns a.texts a.has a.are
    (subst (λ l. AllZip (AreNumbersOf a.texts) l ns) (sym c.deref.ensures.value) a.names)
    (subst (λ l. AllZip (IsNumberOf a.texts) l q.exceptions) (sym c.deref-2.ensures.value) a.exceptions))

pub returns-in_err-names-clause-faults : goal.returns-in_err-names-clause-faults
returns-in_err-names-clause-faults c = let p = err_from_is_err_and c.from_residual-in_err-names.result c.from_residual-in_err-names.ensures.1 in rw (p.1, p.2) (λ h q ns a. tt)

pub returns-in_err-lists-clause-faults : goal.returns-in_err-lists-clause-faults
returns-in_err-lists-clause-faults c = let p = err_from_is_err_and c.from_residual-in_err-lists.result c.from_residual-in_err-lists.ensures.1 in rw (p.1, p.2) (λ h q ns a. tt)

pub returns-in_err-pairs_between-clause-faults : goal.returns-in_err-pairs_between-clause-faults
returns-in_err-pairs_between-clause-faults c =
    let p = err_from_is_err_and c.from_residual-in_err-pairs_between.result c.from_residual-in_err-pairs_between.ensures.1 in
    rw (p.1, p.2) (λ h q ns a. tt)
