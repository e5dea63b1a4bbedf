use Rattle.vcd_compare.proofs.Cited.{◌≡◌, get_or, take, None, sym, subst, ap, ◌∙◌, add-one, arith, take_all, slice_get-get_or, IsNumberOf}
use Rattle.vcd_compare.proofs.Facts.{exception_held, exception_unheld, same_len, zip_from}
use Rattle.vcd_compare.proofs.unselected.refuse_exceptions.Goals as goal
use Rattle.vcd_compare.specs.Unselected.{first_unheld}

pub loop-index-preserved : goal.loop-index-preserved
loop-index-preserved c = λ h es texts held zip.
    let i = c.loop-index.index in
    let number = get_or c.args.exceptions.now i 0 in
    let e = zip_from (IsNumberOf texts) c.args.exceptions.now es i number zip (slice_get-get_or c.args.exceptions.now i 0 c.loop-index-test.true) in
    subst (λ j. first_unheld h (take j es) ≡ None) (sym (add-one i))
    (exception_held h es i e.0 e.1 (c.loop-index.invariant h es texts held zip) (sym (held number e.0 e.2) ∙ sym c.is_held.ensures
    ∙ c.if-not-is_held.false))

pub returns-then-not-is_held-clause-faults : goal.returns-then-not-is_held-clause-faults
returns-then-not-is_held-clause-faults c = λ q h ns texts held zip none.
    let i = c.loop-index.index in
    let number = get_or c.args.exceptions.now i 0 in
    let e = zip_from (IsNumberOf texts) c.args.exceptions.now q.exceptions i number zip (slice_get-get_or c.args.exceptions.now i 0 c.loop-index-test.true) in
    (e.0, e.1, exception_unheld h q.exceptions i e.0 e.1 (c.loop-index.invariant h q.exceptions texts held zip) ns none (sym (held number e.0 e.2) ∙ sym c.is_held.ensures ∙ c.if-not-is_held.true))

pub returns-clause-selected : goal.returns-clause-selected
returns-clause-selected c = λ h es texts held zip.
    let len = same_len (IsNumberOf texts) c.args.exceptions.now es zip in
    sym (ap (first_unheld h) (take_all c.loop-index.index es (omega (arith, len, c.loop-index-test.false)))) ∙ c.loop-index.invariant h es texts held zip
