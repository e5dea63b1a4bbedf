use Rattle.vcd_compare.proofs.Cited.{◌≡◌, get_or, take, None, sym, subst, ap, ◌∙◌, add-one, arith, take_all, slice_get-get_or, AreNumbersOf, both_names}
use Rattle.vcd_compare.proofs.Facts.{both_held, one_unheld, other_unheld, same_len, zip_from}
use Rattle.vcd_compare.proofs.unselected.refuse_names.Goals as goal
use Rattle.vcd_compare.specs.Unselected.{first_unheld}

pub loop-index-preserved : goal.loop-index-preserved
loop-index-preserved c = λ h ns texts held zip.
    let i = c.loop-index.index in
    let pair = get_or c.args.names.now i (0, 0) in
    let n = zip_from (AreNumbersOf texts) c.args.names.now ns i pair zip (slice_get-get_or c.args.names.now i (0, 0) c.loop-index-test.true) in
    subst (λ j. first_unheld h (both_names (take j ns)) ≡ None) (sym (add-one i))
    (both_held h ns i n.0 n.1 (c.loop-index.invariant h ns texts held zip) (sym (held pair.0 n.0.0 n.2.0) ∙ sym c.is_held.ensures
    ∙ c.if-not-is_held.false) (sym (held pair.1 n.0.1 n.2.1) ∙ sym c.is_held-in-loop-index.ensures ∙ c.if-not-is_held-2.false))

pub returns-then-not-is_held-clause-faults : goal.returns-then-not-is_held-clause-faults
returns-then-not-is_held-clause-faults c = λ q h ns texts held zip.
    let i = c.loop-index.index in
    let pair = get_or c.args.names.now i (0, 0) in
    let n = zip_from (AreNumbersOf texts) c.args.names.now ns i pair zip (slice_get-get_or c.args.names.now i (0, 0) c.loop-index-test.true) in
    one_unheld h ns i n.0 n.1 (c.loop-index.invariant h ns texts held zip) q (sym (held pair.0 n.0.0 n.2.0) ∙ sym c.is_held.ensures ∙ c.if-not-is_held.true)

pub returns-then-not-is_held-2-clause-faults : goal.returns-then-not-is_held-2-clause-faults
returns-then-not-is_held-2-clause-faults c = λ q h ns texts held zip.
    let i = c.loop-index.index in
    let pair = get_or c.args.names.now i (0, 0) in
    let n = zip_from (AreNumbersOf texts) c.args.names.now ns i pair zip (slice_get-get_or c.args.names.now i (0, 0) c.loop-index-test.true) in
    other_unheld h ns i n.0 n.1 (c.loop-index.invariant h ns texts held zip) q (sym (held pair.0 n.0.0 n.2.0) ∙ sym c.is_held.ensures
    ∙ c.if-not-is_held.false) (sym (held pair.1 n.0.1 n.2.1) ∙ sym c.is_held-in-loop-index.ensures ∙ c.if-not-is_held-2.true)

pub returns-clause-selected : goal.returns-clause-selected
returns-clause-selected c = λ h ns texts held zip.
    let len = same_len (AreNumbersOf texts) c.args.names.now ns zip in
    sym (ap (λ l. first_unheld h (both_names l)) (take_all c.loop-index.index ns (omega (arith, len, c.loop-index-test.false)))) ∙ c.loop-index.invariant h ns texts held zip
