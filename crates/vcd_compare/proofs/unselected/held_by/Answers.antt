use Rattle.vcd_compare.proofs.Cited.{◌≡◌, ◌+◌, ◌++◌, ◌∷◌, [], ◌≤◌, ℕ, List, length, get_or, take, replicate, false, sym, ap, subst, ◌∙◌, add-one, arith, take_all, slice_get-get_or}
use Rattle.vcd_compare.proofs.Facts.{held_by_all, marked_none, paths_within}
use Rattle.vcd_compare.proofs.VariableLemmas.{take_next}
use Rattle.vcd_compare.proofs.unselected.held_by.Goals as goal
use Rattle.vcd_compare.specs.Unselected.{AreMarkedUp}

pub loop-path-init : goal.loop-path-init
loop-path-init c = λ texts has within.
    let count = c.len.result in
    subst (AreMarkedUp texts []) (sym (c.in_ok-held.ensures.items_if_clones_equal (λ y e. e) ∙ ap (λ n. replicate n false) (add-one count)))
    (marked_none texts count (has.len ∙ sym c.len.ensures.len))

pub loop-path-preserved : goal.loop-path-preserved
loop-path-preserved c = λ texts has within.
    let i = c.loop-path.path-index in
    let paths = c.args.variables.now.paths.items in
    let value = c.deref-path-items.ensures.value in
    let path = get_or paths i 0 in
    let same = ap (λ (l : List ℕ). get_or l i 0) value in
    let at = slice_get-get_or paths i 0 (let l = ap length value in omega (arith, l, c.loop-path-test.true)) in
    let next : take (i + 1) paths ≡ take i paths ++ path ∷ [] = ap (λ j. take j paths) (add-one i) ∙ take_next paths i path at in
    subst (λ l. AreMarkedUp texts l c.mark_around.new.held.items) (ap (λ x. take i paths ++ x ∷ []) same ∙ sym next)
    (c.mark_around.ensures texts (take i paths) has (subst (λ x. x ≤ length texts) (sym same) (within i path at)) (c.loop-path.invariant texts has within))

pub returns : goal.returns
returns c = λ h texts has are.
    let paths = c.args.variables.now.paths.items in
    let marked = c.loop-path.invariant texts has (paths_within h texts c.args.variables.now are) in
    let len = ap length c.deref-path-items.ensures.value in
    held_by_all h texts paths c.loop-path.held.items are.paths (subst (λ l. AreMarkedUp texts l c.loop-path.held.items)
    (take_all c.loop-path.path-index paths (omega (arith, len, c.loop-path-test.false))) marked)
