use Rattle.vcd_head.proofs.Cited.{◌≡◌, Some, None, map, take, slice_get, string_bytes, sym, ◌∙◌, arith, rules, slice_get_within, is_empty, parts}
use Rattle.vcd_head.proofs.Facts.{declares_none, declares_one, is_empty-map, none_selects, matched_row, no_match, or_false, or_true, selected_row}
use Rattle.vcd_head.proofs.InsideLemmas.{declared_there}
use Rattle.vcd_view.proofs.RowLemmas.{there}
use Rattle.vcd_head.proofs.inside.Open.take_row.Goals as goal

pub returns-in_default-clause-selected : goal.returns-in_default-clause-selected
returns-in_default-clause-selected c = λ h d v at are.
    let none : slice_get c.args.view.rows.now c.args.row ≡ None = search rules in
    let some = there (parts c.args.view) h c.args.row v (slice_get_within h.declarations c.args.row d at) in
    cc

pub returns-in_default-clause-matched : goal.returns-in_default-clause-matched
returns-in_default-clause-matched c = λ h d v at are i name n.
    let none : slice_get c.args.view.rows.now c.args.row ≡ None = search rules in
    let some = there (parts c.args.view) h c.args.row v (slice_get_within h.declarations c.args.row d at) in
    cc

pub returns-in-Scope-clause-selected : goal.returns-in-Scope-clause-selected
returns-in-Scope-clause-selected c = λ h d v at are.
    let row : slice_get c.args.view.rows.now c.args.row ≡ Some c.in-Some.declared = search rules in
    sym (none_selects (map string_bytes c.args.group.now.names.now) (take c.args.row h.declarations) d
    (declares_none (parts c.args.view) h c.args.row c.in-Some.declared d v row at (λ k. let other = c.in-Scope.is in cc)))

pub returns-in-Scope-clause-matched : goal.returns-in-Scope-clause-matched
returns-in-Scope-clause-matched c = λ h d v at are.
    let row : slice_get c.args.view.rows.now c.args.row ≡ Some c.in-Some.declared = search rules in
    no_match (map string_bytes c.args.group.now.names.now) (take c.args.row h.declarations) d c.args.matched.now
    (declares_none (parts c.args.view) h c.args.row c.in-Some.declared d v row at (λ k. let other = c.in-Scope.is in cc))

pub returns-in-Up-clause-selected : goal.returns-in-Up-clause-selected
returns-in-Up-clause-selected c = λ h d v at are.
    let row : slice_get c.args.view.rows.now c.args.row ≡ Some c.in-Some.declared = search rules in
    sym (none_selects (map string_bytes c.args.group.now.names.now) (take c.args.row h.declarations) d
    (declares_none (parts c.args.view) h c.args.row c.in-Some.declared d v row at (λ k. let other = c.in-Up.is in cc)))

pub returns-in-Up-clause-matched : goal.returns-in-Up-clause-matched
returns-in-Up-clause-matched c = λ h d v at are.
    let row : slice_get c.args.view.rows.now c.args.row ≡ Some c.in-Some.declared = search rules in
    no_match (map string_bytes c.args.group.now.names.now) (take c.args.row h.declarations) d c.args.matched.now
    (declares_none (parts c.args.view) h c.args.row c.in-Some.declared d v row at (λ k. let other = c.in-Up.is in cc))

pub returns-then-enter_and_compare-clause-open : goal.returns-then-enter_and_compare-clause-open
returns-then-enter_and_compare-clause-open c = λ h v are.
    let row : slice_get c.args.view.rows.now c.args.row ≡ Some c.in-Some.declared = search rules in
    let d = declared_there (parts c.args.view) h c.args.row c.in-Some.declared v row in
    (c.enter_and_compare.ensures h d.0 v d.1 (declares_one (parts c.args.view) h c.args.row c.in-Some.declared d.0 v row d.1 c.in-Var.is) are).open_scopes

pub returns-then-enter_and_compare-clause-matched : goal.returns-then-enter_and_compare-clause-matched
returns-then-enter_and_compare-clause-matched c = λ h d v at are.
    let row : slice_get c.args.view.rows.now c.args.row ≡ Some c.in-Some.declared = search rules in
    let var = declares_one (parts c.args.view) h c.args.row c.in-Some.declared d v row at c.in-Var.is in
    matched_row (map string_bytes c.args.group.now.names.now) (take c.args.row h.declarations)
    d c.args.matched.now c.enter_and_compare.new.matched c.enter_and_compare.result var (c.enter_and_compare.ensures h d v at var are).matches

pub returns-then-enter_and_compare-clause-selected : goal.returns-then-enter_and_compare-clause-selected
returns-then-enter_and_compare-clause-selected c = λ h d v at are.
    let names = map string_bytes c.args.group.now.names.now in
    let row : slice_get c.args.view.rows.now c.args.row ≡ Some c.in-Some.declared = search rules in
    let var = declares_one (parts c.args.view) h c.args.row c.in-Some.declared d v row at c.in-Var.is in
    c.if-enter_and_compare.true
    ∙ sym (selected_row names (take c.args.row h.declarations) d c.args.matched.now c.enter_and_compare.new.matched c.enter_and_compare.result var
    (c.enter_and_compare.ensures h d v at var are).matches ∙ or_true (is_empty names) c.enter_and_compare.result c.if-enter_and_compare.true)

pub returns-else-enter_and_compare-clause-open : goal.returns-else-enter_and_compare-clause-open
returns-else-enter_and_compare-clause-open c = λ h v are.
    let row : slice_get c.args.view.rows.now c.args.row ≡ Some c.in-Some.declared = search rules in
    let d = declared_there (parts c.args.view) h c.args.row c.in-Some.declared v row in
    (c.enter_and_compare.ensures h d.0 v d.1 (declares_one (parts c.args.view) h c.args.row c.in-Some.declared d.0 v row d.1 c.in-Var.is) are).open_scopes

pub returns-else-enter_and_compare-clause-matched : goal.returns-else-enter_and_compare-clause-matched
returns-else-enter_and_compare-clause-matched c = λ h d v at are.
    let row : slice_get c.args.view.rows.now c.args.row ≡ Some c.in-Some.declared = search rules in
    let var = declares_one (parts c.args.view) h c.args.row c.in-Some.declared d v row at c.in-Var.is in
    matched_row (map string_bytes c.args.group.now.names.now) (take c.args.row h.declarations)
    d c.args.matched.now c.enter_and_compare.new.matched c.enter_and_compare.result var (c.enter_and_compare.ensures h d v at var are).matches

pub returns-else-enter_and_compare-clause-selected : goal.returns-else-enter_and_compare-clause-selected
returns-else-enter_and_compare-clause-selected c = λ h d v at are.
    let names = map string_bytes c.args.group.now.names.now in
    let row : slice_get c.args.view.rows.now c.args.row ≡ Some c.in-Some.declared = search rules in
    let var = declares_one (parts c.args.view) h c.args.row c.in-Some.declared d v row at c.in-Var.is in
    c.is_empty.ensures ∙ sym (is_empty-map string_bytes c.args.group.now.names.now)
    ∙ sym (selected_row names (take c.args.row h.declarations) d c.args.matched.now c.enter_and_compare.new.matched c.enter_and_compare.result var
    (c.enter_and_compare.ensures h d v at var are).matches ∙ or_false (is_empty names) c.enter_and_compare.result c.if-enter_and_compare.false)

pub returns-in-Up-clause-open : goal.returns-in-Up-clause-open
returns-in-Up-clause-open c = λ h v are. record { held = λ k s l at. are.held k s (omega (arith, l, c.min-self.ensures)) at; same = are.same }
