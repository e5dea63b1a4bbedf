use Rattle.vcd_head.proofs.Cited.{◌≡◌, suc, length, Some, None, sym, ◌∙◌, arith, rules, parts, parent_before, read_row}
use Rattle.vcd_head.proofs.Facts.{last_row, open_after_scope, open_after_var, open_after_up, open_after_last_up, none_open}
use Rattle.vcd_head.proofs.write.innermost_open_scope.Goals as goal

pub returns-in_err-last : goal.returns-in_err-last
returns-in_err-last c = λ h v.
    let none : length c.args.view.rows.now ≡ 0 = search rules in
    let is : c.from_residual.result ≡ None = search rules in
    is ∙ none_open (parts c.args.view) h v none

pub returns-in-Scope : goal.returns-in-Scope
returns-in-Scope c = λ h v.
    let s = parts c.args.view in
    let one : length c.args.view.rows.now ≡ suc c.in_ok-last.last = search rules in
    open_after_scope s h c.in_ok-last.last _ (last_row s h c.in_ok-last.last _ v one (read_row s c.in_ok-last.last _ (omega arith))) c.in-Scope.is

pub returns-in-Var : goal.returns-in-Var
returns-in-Var c = λ h v.
    let s = parts c.args.view in
    let one : length c.args.view.rows.now ≡ suc c.in_ok-last.last = search rules in
    let last = last_row s h c.in_ok-last.last _ v one (read_row s c.in_ok-last.last _ (omega arith)) in
    c.scope_of-in-Var.ensures.scope h v last.within ∙ open_after_var s h c.in_ok-last.last _ last c.in-Var.is

pub returns-in_err-scope_of-in-Up : goal.returns-in_err-scope_of-in-Up
returns-in_err-scope_of-in-Up c = λ h v.
    let s = parts c.args.view in
    let one : length c.args.view.rows.now ≡ suc c.in_ok-last.last = search rules in
    let last = last_row s h c.in_ok-last.last _ v one (read_row s c.in_ok-last.last _ (omega arith)) in
    let none : c.scope_of.result ≡ None = search rules in
    let is : c.from_residual-in_err-scope_of-in-Up.result ≡ None = search rules in
    is ∙ open_after_last_up s h c.in_ok-last.last _ last c.in-Up.is (sym (c.scope_of.ensures.scope h v last.within) ∙ none)

pub returns-in_ok-scope_of-in-Up : goal.returns-in_ok-scope_of-in-Up
returns-in_ok-scope_of-in-Up c = λ h v.
    let s = parts c.args.view in
    let p = c.in_ok-scope_of-in-Up.field-0 in
    let one : length c.args.view.rows.now ≡ suc c.in_ok-last.last = search rules in
    let last = last_row s h c.in_ok-last.last _ v one (read_row s c.in_ok-last.last _ (omega arith)) in
    let some : c.scope_of.result ≡ Some p = search rules in
    let closed = sym (c.scope_of.ensures.scope h v last.within) ∙ some in
    let before = parent_before h.declarations c.in_ok-last.last p closed in
    c.scope_of-in-Up.ensures.scope h v (omega (arith, last.within)) ∙ open_after_up s h c.in_ok-last.last p _ last c.in-Up.is closed
