use Rattle.vcd_view.proofs.Cited.{◌≡◌, suc, ◌<◌, Some, None, slice_get, sym, ◌∙◌, rules, parts}
use Rattle.vcd_view.proofs.Facts.{there, says_none, says_some, parent_before}
use Rattle.vcd_view.proofs.view.HeadView.scope_of.Goals as goal

pub returns-in_err-row_at-clause-scope : goal.returns-in_err-row_at-clause-scope
returns-in_err-row_at-clause-scope c = λ h v l.
    let none : slice_get c.args.self.rows.now c.args.row ≡ None = search rules in
    let some = there (parts c.args.self) h c.args.row v l in
    cc

pub returns-in_err-scope-clause-scope : goal.returns-in_err-scope-clause-scope
returns-in_err-scope-clause-scope c = λ h v l.
    let r = c.in_ok-row_at.field-0 in
    let at : slice_get c.args.self.rows.now c.args.row ≡ Some r = search rules in
    let zero : r.parent ≡ 0 = search rules in
    let is : c.from_residual-in_err-scope.result ≡ None = search rules in
    is ∙ sym (says_none (parts c.args.self) h c.args.row r v at zero)

pub returns-clause-scope : goal.returns-clause-scope
returns-clause-scope c = λ h v l.
    let r = c.in_ok-row_at.field-0 in
    let p = c.in_ok-scope.scope in
    let at : slice_get c.args.self.rows.now c.args.row ≡ Some r = search rules in
    let one : r.parent ≡ suc p = search rules in
    let e = says_some (parts c.args.self) h c.args.row p r v at one in
    let before : p < c.args.row = parent_before h.declarations c.args.row p e in
    let is : c.then_some.result ≡ Some p = search rules in
    is ∙ sym e
