use Rattle.vcd_compare.proofs.Cited.{◌≡◌, suc, ◌++◌, [], length, sym, subst, add-one, arith, there, rows_len, AreNumbered}
use Rattle.vcd_compare.proofs.Facts.{NumbersSome, some_row}
use Rattle.vcd_compare.proofs.variables.number_rows.Goals as goal

pub loop-row-preserved : goal.loop-row-preserved
loop-row-preserved c = λ h texts view has.
    let row = c.loop-row.row in
    let s = c.loop-row.invariant h texts view has in
    let len = rows_len c.args.view.text.now h.codes [] c.args.view.rows.now h.declarations view.rows in
    let d = there h.declarations row (omega (arith, len)) in
    let are = subst (λ ns. AreNumbered h (texts ++ s.0) ns row) (sym c.deref.ensures.value) s.2 in
    let entered = c.in_ok-number.ensures h d.0 (texts ++ s.0) view d.1 s.1 are in
    subst (NumbersSome h texts c.enter_row.new.paths c.push.new.self.items) (sym (add-one row))
    (subst (λ ns. NumbersSome h texts c.enter_row.new.paths ns (suc row)) (sym c.in_ok-push.ensures.items)
    (some_row h texts c.loop-row.paths c.enter_row.new.paths c.loop-row.numbers.items row c.in_ok-number.number d.0 d.1 s entered))

pub returns : goal.returns
returns c = λ h texts view has.
    let s = c.loop-row.invariant h texts view has in
    let len = rows_len c.args.view.text.now h.codes [] c.args.view.rows.now h.declarations view.rows in
    let all : c.loop-row.row ≡ length h.declarations = omega (arith, len) in
    (s.0, s.1, subst (AreNumbered h (texts ++ s.0) c.loop-row.numbers.items) all s.2)
