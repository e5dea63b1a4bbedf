use Rattle.vcd_body.proofs.Cited.{Option, sym, ap, ◌∙◌, Value, Held, digit_in, value_at_size}
use Rattle.vcd_body.proofs.Facts.{value_there}
use Rattle.vcd_body.proofs.values.table.Table.digit.Goals as goal

pub returns-in_err-held : goal.returns-in_err-held
returns-in_err-held c = λ laid.
    let declared = c.in_ok-declared.declared in
    let value = value_there c.args.view c.args.self.now c.args.code declared (sym c.code_at.ensures ∙ c.in_ok-declared.was) in
    c.from_residual-in_err-held.ensures
    ∙ sym (ap (λ (o : Option Value). digit_in o c.args.index) (value ∙ ap (λ (h : Held). value_at_size declared.size h) (c.in_err-held.ensures laid)))

pub returns : goal.returns
returns c = λ laid.
    let declared = c.in_ok-declared.declared in
    let value = value_there c.args.view c.args.self.now c.args.code declared (sym c.code_at.ensures ∙ c.in_ok-declared.was) in
    c.digit_shown.ensures
    ∙ sym (ap (λ (o : Option Value). digit_in o c.args.index) (value ∙ ap (λ (h : Held). value_at_size declared.size h) (c.in_ok-held.ensures laid)))
