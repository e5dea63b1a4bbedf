use Rattle.vcd_body.proofs.Cited.{Some, ℕ, Option, sym, ap, ◌∙◌, value_with, model_form, Held, differs, goes_from, last_digit_in, value_at_size}
use Rattle.vcd_body.proofs.values.table.Table.step_to.Goals as goal

pub returns-in_default : goal.returns-in_default
returns-in_default c = λ laid some.
    let size = c.args.size in
    let v = value_with size (model_form c.args.form) c.args.text.now in
    let none = sym (c.in_default.ensures laid) in
    let is = c.step_to_text.ensures in (
      is.differs ∙ ap (λ (h : Held). differs (value_at_size size h) v) none,
      is.rises some size ∙ ap (λ (h : Held). goes_from 48 49 (last_digit_in (value_at_size size h)) (last_digit_in (Some v))) none,
      is.falls some size ∙ ap (λ (h : Held). goes_from 49 48 (last_digit_in (value_at_size size h)) (last_digit_in (Some v))) none,
    )

pub returns : goal.returns
returns c = λ laid some.
    let size = c.args.size in
    let v = value_with size (model_form c.args.form) c.args.text.now in
    let held = sym (c.in-Some.ensures laid) in
    let is = c.step_to_text-2.ensures in
    let last = c.last_held.ensures size ∙ ap (λ (h : Held). last_digit_in (value_at_size size h)) held in (
      is.differs ∙ c.value_differs.ensures ∙ ap (λ (h : Held). differs (value_at_size size h) v) held,
      is.rises some size ∙ ap (λ (o : Option ℕ). goes_from 48 49 o (last_digit_in (Some v))) last,
      is.falls some size ∙ ap (λ (o : Option ℕ). goes_from 49 48 o (last_digit_in (Some v))) last,
    )
