use Rattle.vcd_body.proofs.Cited.{◌≡◌, ◌≤◌, true, Some, ℕ, length, Option, refl, sym, ap, subst, ◌∙◌, arith, str_to_ascii_lowercase, value_with, model_form, Held, differs, goes_from, last_digit_in, value_at_size, digits_in, held_by, len_of, some_by, used_by, State}
use Rattle.vcd_body.proofs.Facts.{differ_for, differ_where_as_many}
use Rattle.vcd_body.specs.declared.item.Form.TheVariants as form
use Rattle.vcd_body.proofs.values.table.Table.step_by_ends.Goals as goal

pub returns-in-Packed-clause-step : goal.returns-in-Packed-clause-step
returns-in-Packed-clause-step c = λ laid size.
    let bytes = c.in_ok-held.held.bytes.now in
    let n = len_of c.in_ok-held.held.holding in
    let v = value_with size (model_form form.Vector) c.args.text.now in
    let held = sym (c.in_ok-held.ensures laid) in
    let packed = sym (ap (λ (s : State). held_by s n bytes) c.in-Packed.is) ∙ held in
    let fits = subst (λ (s : State). used_by s n ≡ length bytes) c.in-Packed.is c.in_ok-held.held.fits in
    let some = c.ends_differ.ensures.some c.if-ends_differ.true in
    let last = c.last_held.ensures size ∙ ap (λ (h : Held). last_digit_in (value_at_size size h)) held in
    let is = c.step_to_text.ensures in (
      is.differs ∙ differ_for (digits_in n bytes) (str_to_ascii_lowercase c.args.text.now) size
          (c.ends_differ.ensures.differ c.if-ends_differ.true n fits size) ∙ ap (λ (h : Held). differs (value_at_size size h) v) packed,
      is.rises some size ∙ ap (λ (o : Option ℕ). goes_from 48 49 o (last_digit_in (Some v))) last,
      is.falls some size ∙ ap (λ (o : Option ℕ). goes_from 49 48 o (last_digit_in (Some v))) last,
    )

-- the same digits
pub returns-in-Packed-2-clause-step : goal.returns-in-Packed-2-clause-step
returns-in-Packed-2-clause-step c = λ laid size.
    let bytes = c.in_ok-held.held.bytes.now in
    let n = len_of c.in_ok-held.held.holding in
    let v = value_with size (model_form form.Vector) c.args.text.now in
    let held = sym (c.in_ok-held.ensures laid) in
    let packed = sym (ap (λ (s : State). held_by s n bytes) c.in-Packed-2.is) ∙ held in
    let some : 1 ≤ n = subst (λ (s : State). 1 ≤ some_by s n) c.in-Packed-2.is c.in_ok-held.held.some in
    let many : n ≡ length c.args.text.now = omega (arith, c.len.ensures, c.if-len-text.true) in
    let same = ap (λ m. digits_in m bytes) many ∙ c.holds_packed.ensures.same c.if-holds_packed.true in
    let last = c.last_held-in-Packed-2.ensures size ∙ ap (λ (h : Held). last_digit_in (value_at_size size h)) held in
    let is = c.step_to_text-in-Packed-2.ensures in (
      is.differs ∙ differ_where_as_many (digits_in n bytes) (str_to_ascii_lowercase c.args.text.now) size (ap length same) true
          ((λ yes. same), λ e. refl) ∙ ap (λ (h : Held). differs (value_at_size size h) v) packed,
      is.rises (omega (arith, some, many)) size ∙ ap (λ (o : Option ℕ). goes_from 48 49 o (last_digit_in (Some v))) last,
      is.falls (omega (arith, some, many)) size ∙ ap (λ (o : Option ℕ). goes_from 49 48 o (last_digit_in (Some v))) last,
    )

pub returns-in-Packed-2-clause-same : goal.returns-in-Packed-2-clause-same
returns-in-Packed-2-clause-same c = λ no laid.
    let bytes = c.in_ok-held.held.bytes.now in
    let n = len_of c.in_ok-held.held.holding in
    let many : n ≡ length c.args.text.now = omega (arith, c.len.ensures, c.if-len-text.true) in
    c.in_ok-held.ensures laid ∙ ap (λ (s : State). held_by s n bytes) c.in-Packed-2.is
    ∙ ap Held.Digits (ap (λ m. digits_in m bytes) many ∙ c.holds_packed.ensures.held c.if-holds_packed.true)
