use Rattle.vcd_text.proofs.Cited.{◌≡◌, ◌+◌, ◌*◌, ◌-◌, get_or, refl, sym, ◌∙◌, subst, arith}
use Rattle.vcd_text.proofs.Facts.{HasRead, product_too_large, read_all, read_more, sum_too_large}
use Rattle.vcd_text.proofs.number.decimal_of.Goals as goal

pub loop-digit-init : goal.loop-digit-init
loop-digit-init c = record { digits = refl; value = refl; small = omega arith }

pub returns-in_err-checked_mul : goal.returns-in_err-checked_mul
returns-in_err-checked_mul c =
    c.from_residual.ensures
    ∙ sym (product_too_large c.args.digits.now c.loop-digit.digit-index c.loop-digit.number (omega arith) c.loop-digit.invariant c.in_err-checked_mul.ensures)

pub returns-in_err-number : goal.returns-in_err-number
returns-in_err-number c =
    let ds = c.args.digits.now in
    let place = c.loop-digit.digit-index in
    let product : c.in_ok-checked_mul.field-0 ≡ c.loop-digit.number * 10 = omega (arith, c.in_ok-checked_mul.ensures) in
    c.from_residual-in_err-number.ensures
    ∙ sym (sum_too_large ds place c.loop-digit.number c.from.result (omega arith) c.loop-digit.invariant c.from.ensures (λ h. c.in_err-number.ensures (omega arith)))

pub loop-digit-preserved : goal.loop-digit-preserved
loop-digit-preserved c =
    let ds = c.args.digits.now in
    let place = c.loop-digit.digit-index in
    let product : c.in_ok-checked_mul.field-0 ≡ c.loop-digit.number * 10 = omega (arith, c.in_ok-checked_mul.ensures) in
    let value : c.loop-digit.number * 10 + (get_or ds place 0 - 48) ≡ c.in_ok-number.number = omega (arith, c.in_ok-number.ensures, c.from.ensures) in
    subst (HasRead ds (place + 1)) value (read_more ds place c.loop-digit.number (omega arith) (sym c.is_ascii_digit.ensures.value
    ∙ c.if-not-is_ascii_digit.false) (omega (arith, c.in_ok-number.ensures, c.from.ensures)) c.loop-digit.invariant)

pub returns : goal.returns
returns c = read_all c.args.digits.now c.loop-digit.digit-index c.loop-digit.number (sym c.is_empty.ensures ∙ c.if-is_empty.false) (omega arith) c.loop-digit.invariant
