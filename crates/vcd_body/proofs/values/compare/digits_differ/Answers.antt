use Rattle.vcd_body.proofs.Cited.{◌-◌, length, sym, ap, ◌∙◌, arith, slice_get_within, digits_of, Held, last_digit_in, value_at_size}
use Rattle.vcd_body.proofs.Facts.{ends_two}
use Rattle.vcd_body.proofs.values.compare.digits_differ.Goals as goal

pub returns-in-Some-Some : goal.returns-in-Some-Some
returns-in-Some-Some c =
    let size = c.args.size in
    let own = c.in-Some-Some.own in
    let there = c.in-Some-Some.ensures'.value in
    let within = slice_get_within c.args.text.now (length c.args.text.now - 1) c.in-Some-Some.digit.now (sym there) in
    ends_two (digits_of c.args.held) c.args.text.now own c.in-Some-Some.digit.now size
    (sym c.in-Some-Some.is-0 ∙ c.last_held.ensures size ∙ ap (λ (h : Held). last_digit_in (value_at_size size h)) c.requires.digits)
    (omega (arith, within)) there (λ e. c.if-own-to_ascii_lowercase.true (e ∙ sym c.to_ascii_lowercase.ensures.value))
