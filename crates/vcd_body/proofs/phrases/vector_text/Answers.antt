use Rattle.vcd_body.proofs.Cited.{◌&&◌, not, sym, ap, ◌∙◌, list_all, and_parts, is_empty, is_value_digit}
use Rattle.vcd_body.proofs.Facts.{bad_digits, digits_begin, filled_some, some_of}
use Rattle.vcd_body.proofs.phrases.vector_text.Goals as goal

pub after_first-text-requires : goal.after_first-text-requires
after_first-text-requires c = let b = c.requires.begins in some_of _ _ _ b.3

pub returns-then-not-are_digits_or_binary-clause-opens : goal.returns-then-not-are_digits_or_binary-clause-opens
returns-then-not-are_digits_or_binary-clause-opens c = λ codes earlier. (
  λ x. cc,
  bad_digits codes earlier c.args.token.now c.requires.begins
      (ap (λ x. not (is_empty x) && list_all is_value_digit x) (sym c.after_first-text.ensures) ∙ sym c.are_digits_or_binary.ensures
      ∙ c.if-not-are_digits_or_binary.true),
)

pub returns-clause-opens : goal.returns-clause-opens
returns-clause-opens c = λ codes earlier.
    digits_begin codes earlier c.args.token.now c.requires.begins
    (ap (λ x. not (is_empty x) && list_all is_value_digit x) (sym c.after_first-text.ensures) ∙ sym c.are_digits_or_binary.ensures
    ∙ c.if-not-are_digits_or_binary.false)

pub returns-clause-digits : goal.returns-clause-digits
returns-clause-digits c =
    let text = c.after_first-text.result.now in
    let d = and_parts (not (is_empty text)) (list_all is_value_digit text) (sym c.are_digits_or_binary.ensures ∙ c.if-not-are_digits_or_binary.false) in
    (filled_some text d.0, d.1)
