use Rattle.vcd_body.proofs.Cited.{◌==◌, length, drop, sym, ap, ◌∙◌, arith}
use Rattle.vcd_body.proofs.Facts.{filled, empty, some_bytes, no_number, number_too_long, number_begins}
use Rattle.vcd_body.proofs.phrases.real_text.Goals as goal

pub returns-then-is_empty-clause-opens : goal.returns-then-is_empty-clause-opens
returns-then-is_empty-clause-opens c = λ codes earlier. (
  λ x. cc,
  no_number codes earlier c.args.token.now c.requires.begins
      (empty (drop 1 c.args.token.now) (ap (λ l. length l == 0) (sym c.rest_of-text.ensures) ∙ sym c.is_empty.ensures ∙ c.if-is_empty.true)),
)

pub returns-then-text-gt64-clause-opens : goal.returns-then-text-gt64-clause-opens
returns-then-text-gt64-clause-opens c = λ codes earlier.
    let n = ap length c.rest_of-text.ensures in (
      λ x. cc,
      number_too_long codes earlier c.args.token.now c.requires.begins
          (filled (drop 1 c.args.token.now) (ap (λ l. length l == 0) (sym c.rest_of-text.ensures) ∙ sym c.is_empty.ensures ∙ c.if-is_empty.false))
          (omega arith),
    )

pub returns-clause-opens : goal.returns-clause-opens
returns-clause-opens c = λ codes earlier.
    let n = ap length c.rest_of-text.ensures in
    number_begins codes earlier c.args.token.now c.requires.begins
    (filled (drop 1 c.args.token.now) (ap (λ l. length l == 0) (sym c.rest_of-text.ensures) ∙ sym c.is_empty.ensures ∙ c.if-is_empty.false))
    (omega arith)

pub returns-clause-few : goal.returns-clause-few
returns-clause-few c =
    let some = some_bytes c.rest_of-text.result.now (sym c.is_empty.ensures ∙ c.if-is_empty.false) in
    (omega arith, omega arith)
