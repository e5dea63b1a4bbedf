use Rattle.vcd_body.proofs.Cited.{◌&&◌, not, sym, ap, ◌∙◌, list_all, is_value_digit}
use Rattle.vcd_body.proofs.Facts.{all_binary, filled}
use Rattle.vcd_body.proofs.words.are_digits_or_binary.Goals as goal

pub returns-then-binary : goal.returns-then-binary
returns-then-binary c =
    c.if-binary.true
    ∙ sym (ap (λ b. not b && list_all is_value_digit c.args.digits.now) (filled c.args.digits.now (sym c.is_empty.ensures ∙ c.if-is_empty.false))
    ∙ all_binary c.args.digits.now (c.requires c.if-binary.true))
