use Rattle.vcd_body.proofs.Cited.{Some, ap, ◌∙◌}
use Rattle.vcd_body.proofs.Facts.{last_is}
use Rattle.vcd_body.proofs.values.step.last_digit_of.Goals as goal

pub returns-in_ok-last-in-Scalar : goal.returns-in_ok-last-in-Scalar
returns-in_ok-last-in-Scalar c = λ some size. ap (λ d. Some d) c.to_ascii_lowercase.ensures.value
    ∙ last_is c.args.form c.args.text.now c.in_ok-last-in-Scalar.field-0.now size c.in-Scalar.is some c.in_ok-last-in-Scalar.ensures.value
