use Rattle.vcd_body.proofs.Cited.{◌≡◌, sym, subst, ◌∙◌, str_to_ascii_lowercase}
use Rattle.vcd_body.proofs.Facts.{end_is}
use Rattle.vcd_body.proofs.lines.needless_before_lower.Goals as goal

pub returns : goal.returns
returns c = (
  c.needless-k.ensures.few,
  λ size. sym (subst (λ r. str_to_ascii_lowercase r ≡ r) (end_is c.args.digits.now c.needless-k.result) (c.are_lower.ensures c.if-not-are_lower.false)) ∙ c.needless-k.ensures.rest size,
)
