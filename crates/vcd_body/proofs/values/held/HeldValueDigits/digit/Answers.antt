use Rattle.vcd_body.proofs.Cited.{ℕ, Option, ap, ◌∙◌, unwrap_or, unwrap_or-slice_get, digits_of}
use Rattle.vcd_body.proofs.values.held.HeldValueDigits.digit.Goals as goal

pub returns : goal.returns
returns c = c.unwrap_or.ensures ∙ ap (λ (o : Option ℕ). unwrap_or o 0) c.digit_held.ensures ∙ unwrap_or-slice_get (digits_of c.args.self) c.args.index 0
