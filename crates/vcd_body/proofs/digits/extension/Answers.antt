use Rattle.vcd_body.proofs.Cited.{◌∷◌, [], sym, ap, ◌∙◌, arith, extension}
use Rattle.vcd_body.proofs.Facts.{extension_at, none_extended}
use Rattle.vcd_body.proofs.digits.extension.Goals as goal

pub returns-then-count-eq0 : goal.returns-then-count-eq0
returns-then-count-eq0 g c = none_extended (g.D.Digits.digits c.args.digits) (omega (arith, c.count.ensures, c.if-count-eq0.true))

pub returns : goal.returns
returns g c = c.extension_of.ensures ∙ ap (λ d. extension (d ∷ [])) c.digit.ensures
    ∙ sym (extension_at (g.D.Digits.digits c.args.digits) 0 (omega (arith, c.count.ensures, c.if-count-eq0.false)))
