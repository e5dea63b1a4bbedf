use Rattle.vcd_body.proofs.Cited.{◌∷◌, [], sym, ap, ◌∙◌, arith, extension}
use Rattle.vcd_body.proofs.Facts.{one_less, short_here, short_last}
use Rattle.vcd_body.proofs.digits.first_needed.Goals as goal

pub returns-then-digit-extension_of : goal.returns-then-digit-extension_of
returns-then-digit-extension_of g c =
    let ds = g.D.Digits.digits c.args.digits in
    let next = c.extension_of.ensures ∙ ap (λ d. extension (d ∷ [])) c.digit-in-digits.ensures in
    record {
      within = c.digits.invariant.0;
      value = short_here ds c.digits.from (omega (arith, c.digits-test.true, c.count-count.ensures))
          (λ e. c.if-digit-extension_of.true (c.digit.ensures ∙ e ∙ sym next)) c.digits.invariant;
    }

pub digits-preserved : goal.digits-preserved
digits-preserved g c =
    let next = c.extension_of.ensures ∙ ap (λ d. extension (d ∷ [])) c.digit-in-digits.ensures in
    one_less (g.D.Digits.digits c.args.digits) c.digits.from (omega (arith, c.digits-test.true, c.count-count.ensures)) (sym c.digit.ensures
    ∙ c.if-digit-extension_of.false ∙ next) c.digits.invariant

pub returns : goal.returns
returns g c = record {
  within = c.digits.invariant.0;
  value = short_last (g.D.Digits.digits c.args.digits) c.digits.from
      (omega (arith, c.digits-test.false, c.count-count.ensures)) c.digits.invariant;
}
