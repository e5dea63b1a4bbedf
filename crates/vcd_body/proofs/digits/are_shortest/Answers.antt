use Rattle.vcd_body.proofs.Cited.{◌≡◌, ◌==◌, ◌∷◌, [], true, false, not, refl, sym, ap, ◌∙◌, arith, eq-eqb, extension}
use Rattle.vcd_body.proofs.Facts.{short_here}
use Rattle.vcd_body.proofs.digits.are_shortest.Goals as goal

pub returns : goal.returns
returns g c = λ other size.
    let ds = g.D.Digits.digits c.args.digits in
    let next = c.extension_of.ensures ∙ ap (λ d. extension (d ∷ [])) c.digit-2.ensures in
    short_here ds 0 (omega (arith, c.count.ensures, c.if-count-lt2.false))
    (λ e. absurd (let f : false ≡ true = sym (ap not (eq-eqb c.digit.result c.extension_of.result (c.digit.ensures ∙ e ∙ sym next))) ∙ other in cc))
    (omega (arith, c.count.ensures, c.if-count-lt2.false), λ n fits. refl) size
