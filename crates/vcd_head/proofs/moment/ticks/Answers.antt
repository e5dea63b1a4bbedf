use Rattle.vcd_head.proofs.Cited.{◌<◌, ◌^◌, refl, ap, ap₂, ◌∙◌, subst, rules, SomeIff, to_z-of_z, w8, SFits, ticks, asked}
use Rattle.vcd_head.proofs.Facts.{in_range_told}
use Rattle.vcd_model.specs.Ticks.{moment_ticks}
use Rattle.vcd_head.proofs.moment.ticks.Goals as goal

pub returns-in_default-clause-ticks : goal.returns-in_default-clause-ticks
unfolding moment_ticks
returns-in_default-clause-ticks c = rw c.in_default.is refl

pub returns-in_default-clause-header : goal.returns-in_default-clause-header
returns-in_default-clause-header c = λ h v. returns-in_default-clause-ticks c ∙ ap (λ scale. moment_ticks scale (asked c.args.moment) c.args.up) v.scale

pub returns-in_default-scale-clause-ticks : goal.returns-in_default-scale-clause-ticks
unfolding moment_ticks
returns-in_default-scale-clause-ticks c = rw (c.in-Some.is, c.in_default-scale.is) refl

pub returns-in_default-scale-clause-header : goal.returns-in_default-scale-clause-header
returns-in_default-scale-clause-header c = λ h v. returns-in_default-scale-clause-ticks c ∙ ap (λ scale. moment_ticks scale (asked c.args.moment) c.args.up) v.scale

pub returns-clause-ticks : goal.returns-clause-ticks
unfolding moment_ticks
returns-clause-ticks c =
    let unit : SFits w8 c.in-Some.unit = search rules in
    let tick : SFits w8 c.in-Some-scale.scale.exponent = search rules in
    let same = ap₂ (λ u t. ticks c.args.moment.number u t c.args.up) (to_z-of_z w8 c.in-Some.unit unit) (to_z-of_z w8 c.in-Some-scale.scale.exponent tick) in
    let found = subst (λ k. SomeIff c.unit_ticks.result (k < 2 ^ 64) k) same c.unit_ticks.ensures in
    rw (c.in-Some.is, c.in-Some-scale.is) (in_range_told c.unit_ticks.result c.ok_or.result
    (ticks c.args.moment.number c.in-Some.unit c.in-Some-scale.scale.exponent c.args.up) found c.ok_or.ensures.value)

pub returns-clause-header : goal.returns-clause-header
returns-clause-header c = λ h v. returns-clause-ticks c ∙ ap (λ scale. moment_ticks scale (asked c.args.moment) c.args.up) v.scale
