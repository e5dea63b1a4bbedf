use Rattle.vcd_merge.proofs.Cited.{◌≡◌, ◌^◌, ◌<◌, sym, ap, subst, ◌∙◌, rules, nat_abs, ◌-ℤ◌, exponent, parts, IsExponent, exponent_in_range}
use Rattle.vcd_merge.proofs.Facts.{power_fits, power_of}
use Rattle.vcd_model.specs.HeadText.{least_exponent as least_of}
use Rattle.vcd_model.specs.Merge.{factor}
use Rattle.vcd_merge.proofs.beginning.factor_of.Goals as goal

pub returns : goal.returns
unfolding factor
returns c = λ hs h v range least.
    let exponent_is = c.exponent.ensures h v in
    let gap : c.abs_diff-power.result ≡ nat_abs (c.exponent.result -ℤ c.args.least) = search rules in
    let power = c.from.ensures ∙ gap ∙ ap (λ x. nat_abs (x -ℤ c.args.least)) exponent_is ∙ ap (λ x. nat_abs (exponent h -ℤ x)) least in
    let fits = power_fits (exponent h) (least_of hs) (exponent_in_range (parts c.args.view) h v) (subst IsExponent least range) in
    c.unwrap_or.ensures ∙ power_of c.checked_pow.result (10 ^ c.from.result) 18446744073709551615 c.checked_pow.ensures (subst (λ n. 10 ^ n < 2 ^ 64) (sym power) fits) ∙ ap (λ n. 10 ^ n) power
