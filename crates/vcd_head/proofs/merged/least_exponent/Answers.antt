use Rattle.vcd_head.proofs.Cited.{◌≡◌, ◌+◌, pos, Some, map, take, sym, ap, subst, ◌∙◌, arith, rules, unwrap_or, int_min, reduce, w8, exponent, smaller, Views}
use Rattle.vcd_head.proofs.Facts.{HeaderAt, all_passed, header_at, least_more, with_one}
use Rattle.std.proofs.Common.{to_z, of_z}
use Rattle.vcd_model.specs.HeadText.{least_exponent as least_of}
use Rattle.vcd_head.proofs.merged.least_exponent.Goals.{in-Some, in-None}
use Rattle.vcd_head.proofs.merged.least_exponent.Goals as goal

pub loop-head-preserved : goal.loop-head-preserved
loop-head-preserved c = λ hs s.
    let i = c.loop-head.head-index in
    let at = subst (HeaderAt hs i) (sym c.head-item.is) (header_at c.args.heads.now hs i c.head-item.result s (omega arith)) in
    let e = c.exponent-exponent.ensures at.header (subst (λ x. Views x at.header) (sym c.view.ensures) at.views) in
    let so_far = c.loop-head.invariant hs s in
    let more : Some (with_one c.loop-head.least c.exponent-exponent.result) ≡ reduce smaller (map exponent (take (i + 1) hs)) =
    ap Some (ap (λ o. with_one o c.exponent-exponent.result) so_far ∙ ap (with_one (reduce smaller (map exponent (take i hs)))) e) ∙ sym (least_more hs i at.header at.at) in
    elim c.match-least.branch [
      | in-Some w ↦ let lesser : w.min.result ≡ int_min w.in-Some.other c.exponent-exponent.result = search rules in
          let fits : to_z w8 (of_z w8 w.min.result) ≡ w.min.result = search rules in
          w.least-is ∙ ap Some (fits ∙ lesser ∙ ap (λ o. with_one o c.exponent-exponent.result) (sym w.in-Some.is)) ∙ more
      | in-None w ↦ let fits : to_z w8 (of_z w8 c.exponent-exponent.result) ≡ c.exponent-exponent.result = search rules in
          w.least-is ∙ ap Some (fits ∙ ap (λ o. with_one o c.exponent-exponent.result) (sym w.in-None.is)) ∙ more
    ]

pub returns : goal.returns
unfolding least_of
returns c = λ hs s.
    let fits : to_z w8 (of_z w8 c.unwrap_or.result) ≡ c.unwrap_or.result = search rules in
    fits ∙ c.unwrap_or.ensures ∙ ap (λ o. unwrap_or o (pos 0)) (c.loop-head.invariant hs s
    ∙ ap (λ l. reduce smaller (map exponent l)) (all_passed c.args.heads.now hs c.loop-head.head-index s (omega arith)))
