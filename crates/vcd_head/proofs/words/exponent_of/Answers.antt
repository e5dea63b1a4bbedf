use Rattle.vcd_head.proofs.Cited.{◌++◌, codes, sym, ap, ◌∙◌, strip_prefix_is, Decides-eqb}
use Rattle.vcd_head.proofs.Facts.{front_100, front_10, front_1, front_other, stripped, not_stripped}
use Rattle.vcd_model.specs.Scales.{exponent_of as exponent_is}
use Rattle.vcd_head.proofs.words.exponent_of.Goals as goal

pub returns-in-Some : goal.returns-in-Some
returns-in-Some c =
    let t = c.args.scale.now in
    let s = stripped t (codes "100") c.strip_prefix.result c.in-Some.unit c.in-Some.is (strip_prefix_is Decides-eqb t (codes "100") c.strip_prefix.result c.strip_prefix.ensures.cases) in
    c.raised.ensures ∙ sym (front_100 c.in-Some.unit.now) ∙ ap exponent_is (sym s)

pub returns-in-Some-strip_prefix : goal.returns-in-Some-strip_prefix
returns-in-Some-strip_prefix c =
    let t = c.args.scale.now in
    let n = not_stripped t (codes "100") c.strip_prefix.result c.in_default.not-Some (strip_prefix_is Decides-eqb t (codes "100") c.strip_prefix.result c.strip_prefix.ensures.cases) in
    let s = stripped t (codes "10") c.strip_prefix-2.result c.in-Some-strip_prefix.unit c.in-Some-strip_prefix.is
    (strip_prefix_is Decides-eqb t (codes "10") c.strip_prefix-2.result c.strip_prefix-2.ensures.cases) in
    c.raised-in-Some-strip_prefix.ensures ∙ sym (front_10 c.in-Some-strip_prefix.unit.now (λ w e. n w (s ∙ ap (λ l. codes "10" ++ l) e))) ∙ ap exponent_is (sym s)

pub returns-in-Some-strip_prefix-2 : goal.returns-in-Some-strip_prefix-2
returns-in-Some-strip_prefix-2 c =
    let t = c.args.scale.now in
    let n = not_stripped t (codes "10") c.strip_prefix-2.result c.in_default-strip_prefix.not-Some
    (strip_prefix_is Decides-eqb t (codes "10") c.strip_prefix-2.result c.strip_prefix-2.ensures.cases) in
    let s = stripped t (codes "1") c.strip_prefix-3.result c.in-Some-strip_prefix-2.unit c.in-Some-strip_prefix-2.is
    (strip_prefix_is Decides-eqb t (codes "1") c.strip_prefix-3.result c.strip_prefix-3.ensures.cases) in
    c.raised-in-Some-strip_prefix-2.ensures ∙ sym (front_1 c.in-Some-strip_prefix-2.unit.now (λ w e. n w (s ∙ ap (λ l. codes "1" ++ l) e))) ∙ ap exponent_is (sym s)

pub returns : goal.returns
returns c =
    let t = c.args.scale.now in
    let n = not_stripped t (codes "1") c.strip_prefix-3.result c.in_default-strip_prefix-2.not-Some
    (strip_prefix_is Decides-eqb t (codes "1") c.strip_prefix-3.result c.strip_prefix-3.ensures.cases) in
    sym (front_other t n)
