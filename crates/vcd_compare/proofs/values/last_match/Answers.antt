use Rattle.vcd_compare.proofs.Cited.{◌≡◌, ◌≤◌, ◌+◌, ◌-◌, true, Some, drop, slice_get, refl, sym, ap, subst, ◌∙◌, arith, all_match, digits_match, digit_in, rule_of}
use Rattle.vcd_compare.proofs.Facts.{apart_from, next_digit}
use Rattle.vcd_compare.proofs.values.last_match.Goals as goal

pub returns-then-not-digits_match : goal.returns-then-not-digits_match
returns-then-not-digits_match c = λ ds es laid many its one other.
    let i = c.args.count - 1 - c.loop-back.back in
    let first : slice_get ds i ≡ Some c.in-Some-Some.a = sym (ap (λ o. digit_in o i) one) ∙ sym (c.digit.ensures laid) ∙ c.in-Some-Some.is-0 in
    let second : slice_get es i ≡ Some c.in-Some-Some.b = sym (ap (λ o. digit_in o i) other) ∙ sym (c.digit-in-loop-back.ensures laid) ∙ c.in-Some-Some.is-1 in
    let le : c.args.count - c.args.last ≤ i = omega (arith, c.loop-back-test.true, c.min-back-end.ensures) in
    sym (apart_from (rule_of c.args.asked) (c.args.count - c.args.last) i ds es c.in-Some-Some.a c.in-Some-Some.b le first second (sym c.digits_match.ensures ∙ c.if-not-digits_match.true))

pub loop-back-preserved : goal.loop-back-preserved
loop-back-preserved c = λ ds es laid many its one other.
    let n = c.args.count in
    let i = n - 1 - c.loop-back.back in
    let r = rule_of c.args.asked in
    let first : slice_get ds i ≡ Some c.in-Some-Some.a = sym (ap (λ o. digit_in o i) one) ∙ sym (c.digit.ensures laid) ∙ c.in-Some-Some.is-0 in
    let second : slice_get es i ≡ Some c.in-Some-Some.b = sym (ap (λ o. digit_in o i) other) ∙ sym (c.digit-in-loop-back.ensures laid) ∙ c.in-Some-Some.is-1 in
    let same : n - (c.loop-back.back + 1) ≡ i = omega arith in
    let next : n - c.loop-back.back ≡ i + 1 = omega (arith, c.loop-back-test.true, c.min-back-end.ensures) in
    let matches : digits_match r c.in-Some-Some.a c.in-Some-Some.b ≡ true = sym c.digits_match.ensures ∙ c.if-not-digits_match.false in
    let rest : all_match r (drop (i + 1) ds) (drop (i + 1) es) ≡ true = subst (λ k. all_match r (drop k ds) (drop k es) ≡ true) next (c.loop-back.invariant ds es laid many its one other) in
    subst (λ k. all_match r (drop k ds) (drop k es) ≡ true) (sym same) (rw (next_digit ds i c.in-Some-Some.a first, next_digit es i c.in-Some-Some.b second) (rw (matches, rest) refl))

pub returns : goal.returns
returns c = λ ds es laid many its one other.
    let same : c.args.count - c.loop-back.back ≡ c.args.count - c.args.last = omega (arith, c.loop-back-test.false, c.loop-back.auto.back-end, c.min-back-end.ensures) in
    sym (subst (λ k. all_match (rule_of c.args.asked) (drop k ds) (drop k es) ≡ true) same (c.loop-back.invariant ds es laid many its one other))
