use Rattle.vcd_text.proofs.Cited.{◌≡◌, ℕ, zero, suc, ◌+◌, ◌-◌, ◌*◌, ◌^◌, ◌≤◌, ◌<◌, ◌++◌, List, Option, length, get_or, refl, ap, sym, subst, ◌∙◌, arith, slice_range, spelled, spelled_below, WORTH}
use Rattle.vcd_text.proofs.Facts.{slice_range-append, back_fails, few_below, front_fails, two_below, two_spelled, length-slice_range}
use Rattle.vcd_text.proofs.number.decimal_at.Goals as goal

-- one to 16 bytes
whole : (bytes : List ℕ) (from to : ℕ) → to ≤ length bytes → from < to → to ≤ from + 16 → spelled (slice_range bytes from to) ≡ spelled_below (slice_range bytes from to)
whole bytes from to within some few =
    let long = length-slice_range bytes from to within in
    few_below (slice_range bytes from to) (omega arith) (omega arith)

-- the first eight bytes, and those after them
parts : (bytes : List ℕ) (from to : ℕ) → from + 8 ≤ to → slice_range bytes from (from + 8) ++ slice_range bytes (from + 8) to ≡ slice_range bytes from to
parts bytes from to le =
    let end : from + 8 + (to - (from + 8)) ≡ to = omega arith in
    subst (λ e. slice_range bytes from (from + 8) ++ slice_range bytes (from + 8) e ≡ slice_range bytes from e) end (slice_range-append bytes from (from + 8) (to - (from + 8)) (omega arith))

-- where the first eight begin
front : (bytes : List ℕ) (from : ℕ) (o : Option ℕ) → o ≡ spelled (slice_range bytes (from + 8 - 8) (from + 8)) → spelled (slice_range bytes from (from + 8)) ≡ o
front bytes from o is = let begin : from + 8 - 8 ≡ from = omega arith in sym (is ∙ ap (λ b. spelled (slice_range bytes b (from + 8))) begin)

-- where the others begin
back : (bytes : List ℕ) (from to : ℕ) (o : Option ℕ) → from + 8 ≤ to → o ≡ spelled (slice_range bytes (to - (to - from - 8)) to) → spelled (slice_range bytes (from + 8) to) ≡ o
back bytes from to o le is = let begin : to - (to - from - 8) ≡ from + 8 = omega arith in sym (is ∙ ap (λ b. spelled (slice_range bytes b to)) begin)

power_is : (k : ℕ) → 0 < k → k ≤ 8 → 10 * get_or WORTH (8 - k) 0 ≡ 10 ^ k
power_is zero some h = absurd (omega arith)
power_is (suc zero) some h = refl
power_is (suc (suc zero)) some h = refl
power_is (suc (suc (suc zero))) some h = refl
power_is (suc (suc (suc (suc zero)))) some h = refl
power_is (suc (suc (suc (suc (suc zero))))) some h = refl
power_is (suc (suc (suc (suc (suc (suc zero)))))) some h = refl
power_is (suc (suc (suc (suc (suc (suc (suc zero))))))) some h = refl
power_is (suc (suc (suc (suc (suc (suc (suc (suc zero)))))))) some h = refl
power_is (suc (suc (suc (suc (suc (suc (suc (suc (suc k))))))))) some h = absurd (omega arith)

-- the power of ten by which the first eight count
power : (bytes : List ℕ) (from to p : ℕ) → to ≤ length bytes → from + 8 < to → to ≤ from + 16 → p ≡ 10 * get_or WORTH (16 - (to - from)) 0
    → p ≡ 10 ^ length (slice_range bytes (from + 8) to)
power bytes from to p within le few is =
    let long = length-slice_range bytes (from + 8) to within in
    is ∙ ap (λ k. 10 * get_or WORTH k 0) (omega arith) ∙ power_is (to - from - 8) (omega arith) (omega arith) ∙ ap (λ k. 10 ^ k) (omega (arith, long))

pub returns-then-n-le8 : goal.returns-then-n-le8
returns-then-n-le8 c =
    let bytes = c.args.bytes.now in
    let from = c.args.from in
    let to = c.args.to in
    let begin : to - (to - from) ≡ from = omega (arith, c.requires) in
    c.few_digits.ensures ∙ ap (λ b. spelled (slice_range bytes b to)) begin ∙ whole bytes from to c.requires.1 (omega arith) (omega arith)

pub returns-in_err-high : goal.returns-in_err-high
returns-in_err-high c =
    let bytes = c.args.bytes.now in
    let from = c.args.from in
    let to = c.args.to in
    c.from_residual.ensures ∙ front_fails (slice_range bytes from (from + 8)) (slice_range bytes (from + 8) to) (front bytes from _ c.few_digits-2.ensures ∙ c.in_err-high.was)
    ∙ ap spelled (parts bytes from to (omega arith)) ∙ whole bytes from to c.requires.1 (omega arith) (omega arith)

pub returns-in_err-low : goal.returns-in_err-low
returns-in_err-low c =
    let bytes = c.args.bytes.now in
    let from = c.args.from in
    let to = c.args.to in
    c.from_residual-in_err-low.ensures ∙ back_fails (slice_range bytes from (from + 8)) (slice_range bytes (from + 8) to)
    (back bytes from to _ (omega arith) c.few_digits-3.ensures ∙ c.in_err-low.was)
    ∙ ap spelled (parts bytes from to (omega arith)) ∙ whole bytes from to c.requires.1 (omega arith) (omega arith)

pub overflow_mul-result : goal.overflow_mul-result
overflow_mul-result c =
    let bytes = c.args.bytes.now in
    let from = c.args.from in
    let to = c.args.to in
    let long = length-slice_range bytes from to c.requires.1 in
    let le : from + 8 ≤ to = omega arith in
    let small = two_below (slice_range bytes from (from + 8)) (slice_range bytes (from + 8) to) c.in_ok-high.high c.in_ok-low.low _
    (power bytes from to _ c.requires.1 (omega arith) (omega arith) (ap (λ w. 10 * w) c.from-power.ensures))
    (front bytes from _ c.few_digits-2.ensures ∙ c.in_ok-high.was) (back bytes from to _ le c.few_digits-3.ensures ∙ c.in_ok-low.was)
    (omega (arith, ap length (parts bytes from to le))) in
    record { fits = omega arith }

pub overflow_add-result : goal.overflow_add-result
overflow_add-result c =
    let bytes = c.args.bytes.now in
    let from = c.args.from in
    let to = c.args.to in
    let long = length-slice_range bytes from to c.requires.1 in
    let le : from + 8 ≤ to = omega arith in
    let small = two_below (slice_range bytes from (from + 8)) (slice_range bytes (from + 8) to) c.in_ok-high.high c.in_ok-low.low _
    (power bytes from to _ c.requires.1 (omega arith) (omega arith) (ap (λ w. 10 * w) c.from-power.ensures))
    (front bytes from _ c.few_digits-2.ensures ∙ c.in_ok-high.was) (back bytes from to _ le c.few_digits-3.ensures ∙ c.in_ok-low.was)
    (omega (arith, ap length (parts bytes from to le))) in
    record { fits = omega arith }

pub returns : goal.returns
returns c =
    let bytes = c.args.bytes.now in
    let from = c.args.from in
    let to = c.args.to in
    let le : from + 8 ≤ to = omega arith in
    two_spelled (slice_range bytes from (from + 8)) (slice_range bytes (from + 8) to) c.in_ok-high.high c.in_ok-low.low _
    (power bytes from to _ c.requires.1 (omega arith) (omega arith) (ap (λ w. 10 * w) c.from-power.ensures))
    (front bytes from _ c.few_digits-2.ensures ∙ c.in_ok-high.was) (back bytes from to _ le c.few_digits-3.ensures ∙ c.in_ok-low.was)
    ∙ ap spelled (parts bytes from to le) ∙ whole bytes from to c.requires.1 (omega arith) (omega arith)
