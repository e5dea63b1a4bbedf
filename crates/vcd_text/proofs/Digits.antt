-- Decimal digits that are read one after the other.
use Rattle.vcd_text.proofs.Cited.{◌≡◌, ℕ, Bool, ◌+◌, ◌-◌, ◌*◌, ◌^◌, ◌<◌, ◌≤◌, true, false, cond, ◌==◌, List, [], ◌∷◌, ◌++◌, length, take, drop, get_or, Some, None, refl, sym, ap, ◌∙◌, arith, pow-suc, take-append-drop, length-append, pow-add, mul_assoc, add-mul, list_all, is_ascii_digit, mul-le-mul_right, pow-le-pow_right, take_more, take_all, list_all-append, and_from, and_parts, and_right, le-ltb, lt-ltb, is_empty, is_decimal, decimal_value, decimal_value-push, decimal_value-grows, spelled, spelled_below}

-- the first k digits were read, and their number fits
pub record HasRead (ds : List ℕ) (k number : ℕ) : Type 0 where
  pub digits : list_all is_ascii_digit (take k ds) ≡ true
  pub value : decimal_value (take k ds) ≡ number
  pub small : number < 2 ^ 64

-- one more
pub read_more : (ds : List ℕ) (k number : ℕ) → k < length ds → is_ascii_digit (get_or ds k 0) ≡ true → number * 10 + (get_or ds k 0 - 48) < 2 ^ 64
    → HasRead ds k number → HasRead ds (k + 1) (number * 10 + (get_or ds k 0 - 48))
read_more ds k number h d small r = record {
  digits = rw (take_more ds k 0 h, list_all-append) (and_from (list_all is_ascii_digit (take k ds)) _ r.digits (and_from (is_ascii_digit (get_or ds k 0)) true d refl));
  value = rw (take_more ds k 0 h) (decimal_value-push (take k ds) (get_or ds k 0) ∙ ap (λ n. n * 10 + (get_or ds k 0 - 48)) r.value);
  small = small;
}

-- digits of which some first ones spell too much
pub too_large : (ds : List ℕ) (k : ℕ) → 2 ^ 64 ≤ decimal_value (take k ds) → spelled_below ds ≡ None
too_large ds k h =
    let grows = decimal_value-grows (take k ds) (drop k ds) in
    let whole : take k ds ++ drop k ds ≡ ds = take-append-drop k ds in
    let large : 2 ^ 64 ≤ decimal_value ds = (let g : decimal_value (take k ds) ≤ decimal_value ds = rw whole at grows in omega arith) in
    rw (le-ltb (decimal_value ds) (2 ^ 64) large, and_right (is_decimal ds) false refl) refl

-- what one digit more spells
pub next_value : (ds : List ℕ) (k number : ℕ) → k < length ds → HasRead ds k number → decimal_value (take (k + 1) ds) ≡ number * 10 + (get_or ds k 0 - 48)
next_value ds k number h r = rw (take_more ds k 0 h) (decimal_value-push (take k ds) (get_or ds k 0) ∙ ap (λ n. n * 10 + (get_or ds k 0 - 48)) r.value)

pub product_too_large : (ds : List ℕ) (k number : ℕ) → k < length ds → HasRead ds k number → (number * 10 < 2 ^ 64 → ⊥) → spelled_below ds ≡ None
product_too_large ds k number h r large = let e = next_value ds k number h r in too_large ds (k + 1) (omega arith)

pub sum_too_large : (ds : List ℕ) (k number digit : ℕ) → k < length ds → HasRead ds k number → digit ≡ get_or ds k 0 - 48
    → (number * 10 + digit < 2 ^ 64 → ⊥) → spelled_below ds ≡ None
sum_too_large ds k number digit h r d large = let e = next_value ds k number h r in too_large ds (k + 1) (omega arith)

filled : (ds : List ℕ) → (length ds == 0) ≡ false → is_empty ds ≡ false
filled [] e = cc
filled (d ∷ ds) e = refl

-- digits that were all read, and whose number is below 2^64
pub read_all : (ds : List ℕ) (k number : ℕ) → (length ds == 0) ≡ false → k ≡ length ds → HasRead ds k number → Some number ≡ spelled_below ds
read_all ds k number e h r =
    let whole : take k ds ≡ ds = take_all k ds (omega arith) in
    let digits : list_all is_ascii_digit ds ≡ true = rw whole at r.digits in
    let value : decimal_value ds ≡ number = rw whole at r.value in
    rw (value, lt-ltb number (2 ^ 64) r.small, digits, filled ds e) refl

-- ---- digits so few that their number is small whatever they are

pub digit_bounds : (b : ℕ) → is_ascii_digit b ≡ true → (48 ≤ b) × (b ≤ 57)
digit_bounds b is = (grind arith, grind arith)

-- as many digits spell no more
pub value_below : (ds : List ℕ) → list_all is_ascii_digit ds ≡ true → decimal_value ds < 10 ^ length ds
value_below [] all = omega arith
value_below (d ∷ ds) all =
    let parts = and_parts (is_ascii_digit d) (list_all is_ascii_digit ds) all in
    let below = value_below ds parts.1 in
    let most = mul-le-mul_right {m = d - 48} {n = 9} (10 ^ length ds) (omega (arith, digit_bounds d parts.0)) in
    rw pow-suc (omega arith)

-- the digits that spell a number, and the number
pub of_spelled : (ds : List ℕ) (number : ℕ) → spelled ds ≡ Some number → (list_all is_ascii_digit ds ≡ true) × (decimal_value ds ≡ number)
of_spelled ds number h = by_test (list_all is_ascii_digit ds) refl
  where
    by_test : (b : Bool) → list_all is_ascii_digit ds ≡ b → (list_all is_ascii_digit ds ≡ true) × (decimal_value ds ≡ number)
    by_test true e = (e, (let same : Some (decimal_value ds) ≡ Some number = sym (ap (λ b. cond b (Some (decimal_value ds)) None) e) ∙ h in cc))
    by_test false e = (let none : None ≡ Some number = sym (ap (λ b. cond b (Some (decimal_value ds)) None) e) ∙ h in cc)

pub none_spelled : (ds : List ℕ) → spelled ds ≡ None → list_all is_ascii_digit ds ≡ false
none_spelled ds h = by_test (list_all is_ascii_digit ds) refl
  where
    by_test : (b : Bool) → list_all is_ascii_digit ds ≡ b → list_all is_ascii_digit ds ≡ false
    by_test true e = (let some : Some (decimal_value ds) ≡ None = sym (ap (λ b. cond b (Some (decimal_value ds)) None) e) ∙ h in cc)
    by_test false e = e

-- one to 16 digits spell a number below 2^64
pub few_below : (ds : List ℕ) → 0 < length ds → length ds ≤ 16 → spelled ds ≡ spelled_below ds
few_below [] some few = absurd (omega arith)
few_below (d ∷ ds) some few = by_test (list_all is_ascii_digit (d ∷ ds)) refl
  where
    by_test : (b : Bool) → list_all is_ascii_digit (d ∷ ds) ≡ b → spelled (d ∷ ds) ≡ spelled_below (d ∷ ds)
    by_test true e =
        let below = value_below (d ∷ ds) e in
        let most : 10 ^ length (d ∷ ds) ≤ 10 ^ 16 = pow-le-pow_right (omega arith) {i = length (d ∷ ds)} {j = 16} few in
        rw (e, lt-ltb (decimal_value (d ∷ ds)) (2 ^ 64) (omega arith)) refl
    by_test false e = rw e refl

decimal_value-append : (xs ys : List ℕ) → decimal_value (xs ++ ys) ≡ decimal_value xs * 10 ^ length ys + decimal_value ys
decimal_value-append [] ys = omega arith
decimal_value-append (x ∷ xs) ys =
    let power : 10 ^ length (xs ++ ys) ≡ 10 ^ length xs * 10 ^ length ys = ap (λ n. 10 ^ n) (length-append xs ys) ∙ pow-add 10 (length xs) (length ys) in
    let rest = decimal_value-append xs ys in
    let front : (x - 48) * 10 ^ length (xs ++ ys) ≡ (x - 48) * 10 ^ length xs * 10 ^ length ys = ap (λ n. (x - 48) * n) power ∙ sym (mul_assoc (x - 48) (10 ^ length xs) (10 ^ length ys)) in
    let both : ((x - 48) * 10 ^ length xs + decimal_value xs) * 10 ^ length ys ≡
    (x - 48) * 10 ^ length xs * 10 ^ length ys + decimal_value xs * 10 ^ length ys = add-mul ((x - 48) * 10 ^ length xs) (decimal_value xs)
    (10 ^ length ys) in
    let t : (x - 48) * 10 ^ length (xs ++ ys) + decimal_value (xs ++ ys) ≡ ((x - 48) * 10 ^ length xs + decimal_value xs) * 10 ^ length ys + decimal_value ys = omega arith in t

-- ---- digits in two parts

both : (xs ys : List ℕ) → list_all is_ascii_digit xs ≡ true → list_all is_ascii_digit ys ≡ true → spelled (xs ++ ys) ≡ Some (decimal_value (xs ++ ys))
both xs ys front back = rw (list_all-append is_ascii_digit xs ys, front, back) refl

-- the number of both, if the power of ten has as many zeros as the second part digits
pub two_spelled : (xs ys : List ℕ) (high low power : ℕ) → power ≡ 10 ^ length ys → spelled xs ≡ Some high → spelled ys ≡ Some low → Some (high * power + low) ≡ spelled (xs ++ ys)
two_spelled xs ys high low power is front back =
    let h = of_spelled xs high front in
    let l = of_spelled ys low back in
    let value : decimal_value (xs ++ ys) ≡ high * power + low = rw (decimal_value-append xs ys, h.1, l.1, is) refl in
    ap Some (sym value) ∙ sym (both xs ys h.0 l.0)

-- which is small, if there are at most 16
pub two_below : (xs ys : List ℕ) (high low power : ℕ) → power ≡ 10 ^ length ys → spelled xs ≡ Some high → spelled ys ≡ Some low
    → length (xs ++ ys) ≤ 16 → high * power + low < 2 ^ 64
two_below xs ys high low power is front back few =
    let all = of_spelled (xs ++ ys) (high * power + low) (sym (two_spelled xs ys high low power is front back)) in
    let below = value_below (xs ++ ys) all.0 in
    let most : 10 ^ length (xs ++ ys) ≤ 10 ^ 16 = pow-le-pow_right (omega arith) {i = length (xs ++ ys)} {j = 16} few in
    omega (arith, all.1)

pub front_fails : (xs ys : List ℕ) → spelled xs ≡ None → None ≡ spelled (xs ++ ys)
front_fails xs ys h = rw (list_all-append is_ascii_digit xs ys, none_spelled xs h) refl

pub back_fails : (xs ys : List ℕ) → spelled ys ≡ None → None ≡ spelled (xs ++ ys)
back_fails xs ys h = rw (list_all-append is_ascii_digit xs ys, none_spelled ys h, and_right (list_all is_ascii_digit xs) false refl) refl
