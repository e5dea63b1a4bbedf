-- Numbers of digits: one digit more, how large they are, and digits that extend others.
use Rattle.vcd_changes.proofs.Cited.{◌≡◌, ◌∙◌, ◌+◌, ◌-◌, ◌*◌, ◌^◌, ◌<◌, ◌≤◌, ◌==◌, ℕ, zero, suc, Bool, true, false, cond, List, [], ◌∷◌, ◌++◌, length, map, take, get_or, replicate, ap, refl, sym, subst, add-one, zero-add, arith, number_push, number_lt, number_after_append, map-append, take_more, length-map, length-take-le, replicate_more, pow-add, pow-succ', pow_mono, AllBelowBase, number_from_digits, number_from_digits_after, byte, extend, extension, is_one, number_where}

regroup : (n b p q x y : ℕ) → q ≡ 2 * p → y ≡ (0 * 2 + b) * p + x → (n * 2 + b) * p + x ≡ n * q + y
regroup n b p q x y e f = rw (e, f) (omega arith)

equal_none : (b : Bool) → 0 + cond b 1 0 ≡ cond b (2 ^ 0) 0
equal_none true = refl
equal_none false = refl

doubled : (t : Bool) (n m k : ℕ) → m ≡ n * 2 + cond t 1 0 → n + cond t 1 0 ≡ cond t (2 ^ k) 0 → m + cond t 1 0 ≡ cond t (2 ^ suc k) 0
doubled true n m k e f = let p = pow-succ' 2 k in omega arith
doubled false n m k e f = omega arith

-- n digits that pass before others that are worth p
in_front : (t : Bool) (n k p whole x : ℕ) → n + cond t 1 0 ≡ cond t (2 ^ k) 0 → whole ≡ 2 ^ k * p → n * p + x ≡ cond t (whole - p) 0 + x
in_front true n k p whole x e w = let m : (n + 1) * p ≡ 2 ^ k * p = ap (λ y. y * p) e in omega arith
in_front false n k p whole x e w = let m : n * p ≡ 0 * p = ap (λ y. y * p) (let z : n ≡ 0 = omega arith in z) in omega arith

module _ (test : ℕ → Bool) where
  abbrev bit : ℕ → ℕ
  bit d = cond (test d) 1 0

  -- one digit more
  pub number_one_more : (xs : List ℕ) (i : ℕ) → i < length xs → number_where test (take (i + 1) xs) ≡ 2 * number_where test (take i xs) + cond (test (get_or xs i 0)) 1 0
  number_one_more xs i lt =
      let push = ap (number_where test) (take_more xs i 0 lt) ∙ ap (number_from_digits 2) (map-append bit (take i xs) (get_or xs i 0 ∷ []))
      ∙ number_push 2 (map bit (take i xs)) (bit (get_or xs i 0)) in
      omega arith

  bit_below : (b : Bool) → cond b 1 0 < 2
  bit_below true = omega arith
  bit_below false = omega arith

  all_below : (xs : List ℕ) → AllBelowBase 2 (map bit xs)
  all_below [] = tt
  all_below (x ∷ xs) = (bit_below (test x), all_below xs)

  -- how large it is at most
  pub number_below : (xs : List ℕ) → number_where test xs < 2 ^ length xs
  number_below xs = let lt = number_lt 2 (map bit xs) (all_below xs) in subst (λ n. number_where test xs < 2 ^ n) (length-map xs bit) lt

  after_is : (n : ℕ) (xs : List ℕ) → number_from_digits_after 2 n (map bit xs) ≡ n * 2 ^ length xs + number_where test xs
  after_is n [] = omega arith
  after_is n (x ∷ xs) =
      let a = after_is (n * 2 + bit x) xs in
      let b = after_is (0 * 2 + bit x) xs in
      let p = pow-succ' 2 (length xs) in
      a ∙ regroup n (bit x) (2 ^ length xs) (2 ^ length (x ∷ xs)) (number_where test xs) (number_where test (x ∷ xs)) p b

  equal_digits : (k d : ℕ) → number_where test (replicate k d) + cond (test d) 1 0 ≡ cond (test d) (2 ^ k) 0
  equal_digits zero d = equal_none (test d)
  equal_digits (suc k) d =
      let more : replicate (suc k) d ≡ replicate k d ++ d ∷ [] = ap (λ n. replicate n d) (sym (add-one k)) ∙ sym (replicate_more k d) in
      let push = ap (number_where test) more ∙ ap (number_from_digits 2) (map-append bit (replicate k d) (d ∷ [])) ∙ number_push 2 (map bit (replicate k d)) (bit d) in
      doubled (test d) (number_where test (replicate k d)) (number_where test (replicate (suc k) d)) k push (equal_digits k d)

  -- the number of digits that are extended to 64
  pub number_extended : (xs : List ℕ) → length xs ≤ 64 → number_where test (extend xs 64) ≡ cond (test (extension xs)) (2 ^ 64 - 2 ^ length xs) 0 + number_where test xs
  number_extended xs le =
      let k : ℕ = 64 - length xs in
      let d : ℕ = extension xs in
      let sum : k + length xs ≡ 64 = omega arith in
      ap (number_from_digits 2) (map-append bit (replicate k d) xs)
      ∙ number_after_append 2 0 (map bit (replicate k d)) (map bit xs)
      ∙ after_is (number_where test (replicate k d)) xs
      ∙ in_front (test d) (number_where test (replicate k d)) k (2 ^ length xs) (2 ^ 64) (number_where test xs) (equal_digits k d) (ap (λ n. 2 ^ n) (sym sum) ∙ pow-add 2 k (length xs))

below_whole : (t : Bool) (p n : ℕ) → n < p → p ≤ 2 ^ 64 → cond t (2 ^ 64 - p) 0 + n < 2 ^ 64
below_whole true p n lt le = omega arith
below_whole false p n lt le = omega arith

-- it fits 64 bits
pub fits_extended : (test : ℕ → Bool) (xs : List ℕ) → length xs ≤ 64 → cond (test (extension xs)) (2 ^ 64 - 2 ^ length xs) 0 + number_where test xs < 2 ^ 64
fits_extended test xs le = below_whole (test (extension xs)) (2 ^ length xs) (number_where test xs) (number_below test xs) (pow_mono le)

-- before one digit more there are fewer than 64
pub room_for_one : (test : ℕ → Bool) (xs : List ℕ) (i : ℕ) → i < length xs → length xs ≤ 64 → number_where test (take i xs) < 2 ^ 63
room_for_one test xs i lt le =
    let few : length (take i xs) ≤ 63 = let l = length-take-le i xs (omega arith) in omega arith in
    let below = number_below test (take i xs) in
    let most : 2 ^ length (take i xs) ≤ 2 ^ 63 = pow_mono few in
    omega arith

unless_one : (b : Bool) (d : ℕ) → (d == byte "1") ≡ b → (cond b (byte "0") d == byte "1") ≡ false
unless_one true d e = refl
unless_one false d e = e

-- no value is extended by ones
pub not_one : (xs : List ℕ) → is_one (extension xs) ≡ false
not_one [] = refl
not_one (d ∷ ds) = unless_one (d == byte "1") d refl

-- a value is extended by no ones
pub ones_extended : (xs : List ℕ) → length xs ≤ 64 → number_where is_one (extend xs 64) ≡ number_where is_one xs
ones_extended xs le = number_extended is_one xs le ∙ ap (λ (b : Bool). cond b (2 ^ 64 - 2 ^ length xs) 0 + number_where is_one xs) (not_one xs) ∙ zero-add (number_where is_one xs)
