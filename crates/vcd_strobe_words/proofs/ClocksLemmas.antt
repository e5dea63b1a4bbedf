-- The path and the place of a word, by its last `@`.
use Rattle.vcd_strobe_words.proofs.Cited.{◌≡◌, ◌≢◌, ◌∙◌, ◌∷◌, ◌+◌, ◌-◌, ◌<◌, ◌≤◌, ◌==◌, ◌||◌, [], ℕ, suc, Bool, false, true, List, length, take, drop, get_or, not, cond, ap, ap₂, refl, sym, arith, lit<, Option, Some, None, Text, list_any, list_any_at, after_last, before_last, suffix_len, suffix_len_is, eqb-true, length-drop, get_or-drop, RFindsChar, NoCharPasses-char, len_utf8_ascii, decimal_value, is_number, place_asked}

abbrev is_at : ℕ → Bool
is_at b = b == 64

not-at : (b : ℕ) → b ≢ 64 → is_at b ≡ false
not-at b differ = by_test (is_at b) refl
  where
    by_test : (t : Bool) → is_at b ≡ t → is_at b ≡ false
    by_test true e = absurd (differ (eqb-true b 64 e))
    by_test false e = e

none-at : (bs : List ℕ) → ((k : ℕ) → k < length bs → get_or bs k 0 ≢ 64) → list_any is_at bs ≡ false
none-at [] h = refl
none-at (b ∷ bs) h = ap (λ t. t || list_any is_at bs) (not-at b (h 0 (omega arith))) ∙ none-at bs (λ k l. h (suc k) (omega arith))

-- without an `@` it is a path
pub no-at : (word : Text) → RFindsChar 64 word None → (word, None) ≡ place_asked word
no-at word h = rw (none-at word (λ k. NoCharPasses-char 64 word k h (lit< tt))) refl

-- its last `@` is between its first i bytes and those from j on
module _ (word : Text) (i j : ℕ) (h : RFindsChar 64 word (Some (i, j))) (inside : j ≤ length word) where
  next : j ≡ i + 1
  next = omega (arith, h.1.ends, len_utf8_ascii 64 (lit< tt))

  later : (k : ℕ) → j ≤ k → k < length word → get_or word k 0 ≢ 64
  later k a l e =
      let back : j + (k - j) ≡ k = omega arith in
      NoCharPasses-char 64 (drop j word) (k - j) h.0 (lit< tt) (omega (arith, length-drop j word))
      (get_or-drop j word (k - j) 0 ∙ ap (λ n. get_or word n 0) back ∙ e)

  here : is_at (get_or word i 0) ≡ true
  here = ap is_at (h.1.byte (lit< tt))

  tail : suffix_len (λ b. not (is_at b)) word ≡ length word - j
  tail =
      let last : j - 1 ≡ i = omega (arith, next) in
      suffix_len_is (λ b. not (is_at b)) word j 0 inside (λ k a l. ap not (not-at _ (later k a l)))
      (λ _. ap (λ n. not (is_at (get_or word n 0))) last ∙ ap not here)

  has-at : list_any is_at word ≡ true
  has-at = list_any_at is_at word i 0 (omega (arith, next)) here

  before-is : before_last is_at word ≡ take i word
  before-is = ap (λ n. take n word) (omega (arith, next, tail))

  after-is : after_last is_at word ≡ drop j word
  after-is = ap (λ n. drop n word) (omega (arith, tail))

  numbered : is_number (drop j word) ≡ true → place_asked word ≡ (take i word, Some (decimal_value (drop j word)))
  numbered n = rw (has-at, before-is, after-is, n) refl

  unnumbered : is_number (drop j word) ≡ false → place_asked word ≡ (word, None)
  unnumbered n = rw (has-at, after-is, n) refl

  -- these digits come after it
  module _ (digits : List ℕ) (cut : digits ≡ drop j word) where
    pub at-place : (path : Text) (n : ℕ) → path ≡ take i word
        → Some n ≡ cond (is_number digits) (Some (decimal_value digits)) None → (path, Some n) ≡ place_asked word
    at-place path n front number = by_test (is_number digits) refl
      where
        by_test : (t : Bool) → is_number digits ≡ t → (path, Some n) ≡ place_asked word
        by_test true t =
            let same : Some n ≡ Some (decimal_value digits) = number ∙ ap (λ u. cond u (Some (decimal_value digits)) None) t in
            let good : is_number (drop j word) ≡ true = ap is_number (sym cut) ∙ t in
            ap₂ (λ (a : Text) (b : Option ℕ). (a, b)) front (same ∙ ap (λ d. Some (decimal_value d)) cut) ∙ sym (numbered good)
        by_test false t = let bad : Some n ≡ None = number ∙ ap (λ u. cond u (Some (decimal_value digits)) None) t in cc

    pub at-no-number : None ≡ cond (is_number digits) (Some (decimal_value digits)) None → (word, None) ≡ place_asked word
    at-no-number number = by_test (is_number digits) refl
      where
        by_test : (t : Bool) → is_number digits ≡ t → (word, None) ≡ place_asked word
        by_test true t = let bad : None ≡ Some (decimal_value digits) = number ∙ ap (λ u. cond u (Some (decimal_value digits)) None) t in cc
        by_test false t = sym (unnumbered (ap is_number (sym cut) ∙ t))
