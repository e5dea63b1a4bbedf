-- Packed digits are the digits again, as they are held; the digit at an index of a share.
use Rattle.vcd_body.proofs.Cited.{◌≡◌, ℕ, ◌+◌, ◌-◌, ◌*◌, ◌/◌, ◌%◌, ◌<◌, ◌≤◌, Bool, true, false, cond, ◌==◌, nat_lt, List, [], ◌∷◌, length, map, replicate, refl, sym, ap, subst, ◌∙◌, arith, ◌⊎◌, inl, inr, slice_get, Some, None, get_or, list_all, str_to_ascii_lowercase, to_ascii_lowercase, and_parts, cases_lt, lt-ltb, le-ltb, div_ceil_times, same_number_lists, get_or-map, get_or-replicate, length-map, get_or-map-range_with_len, length-map-range_with_len, slice_get-get_or, slice_get_past, any_of, two_bits_at, two_bits_of, two_bits_or, digit_of, digits_in, packed_byte, held_digit, quarter_of}
use Rattle.vcd_model.specs.BodyPhrases.{is_value_digit}

-- ---- one digit

-- a digit of a value is held in lower case
lower_digit : (d : ℕ) → is_value_digit d ≡ true → held_digit d ≡ to_ascii_lowercase d
unfolding is_value_digit
lower_digit d h = any_of [] d (48 ∷ 49 ∷ 120 ∷ 88 ∷ 122 ∷ 90 ∷ []) (λ x. held_digit x ≡ to_ascii_lowercase x) h (refl, (refl, (refl, (refl, (refl, (refl, tt))))))

-- so are the digits of a change
pub lower_digits : (text : List ℕ) → list_all is_value_digit text ≡ true → map held_digit text ≡ str_to_ascii_lowercase text
lower_digits [] h = refl
lower_digits (d ∷ text) h =
    let p = and_parts (is_value_digit d) (list_all is_value_digit text) h in
    let e = lower_digit d p.0 in
    let es = lower_digits text p.1 in
    rw (e, es) refl

code_small : (d : ℕ) → two_bits_of d < 4
code_small d = by_tests (d % 16 == 0) (d % 16 == 1) (d % 16 == 8)
  where
    by_tests : (a b c : Bool) → cond a 0 (cond b 1 (cond c 3 2)) < 4
    by_tests true b c = omega arith
    by_tests false true c = omega arith
    by_tests false false true = omega arith
    by_tests false false false = omega arith

pub or_small : (text : List ℕ) (position : ℕ) → two_bits_or text position < 4
or_small text position = by_test (nat_lt position (length text)) (code_small (get_or text position 0))
  where
    by_test : (b : Bool) → two_bits_of (get_or text position 0) < 4 → cond b (two_bits_of (get_or text position 0)) 0 < 4
    by_test true h = h
    by_test false h = omega arith

-- ---- tests of indexes

pub below_test : (a b x y : ℕ) → a < b → cond (nat_lt a b) x y ≡ x
below_test a b x y h = ap (λ t. cond t x y) (lt-ltb a b h)

pub above_test : (a b x y : ℕ) → b ≤ a → cond (nat_lt a b) x y ≡ y
above_test a b x y h = ap (λ t. cond t x y) (le-ltb a b h)

pub in_text : (text : List ℕ) (position : ℕ) → position < length text → two_bits_or text position ≡ two_bits_of (get_or text position 0)
in_text text position h = below_test position (length text) (two_bits_of (get_or text position 0)) 0 h

-- the code at an index of the last quarter
pub in_last : (n : ℕ) (bytes : List ℕ) (p : ℕ) → n - quarter_of n ≤ p → two_bits_at n bytes p ≡ get_or bytes (p - (n - quarter_of n)) 0 / 64
in_last n bytes p h = above_test p (n - quarter_of n) _ _ h

-- ---- a text

-- each byte of the first ones holds the digits of its index
abbrev pub Packs : List ℕ → ℕ → List ℕ → Type 0
Packs text count bytes = (j : ℕ) → j < count → get_or bytes j 0 ≡ packed_byte text (quarter_of (length text)) j

-- the codes of a byte
codes_in : (text : List ℕ) (q j : ℕ) → (packed_byte text q j % 4 ≡ two_bits_or text j) × (packed_byte text q j / 4 % 4 ≡ two_bits_or text (j + q))
    × (packed_byte text q j / 16 % 4 ≡ two_bits_or text (j + 2 * q)) × (packed_byte text q j / 64 ≡ two_bits_or text (j + (length text - q)))
codes_in text q j =
    let a = or_small text j in
    let b = or_small text (j + q) in
    let c = or_small text (j + 2 * q) in
    let d = or_small text (j + (length text - q)) in
    (omega (arith, a, b, c, d), omega (arith, a, b, c, d), omega (arith, a, b, c, d), omega (arith, a, b, c, d))

-- the byte that has a code, and what takes the code from this byte, also where it is that of a text
abbrev Place : ℕ → ℕ → Type 0
Place n p = (j : ℕ) × (f : ℕ → ℕ) × (j < quarter_of n) × ((bytes : List ℕ) → two_bits_at n bytes p ≡ f (get_or bytes j 0))
    × ((text : List ℕ) → length text ≡ n → f (packed_byte text (quarter_of n) j) ≡ two_bits_or text p)

place : (n p : ℕ) → p < n → Place n p
place n p less = elim (cases_lt p (n - q)) [
  | inl before ↦ elim (cases_lt p q) [
    | inl a ↦ (p, (λ y. y % 4), a, (λ bytes. below_test p (n - q) _ _ before ∙ below_test p q _ _ a), (λ text is. (codes_in text q p).0))
    | inr a ↦ elim (cases_lt p (2 * q)) [
      | inl b ↦ (
        p - q,
        (λ y. y / 4 % 4),
        omega arith,
        (λ bytes. below_test p (n - q) _ _ before ∙ above_test p q _ _ a
            ∙ below_test p (2 * q) _ _ b),
        (λ text is. (codes_in text q (p - q)).1 ∙ ap (two_bits_or text) (omega arith)),
      )
      | inr b ↦ (
        p - 2 * q,
        (λ y. y / 16 % 4),
        omega (arith, whole, before),
        (λ bytes. below_test p (n - q) _ _ before ∙ above_test p q _ _ a ∙ above_test p (2 * q) _ _ b),
        (λ text is. (codes_in text q (p - 2 * q)).2 ∙ ap (two_bits_or text) (omega arith)),
      )
    ]
  ]
  | inr behind ↦ (
    p - (n - q),
    (λ y. y / 64),
    omega (arith, less, behind),
    (λ bytes. in_last n bytes p behind),
    (λ text is. (codes_in text q (p - (n - q))).3 ∙ ap (two_bits_or text) (omega (arith, is, behind, less))),
  )
]
  where
    q : ℕ
    q = quarter_of n

    whole : n ≤ 4 * q
    whole = let d = div_ceil_times n 4 (omega arith) in omega (arith, d)

-- the code at each index is that of the text's digit
code_again : (text bytes : List ℕ) (p : ℕ) → Packs text (quarter_of (length text)) bytes → p < length text → two_bits_at (length text) bytes p ≡ two_bits_of (get_or text p 0)
code_again text bytes p packs less =
    let at = place (length text) p less in
    at.3 bytes ∙ ap at.1 (packs at.0 at.2) ∙ at.4 text refl ∙ in_text text p less

pub length_digits : (n : ℕ) (bytes : List ℕ) → length (digits_in n bytes) ≡ n
length_digits n bytes = length-map-range_with_len (λ position. digit_of (two_bits_at n bytes position)) 0 n

digit_there : (n : ℕ) (bytes : List ℕ) (p : ℕ) → p < n → get_or (digits_in n bytes) p 0 ≡ digit_of (two_bits_at n bytes p)
digit_there n bytes p less = get_or-map-range_with_len (λ position. digit_of (two_bits_at n bytes position)) 0 n p p 0 less (omega arith)

packs_again : (text bytes : List ℕ) → Packs text (quarter_of (length text)) bytes → digits_in (length text) bytes ≡ map held_digit text
packs_again text bytes packs =
    let n = length text in
    let t = length_digits n bytes in
    let m = length-map text held_digit in
    same_number_lists (digits_in n bytes) (map held_digit text) (omega (arith, t, m)) (λ p h.
    let less : p < n = omega (arith, t, h) in
    digit_there n bytes p less
    ∙ ap digit_of (code_again text bytes p packs less)
    ∙ sym (get_or-map held_digit text p 0 0 less))

pub packs_by : (text bytes : List ℕ) (q : ℕ) → q ≡ quarter_of (length text) → ((j : ℕ) → j < q → get_or bytes j 0 ≡ packed_byte text q j)
    → digits_in (length text) bytes ≡ map held_digit text
packs_by text bytes q is packs = packs_again text bytes (subst (λ k. (j : ℕ) → j < k → get_or bytes j 0 ≡ packed_byte text k j) is packs)

-- digits with `0` after them have the same codes before 64
pub padded_is : (text block : List ℕ) (k : ℕ) → length block ≡ 64 → ((j : ℕ) → j < length text → get_or block j 0 ≡ get_or text j 0)
    → ((j : ℕ) → length text ≤ j → get_or block j 0 ≡ get_or {A = ℕ} (replicate 64 48) j 0) → k < 64 → two_bits_or block k ≡ two_bits_or text k
padded_is text block k long front rest less = in_text block k (omega (arith, long, less)) ∙ by_place (cases_lt k (length text))
  where
    by_place : (k < length text) ⊎ (length text ≤ k) → two_bits_of (get_or block k 0) ≡ two_bits_or text k
    by_place (inl h) = ap two_bits_of (front k h) ∙ sym (in_text text k h)
    by_place (inr h) = ap two_bits_of (rest k h ∙ get_or-replicate 64 k 48 0 less) ∙ sym (above_test k (length text) (two_bits_of (get_or text k 0)) 0 h)

-- ---- one digit of a share

pub digit_among : (n : ℕ) (bytes : List ℕ) (p : ℕ) → p < n → slice_get (digits_in n bytes) p ≡ Some (digit_of (two_bits_at n bytes p))
digit_among n bytes p less =
    let t = length_digits n bytes in
    slice_get-get_or (digits_in n bytes) p 0 (omega (arith, t, less)) ∙ ap (λ d. Some d) (digit_there n bytes p less)

-- there is none after the last one
pub none_behind : (n : ℕ) (bytes : List ℕ) (p : ℕ) → n ≤ p → slice_get (digits_in n bytes) p ≡ None
none_behind n bytes p h = slice_get_past (digits_in n bytes) p (let t = length_digits n bytes in omega arith)

-- the last packed digit
pub last_code : (len : ℕ) (bytes : List ℕ) → 1 ≤ len → slice_get (digits_in len bytes) (len - 1) ≡ Some (digit_of (get_or bytes (quarter_of len - 1) 0 / 64))
last_code len bytes some =
    let position : len - 1 - (len - quarter_of len) ≡ quarter_of len - 1 = omega (arith, some) in
    digit_among len bytes (len - 1) (omega (arith, some)) ∙ ap (λ (n : ℕ). Some (digit_of n)) (in_last len bytes (len - 1) (omega (arith, some))
    ∙ ap (λ (n : ℕ). get_or bytes n 0 / 64) position)

-- only the first bytes matter
pub digits_of_first : (n : ℕ) (xs ys : List ℕ) → ((j : ℕ) → j < quarter_of n → get_or xs j 0 ≡ get_or ys j 0) → digits_in n xs ≡ digits_in n ys
digits_of_first n xs ys same =
    let a = length_digits n xs in
    let b = length_digits n ys in
    same_number_lists (digits_in n xs) (digits_in n ys) (omega (arith, a, b)) (λ p h.
    let less : p < n = omega (arith, a, h) in
    let at = place n p less in
    digit_there n xs p less ∙ ap digit_of (at.3 xs ∙ ap at.1 (same at.0 at.2) ∙ sym (at.3 ys)) ∙ sym (digit_there n ys p less))
