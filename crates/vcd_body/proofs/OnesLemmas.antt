-- Digits that are read together, as a number.
use Rattle.vcd_body.proofs.Cited.{◌≡◌, ℕ, ◌+◌, ◌-◌, ◌*◌, ◌/◌, ◌%◌, ◌^◌, ◌<◌, ◌≤◌, ◌==◌, Bool, true, false, cond, List, [], ◌∷◌, ◌++◌, length, map, replicate, get_or, slice_range, w8, refl, sym, ap, ◌∙◌, arith, slice_index, bit_at, div-div-eq-div-mul, div-lt_iff_lt-mul, eqb-true, agree_below_at, ext_get_or, get_or-map, get_or_append_left, pow-add, pow_pos, bitmask_splat, bit_mask_l, mask_l-lt, mask_l, pick_l, top, zip2, binary_digits, bit_of}
use Rattle.vcd_body.proofs.BinaryLemmas.{length_binary}
use Rattle.vcd_body.proofs.NumberLemmas.{binary_get}
use Rattle.vcd_body.proofs.WordLemmas.{byte_there}

-- ---- a mask of the bytes that are 1, the last one in its lowest bit

abbrev backwards : List ℕ
backwards = 31 ∷ 30 ∷ 29 ∷ 28 ∷ 27 ∷ 26 ∷ 25 ∷ 24 ∷ 23 ∷ 22 ∷ 21 ∷ 20 ∷ 19 ∷ 18 ∷ 17 ∷ 16 ∷ 15 ∷ 14 ∷ 13 ∷ 12 ∷ 11 ∷ 10 ∷ 9 ∷ 8 ∷ 7 ∷ 6 ∷ 5 ∷ 4 ∷ 3 ∷ 2 ∷ 1 ∷ 0 ∷ []

back_at : (k : ℕ) → k < 32 → get_or backwards (31 - k) 0 ≡ k
back_at k less = eqb-true (get_or backwards (31 - k) 0) k (agree_below_at (λ j. get_or backwards (31 - j) 0 == j) (λ _. true) 32 k refl less)

-- what the mask of these lanes is
abbrev pub ones_mask : List ℕ → ℕ
ones_mask v = mask_l (map (top 7) (zip2 (λ a b. cond (a == b) 255 0) (pick_l 0 (v ++ v) backwards) (replicate 32 49))) % 2 ^ 64

is_mask : (v : List ℕ) → ones_mask v ≡ mask_l (map (λ x. x == 49) (pick_l 0 (v ++ v) backwards))
is_mask v = bitmask_splat w8 (λ a b. a == b) (pick_l 0 (v ++ v) backwards) 32 49 refl (omega arith)

pub ones_few : (v : List ℕ) → ones_mask v < 2 ^ 32
ones_few v = let f = mask_l-lt (map (λ x. x == 49) (pick_l 0 (v ++ v) backwards)) in omega (arith, is_mask v, f)

pub ones_bits : (v : List ℕ) (k : ℕ) → length v ≡ 32 → k < 32 → bit_at (ones_mask v) (31 - k) ≡ bit_of (get_or v k 0)
ones_bits v k long less =
    let lanes = pick_l 0 (v ++ v) backwards in
    let many : length backwards ≡ 32 = refl in
    let lane : get_or lanes (31 - k) 0 ≡ get_or v k 0 = get_or-map (λ j. get_or (v ++ v) j 0) backwards (31 - k) 0 0 (omega (arith, many))
    ∙ ap (λ j. get_or (v ++ v) j 0) (back_at k less) ∙ get_or_append_left v v 0 k (omega (arith, long)) in
    ap (λ m. bit_at m (31 - k)) (is_mask v)
    ∙ bit_mask_l (map (λ x. x == 49) lanes) (31 - k)
    ∙ ap (λ (b : Bool). cond b 1 0) (get_or-map (λ x. x == 49) lanes (31 - k) 0 false (omega (arith, many)) ∙ ap (λ x. x == 49) lane)

-- ---- of which this many digits count

pub front_fits : (m n : ℕ) → n ≤ 32 → m < 2 ^ 32 → m / 2 ^ (32 - n) < 2 ^ n
front_fits m n few fits =
    let whole : n + (32 - n) ≡ 32 = omega arith in
    let p : 2 ^ 32 ≡ 2 ^ n * 2 ^ (32 - n) = sym (ap (λ k. 2 ^ k) whole) ∙ pow-add 2 n (32 - n) in
    (div-lt_iff_lt-mul {k = 2 ^ (32 - n)} (pow_pos (32 - n))).1 (omega (arith, p, fits))

pub front_bit : (m n k : ℕ) → n ≤ 32 → k < n → m / 2 ^ (32 - n) / 2 ^ (n - 1 - k) % 2 ≡ bit_at m (31 - k)
front_bit m n k few less =
    let sum : 32 - n + (n - 1 - k) ≡ 31 - k = omega arith in
    ap (λ q. q % 2) (div-div-eq-div-mul m (2 ^ (32 - n)) (2 ^ (n - 1 - k)))
    ∙ ap (λ p. m / p % 2) (sym (pow-add 2 (32 - n) (n - 1 - k)) ∙ ap (λ j. 2 ^ j) sum)

-- ---- the digits that they write

pub written : (digits bytes : List ℕ) (at number : ℕ) → digits ≡ slice_range bytes at (at + length digits)
    → ((k : ℕ) → k < length digits → slice_index bytes (at + k) ≡ 48 + bit_of (slice_index bytes (at + k)))
    → ((k : ℕ) → k < length digits → number / 2 ^ (length digits - 1 - k) % 2 ≡ bit_of (slice_index bytes (at + k)))
    → digits ≡ binary_digits (length digits) number
written digits bytes at number position binary bits = ext_get_or 0 digits (binary_digits (length digits) number) (sym (length_binary (length digits) number)) (λ k less.
    byte_there digits bytes at (length digits) k less position ∙ binary k less ∙ ap (λ b. 48 + b) (sym (bits k less)) ∙ sym (binary_get (length digits) number k less))
