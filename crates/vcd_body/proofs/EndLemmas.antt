-- The codes of the last digits, which are the same where the values are.
use Rattle.vcd_body.proofs.Cited.{◌≡◌, ℕ, zero, suc, ◌-◌, ◌/◌, ◌<◌, ◌≤◌, ◌==◌, true, List, length, get_or, Some, slice_get, Fits, w8, refl, sym, ap, ◌∙◌, arith, option_map, to_ascii_lowercase, str_to_ascii_lowercase, agree_below_at, eqb-true, length-map, slice_get-get_or, slice_get-map, extend, two_bits_at, two_bits_of, digit_of, digits_in, quarter_of}
use Rattle.vcd_body.proofs.CompareLemmas.{same_from_last}
use Rattle.vcd_body.proofs.PackedLemmas.{digit_among, in_last, length_digits}

-- ---- one code

code_lower : (d : ℕ) → d < 256 → two_bits_of (to_ascii_lowercase d) ≡ two_bits_of d
code_lower d fit = eqb-true (two_bits_of (to_ascii_lowercase d)) (two_bits_of d) (agree_below_at (λ x. two_bits_of (to_ascii_lowercase x) == two_bits_of x) (λ _. true) 256 d refl fit)

code_digit : (c : ℕ) → c < 4 → two_bits_of (digit_of c) ≡ c
code_digit zero h = refl
code_digit (suc zero) h = refl
code_digit (suc (suc zero)) h = refl
code_digit (suc (suc (suc zero))) h = refl
code_digit (suc (suc (suc (suc c)))) h = absurd (omega arith)

-- a digit this many places before the last, of values that are the same
pub end_digit : (ds text : List ℕ) (size back d : ℕ) → back < length ds → back < length text
    → extend ds size ≡ extend (str_to_ascii_lowercase text) size → slice_get ds (length ds - 1 - back) ≡ Some d
    → d ≡ to_ascii_lowercase (get_or text (length text - 1 - back) 0)
end_digit ds text size back d few less e at =
    let lower = str_to_ascii_lowercase text in
    let n = length text - 1 - back in
    let m = length-map text to_ascii_lowercase in
    let s = same_from_last ds lower size back few (omega (arith, m)) e in
    let j : length lower - 1 - back ≡ n = omega (arith, m) in
    let y = ap (slice_get lower) j ∙ slice_get-map to_ascii_lowercase text n ∙ ap (option_map to_ascii_lowercase) (slice_get-get_or text n 0 (omega arith)) in
    let same : Some d ≡ Some (to_ascii_lowercase (get_or text n 0)) = sym at ∙ s ∙ y in
    cc same

-- its code
end_code : (ds text : List ℕ) (size back d : ℕ) → back < length ds → back < length text → ((i : ℕ) → Fits w8 (get_or text i 0))
    → extend ds size ≡ extend (str_to_ascii_lowercase text) size → slice_get ds (length ds - 1 - back) ≡ Some d
    → two_bits_of d ≡ two_bits_of (get_or text (length text - 1 - back) 0)
end_code ds text size back d few less fits e at =
    let n = length text - 1 - back in
    ap two_bits_of (end_digit ds text size back d few less e at) ∙ code_lower (get_or text n 0) (fits n).fits

-- so it is of packed digits
pub ends_same : (share text : List ℕ) (len q back size : ℕ) → q ≡ quarter_of len → back < q → back < length text
    → ((i : ℕ) → Fits w8 (get_or share i 0)) → ((i : ℕ) → Fits w8 (get_or text i 0))
    → extend (digits_in len share) size ≡ extend (str_to_ascii_lowercase text) size
    → get_or share (q - 1 - back) 0 / 64 ≡ two_bits_of (get_or text (length text - 1 - back) 0)
ends_same share text len q back size is few less bytes fits e =
    let l = length_digits len share in
    let p = len - 1 - back in
    let y = get_or share (q - 1 - back) 0 in
    let fit : y < 256 = (bytes (q - 1 - back)).fits in
    let enough : q ≤ len = omega (arith, is) in
    let i : length (digits_in len share) - 1 - back ≡ p = omega (arith, l) in
    let j : p - (len - quarter_of len) ≡ q - 1 - back = omega (arith, is, few, enough) in
    let c : two_bits_at len share p ≡ y / 64 = in_last len share p (omega (arith, is, few, enough)) ∙ ap (λ (n : ℕ). get_or share n 0 / 64) j in
    let at = ap (slice_get (digits_in len share)) i ∙ digit_among len share p (omega (arith, enough, few)) ∙ ap (λ (n : ℕ). Some (digit_of n)) c in
    sym (code_digit (y / 64) (omega (arith, fit))) ∙ end_code (digits_in len share) text size back (digit_of (y / 64)) (omega (arith, l, enough, few)) less fits e at
