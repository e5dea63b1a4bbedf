-- Codes of digits as lanes of a vector.
use Rattle.vcd_body.proofs.Cited.{◌≡◌, ℕ, ◌+◌, ◌*◌, ◌/◌, ◌%◌, ◌^◌, ◌<◌, ◌≤◌, ◌==◌, suc, T, ltb, ltb→lt, true, false, cond, List, [], ◌∷◌, length, map, get_or, replicate, Fits, w8, refl, sym, subst, ap, ap₂, ◌∙◌, arith, agree_below_at, eqb-true, get_or-map, length-map, get_or-chunk, get_or-zip2, length-chunk, length-zip2, swz_l, SwzOk, SwzOk-from_below, zip2_splat, bit_and, chunk, zip2, Each1, zeroes, two_bits_of, two_bits_or, shifted, TWO_BITS}
use Rattle.vcd_body.proofs.PackedLemmas.{in_text, or_small}

abbrev pub added : ℕ → ℕ → ℕ
added a b = (a + b) % 256

-- ---- the codes of a load, by the lowest four bits of each byte

abbrev low_bits : ℕ → ℕ
low_bits x = bit_and x 15

low : (x : ℕ) → x < 256 → low_bits x < 16
low x fit = ltb→lt (low_bits x) 16 (subst T (sym (agree_below_at (λ y. ltb (low_bits y) 16) (λ _. true) 256 x refl fit)) tt)

all_low : (v : List ℕ) → Each1 (Fits w8) v → Each1 (λ j. j < 16) (map low_bits v)
all_low [] fits = tt
all_low (x ∷ xs) fits = (low x fits.0.fits, all_low xs fits.1)

pub places_of_lanes : (v : List ℕ) → length v ≡ 16 → Each1 (Fits w8) v → SwzOk w8 16 16 0 (zip2 bit_and v (replicate 16 15))
places_of_lanes v long fits = subst (λ js. SwzOk w8 16 16 0 js) (sym (zip2_splat bit_and v 16 15 long))
    (SwzOk-from_below w8 16 1 16 0 (map low_bits v) refl (omega (arith, length-map v low_bits, long)) (all_low v fits))

-- what a look-up finds for a byte in the table of codes that are moved to the left
look : (s x : ℕ) → x < 256 → cond (zeroes 16 w8 (low_bits x)) 0 (get_or (map (shifted s) TWO_BITS) (low_bits x) 0) ≡ shifted s (two_bits_of x)
look s x fit =
    ap (λ t. cond t 0 (get_or (map (shifted s) TWO_BITS) (low_bits x) 0)) (agree_below_at (λ y. zeroes 16 w8 (low_bits y)) (λ _. false) 256 x refl fit)
    ∙ get_or-map (shifted s) TWO_BITS (low_bits x) 0 0 (low x fit)
    ∙ ap (shifted s) (eqb-true (get_or TWO_BITS (low_bits x) 0) (two_bits_of x) (agree_below_at (λ y. get_or TWO_BITS (low_bits y) 0 == two_bits_of y) (λ _. true) 256 x refl fit))

looked : (s i : ℕ) (v : List ℕ) → i + length v ≤ 16 → Each1 (Fits w8) v → swz_l w8 16 (map (shifted s) TWO_BITS) i (map low_bits v) ≡ map (λ d. shifted s (two_bits_of d)) v
looked s i [] few fits = refl
looked s i (x ∷ xs) few fits =
    let first : 16 * (i / 16) + low_bits x ≡ low_bits x = omega arith in
    ap₂ (λ (a : ℕ) (b : List ℕ). a ∷ b) (ap (λ j. cond (zeroes 16 w8 (low_bits x)) 0 (get_or (map (shifted s) TWO_BITS) j 0)) first
    ∙ look s x fits.0.fits) (looked s (suc i) xs (omega arith) fits.1)

pub codes_of_lanes : (s : ℕ) (v : List ℕ) → length v ≡ 16 → Each1 (Fits w8) v
    → swz_l w8 16 (zip2 (λ a b. a * 2 ^ b % 256) TWO_BITS (replicate 16 s)) 0 (zip2 bit_and v (replicate 16 15)) ≡ map
    (λ d. shifted s (two_bits_of d)) v
codes_of_lanes s v long fits =
    ap (λ t. swz_l w8 16 t 0 (zip2 bit_and v (replicate 16 15))) (zip2_splat (λ a b. a * 2 ^ b % 256) TWO_BITS 16 s refl)
    ∙ ap (λ js. swz_l w8 16 (map (shifted s) TWO_BITS) 0 js) (zip2_splat bit_and v 16 15 long) ∙ looked s 0 v (omega arith) fits

-- ---- a sum of the codes of four loads

abbrev lanes : ℕ → ℕ → List ℕ → List ℕ
lanes s at text = map (λ d. shifted s (two_bits_of d)) (chunk at 16 text)

long_lanes : (s at : ℕ) (text : List ℕ) → at + 16 ≤ length text → length (lanes s at text) ≡ 16
long_lanes s at text room = length-map (chunk at 16 text) (λ d. shifted s (two_bits_of d)) ∙ length-chunk at 16 text room

code_lane : (s at k : ℕ) (text : List ℕ) → at + 16 ≤ length text → k < 16 → get_or (lanes s at text) k 0 ≡ shifted s (two_bits_or text (at + k))
code_lane s at k text room less =
    let long = length-chunk at 16 text room in
    get_or-map (λ d. shifted s (two_bits_of d)) (chunk at 16 text) k 0 0 (omega (arith, long, less))
    ∙ ap (λ d. shifted s (two_bits_of d)) (get_or-chunk at 16 text k 0 less) ∙ ap (shifted s) (sym (in_text text (at + k) (omega arith)))

module _ (text : List ℕ) (a b d e : ℕ) (ra : a + 16 ≤ length text) (rb : b + 16 ≤ length text) (rd : d + 16 ≤ length text) (re : e + 16 ≤ length text) where
  abbrev two : List ℕ
  two = zip2 added (lanes 0 a text) (lanes 2 b text)

  abbrev three : List ℕ
  three = zip2 added two (lanes 4 d text)

  long_two : length two ≡ 16
  long_two = length-zip2 added (lanes 0 a text) (lanes 2 b text) (long_lanes 0 a text ra ∙ sym (long_lanes 2 b text rb)) ∙ long_lanes 0 a text ra

  long_three : length three ≡ 16
  long_three = length-zip2 added two (lanes 4 d text) (long_two ∙ sym (long_lanes 4 d text rd)) ∙ long_two

  pub four_long : length (zip2 added three (lanes 6 e text)) ≡ 16
  four_long = length-zip2 added three (lanes 6 e text) (long_three ∙ sym (long_lanes 6 e text re)) ∙ long_three

  pub four_lanes : (k : ℕ) → k < 16 → get_or (zip2 added three (lanes 6 e text)) k 0 ≡ two_bits_or text (a + k) + 4 * two_bits_or text
      (b + k) + 16 * two_bits_or text (d + k) + 64 * two_bits_or text (e + k)
  four_lanes k less =
      let p = get_or-zip2 added (lanes 0 a text) (lanes 2 b text) k 0 0 0 (omega (arith, long_lanes 0 a text ra, less)) (omega (arith, long_lanes 2 b text rb, less)) in
      let q = get_or-zip2 added two (lanes 4 d text) k 0 0 0 (omega (arith, long_two, less)) (omega (arith, long_lanes 4 d text rd, less)) in
      get_or-zip2 added three (lanes 6 e text) k 0 0 0 (omega (arith, long_three, less)) (omega (arith, long_lanes 6 e text re, less))
      ∙ omega (
        arith,
        p,
        q,
        code_lane 0 a k text ra less,
        code_lane 2 b k text rb less,
        code_lane 4 d k text rd less,
        code_lane 6 e k text re less,
        or_small text (a + k),
        or_small text (b + k),
        or_small text (d + k),
        or_small text (e + k),
      )
