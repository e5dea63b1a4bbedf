-- Eight digits as lanes.
use Rattle.vcd_text.proofs.Cited.{◌≡◌, ◌≢◌, ℕ, zero, suc, ◌+◌, ◌-◌, ◌*◌, ◌%◌, ◌^◌, ◌≤◌, nat_lt, Bool, true, false, cond, not, bit_and, List, [], ◌∷◌, ◌++◌, map, length, take, drop, w8, refl, sym, ap, ap₂, ◌∙◌, arith, length-append, slice_range, list_all, is_ascii_digit, and_from, and_parts, drop-take, drop-drop, and_mask, length-replicate, zip2_of_maps, zip2_splat, splat_is_map, and_zero_r, chunk, mask_l, top, fold_l, zip2, Each1, decimal_value, spelled, KEPT}
use Rattle.std.proofs.Common.{replicate, Fits}
use Rattle.std.proofs.lemmas.List.{length-drop}
use Rattle.vcd_text.proofs.Digits.{digit_bounds}
use Rattle.vcd_text.proofs.Masks.{masked}

not_none : (n m : ℕ) → n ≡ 1 → n + 2 * m ≡ 0 → ⊥
not_none n m e h = omega arith

-- if no bit is set, each lane passes
none_set : (v : List ℕ) → mask_l (map (λ x. not (is_ascii_digit x)) v) ≡ 0 → list_all is_ascii_digit v ≡ true
none_set [] e = refl
none_set (x ∷ v) e = by_test (is_ascii_digit x) (none_set v) refl e
  where
    by_test : (b : Bool) → (mask_l (map (λ x. not (is_ascii_digit x)) v) ≡ 0 → list_all is_ascii_digit v ≡ true) → is_ascii_digit x ≡ b
        → cond (not (is_ascii_digit x)) 1 0 + 2 * mask_l (map (λ x. not (is_ascii_digit x)) v) ≡ 0 → list_all is_ascii_digit (x ∷ v) ≡ true
    by_test true rest is none = and_from (is_ascii_digit x) (list_all is_ascii_digit v) is (rest (omega arith))
    by_test false rest is none = (let one : cond (not (is_ascii_digit x)) 1 0 ≡ 1 = ap (λ b. cond (not b) 1 0) is in absurd (not_none _ _ one none))

abbrev above_9 : ℕ → ℕ
above_9 x = cond (nat_lt 9 ((x + (2 ^ 8 - 48)) % 2 ^ 8)) 255 0

-- a lane is above 9 if its byte is no digit
pub all_digits : (v : List ℕ) → length v ≡ 8 → Each1 (Fits w8) v
    → mask_l (map (top 7) (zip2 (λ a b. cond (nat_lt a b) 255 0) (replicate 8 9) (zip2 (λ x y. (x + (2 ^ 8 - y)) % 2 ^ 8) v (replicate 8 48))))
    % 2 ^ 64 ≡ 0
    → list_all is_ascii_digit v ≡ true
all_digits v long fits none =
    none_set v (sym (masked above_9 (λ x. not (is_ascii_digit x)) v _ (omega arith) fits
    (zip2_of_maps (λ a b. cond (nat_lt a b) 255 0) _ _ v (splat_is_map v 8 9 long) (zip2_splat (λ x y. (x + (2 ^ 8 - y)) % 2 ^ 8) v 8 48 long))
    refl) ∙ none)

set_none : (v : List ℕ) → list_all is_ascii_digit v ≡ true → mask_l (map (λ x. not (is_ascii_digit x)) v) ≡ 0
set_none [] all = refl
set_none (x ∷ v) all =
    let parts = and_parts (is_ascii_digit x) (list_all is_ascii_digit v) all in
    rw (parts.0, set_none v parts.1) refl

pub no_digits : (v : List ℕ) → length v ≡ 8 → Each1 (Fits w8) v
    → mask_l (map (top 7) (zip2 (λ a b. cond (nat_lt a b) 255 0) (replicate 8 9) (zip2 (λ x y. (x + (2 ^ 8 - y)) % 2 ^ 8) v (replicate 8 48))))
    % 2 ^ 64 ≢ 0
    → list_all is_ascii_digit v ≡ false
no_digits v long fits some = by_test (list_all is_ascii_digit v) refl
  where
    by_test : (b : Bool) → list_all is_ascii_digit v ≡ b → list_all is_ascii_digit v ≡ false
    by_test false e = e
    by_test true e = absurd (some (masked above_9 (λ x. not (is_ascii_digit x)) v _ (omega arith) fits
        (zip2_of_maps (λ a b. cond (nat_lt a b) 255 0) _ _ v (splat_is_map v 8 9 long) (zip2_splat (λ x y. (x + (2 ^ 8 - y)) % 2 ^ 8) v 8 48 long))
        refl ∙ set_none v e))

lanes_are : (v : List ℕ) → list_all is_ascii_digit v ≡ true → map (λ x. (x + (2 ^ 8 - 48)) % 2 ^ 8) v ≡ map (λ x. x - 48) v
lanes_are [] all = refl
lanes_are (x ∷ v) all =
    let parts = and_parts (is_ascii_digit x) (list_all is_ascii_digit v) all in
    let low = digit_bounds x parts.0 in
    ap₂ (λ a b. a ∷ b) (omega arith) (lanes_are v parts.1)

abbrev pub worth : List ℕ
worth = 10000000 ∷ 1000000 ∷ 100000 ∷ 10000 ∷ 1000 ∷ 100 ∷ 10 ∷ 1 ∷ []

sum_is : (v : List ℕ) → length v ≡ 8 → decimal_value v ≡ fold_l (λ s x. s + x) 0 (zip2 (λ x y. x * y) (map (λ x. x) (map (λ x. x - 48) v)) worth)
sum_is (a ∷ b ∷ c ∷ d ∷ e ∷ f ∷ g ∷ h ∷ []) long = omega arith
sum_is v long = absurd (omega arith)

pub lanes_value : (v : List ℕ) → length v ≡ 8 → list_all is_ascii_digit v ≡ true
    → decimal_value v ≡ fold_l (λ s x. s + x) 0 (zip2 (λ x y. x * y) (map (λ x. x) (zip2 (λ x y. (x + (2 ^ 8 - y)) % 2 ^ 8) v (replicate 8 48))) worth)
lanes_value v long all = sum_is v long ∙ ap (λ l. fold_l (λ s x. s + x) 0 (zip2 (λ x y. x * y) (map (λ x. x) l) worth))
    (sym (zip2_splat (λ x y. (x + (2 ^ 8 - y)) % 2 ^ 8) v 8 48 long ∙ lanes_are v all))

-- ---- the last n of eight lanes, with zeros before them

-- the last bytes of v, with digits 0 for the first m
abbrev pub padded : ℕ → List ℕ → List ℕ
padded m v = replicate m 48 ++ drop m v

pub length-padded : (m : ℕ) (v : List ℕ) → m ≤ length v → length (padded m v) ≡ length v
length-padded m v le = omega (arith, length-append (replicate m 48) (drop m v), length-replicate {A = ℕ} m 48, length-drop m v)

pub fits-padded : (m : ℕ) (v : List ℕ) → m ≤ length v → Each1 (Fits w8) v → Each1 (Fits w8) (padded m v)
fits-padded zero v le fits = fits
fits-padded (suc m) [] le fits = absurd (omega arith)
fits-padded (suc m) (x ∷ v) le fits = (record { fits = omega arith }, fits-padded m v (omega arith) fits.1)

digits-padded : (m : ℕ) (v : List ℕ) → m ≤ length v → list_all is_ascii_digit (padded m v) ≡ list_all is_ascii_digit (drop m v)
digits-padded zero v le = refl
digits-padded (suc m) [] le = absurd (omega arith)
digits-padded (suc m) (x ∷ v) le = digits-padded m v (omega arith)

value-padded : (m : ℕ) (v : List ℕ) → m ≤ length v → decimal_value (padded m v) ≡ decimal_value (drop m v)
value-padded zero v le = refl
value-padded (suc m) [] le = absurd (omega arith)
value-padded (suc m) (x ∷ v) le = omega (arith, value-padded m v (omega arith))

-- what they spell is what the last bytes spell
pub spelled-padded : (m : ℕ) (v ds : List ℕ) → m ≤ length v → drop m v ≡ ds → spelled (padded m v) ≡ spelled ds
spelled-padded m v ds le e = rw (digits-padded m v le, value-padded m v le, e) refl

abbrev less : ℕ → ℕ
less x = (x + (2 ^ 8 - 48)) % 2 ^ 8

-- lanes that are cleared, and then some that are kept
cleared : (m k : ℕ) (xs : List ℕ) → m + k ≡ length xs → zip2 bit_and (map less xs) (replicate m 0 ++ replicate k 255) ≡ map less (padded m xs)
cleared zero zero [] e = refl
cleared zero (suc k) [] e = absurd (omega arith)
cleared (suc m) k [] e = absurd (omega arith)
cleared zero zero (x ∷ xs) e = absurd (omega arith)
cleared zero (suc k) (x ∷ xs) e = ap₂ (λ a b. a ∷ b) (and_mask (less x) 8 ∙ (omega arith)) (cleared zero k xs (omega arith))
cleared (suc m) k (x ∷ xs) e = ap₂ (λ a b. a ∷ b) (and_zero_r (less x)) (cleared m k xs (omega arith))

kept_lanes : (n : ℕ) → n ≤ 8 → take 8 (take (16 - n) (drop n KEPT)) ≡ replicate (8 - n) 0 ++ replicate n 255
kept_lanes zero h = refl
kept_lanes (suc zero) h = refl
kept_lanes (suc (suc zero)) h = refl
kept_lanes (suc (suc (suc zero))) h = refl
kept_lanes (suc (suc (suc (suc zero)))) h = refl
kept_lanes (suc (suc (suc (suc (suc zero))))) h = refl
kept_lanes (suc (suc (suc (suc (suc (suc zero)))))) h = refl
kept_lanes (suc (suc (suc (suc (suc (suc (suc zero))))))) h = refl
kept_lanes (suc (suc (suc (suc (suc (suc (suc (suc zero)))))))) h = refl
kept_lanes (suc (suc (suc (suc (suc (suc (suc (suc (suc n))))))))) h = absurd (omega arith)

-- so the lanes are those of the padded bytes
pub lanes_kept : (n : ℕ) (v : List ℕ) → n ≤ 8 → length v ≡ 8
    → zip2 bit_and (zip2 (λ x y. (x + (2 ^ 8 - y)) % 2 ^ 8) v (replicate 8 48)) (take 8 (take (16 - n) (drop n KEPT))) ≡ zip2
    (λ x y. (x + (2 ^ 8 - y)) % 2 ^ 8) (padded (8 - n) v) (replicate 8 48)
lanes_kept n v few long =
    ap₂ (zip2 bit_and) (zip2_splat (λ x y. (x + (2 ^ 8 - y)) % 2 ^ 8) v 8 48 long) (kept_lanes n few)
    ∙ cleared (8 - n) n v (omega arith)
    ∙ sym (zip2_splat (λ x y. (x + (2 ^ 8 - y)) % 2 ^ 8) (padded (8 - n) v) 8 48 (length-padded (8 - n) v (omega arith) ∙ long))

-- the last n of the eight bytes before an offset
pub last_of_eight : (bytes : List ℕ) (to n : ℕ) → 8 ≤ to → n ≤ 8 → drop (8 - n) (chunk (to - 8) 8 bytes) ≡ slice_range bytes (to - n) to
last_of_eight bytes to n le few =
    let all : 8 ≡ 8 - n + n = omega arith in
    let size : n ≡ to - (to - n) = omega arith in
    ap (λ m. drop (8 - n) (take m (drop (to - 8) bytes))) all ∙ drop-take (8 - n) n (drop (to - 8) bytes)
    ∙ ap (take n) (drop-drop (8 - n) (to - 8) bytes ∙ ap (λ k. drop k bytes) (omega arith))
    ∙ ap (λ m. take m (drop (to - n) bytes)) size
