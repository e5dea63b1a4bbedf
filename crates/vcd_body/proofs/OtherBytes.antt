-- A mask of the bytes that are another one, and digits that are left out where they are not.
use Rattle.vcd_body.proofs.Cited.{◌≡◌, ◌≢◌, ℕ, zero, suc, ◌+◌, ◌<◌, ◌≤◌, ◌%◌, ◌^◌, ◌==◌, ◌⊎◌, inl, inr, Bool, true, false, cond, not, List, [], ◌∷◌, length, map, replicate, drop, get_or, w8, refl, sym, ap, ap₂, ◌∙◌, arith, slice_index, to_ascii_lowercase, bit_at, str_to_ascii_lowercase, agree_below_at, eq-eqb, eqb-true, ne_eqb, get_or-map, get_or-replicate, length-map, length-replicate, bit_mask_l, get_or-chunk, get_or-zip2, length-chunk, length-zip2, mask_l-mod, tops_compared, chunk, mask_l, top, zip2, extension, AreBinary, Serves}
use Rattle.vcd_body.proofs.Shortest.{lead_out, one_of_two}

pub differ_bit : (xs ys : List ℕ) (n : ℕ) → length xs ≡ n → length ys ≡ n → n ≤ 64 → (k : ℕ) → k < n
    → bit_at (mask_l (map (top 7) (zip2 (λ x y. cond (not (x == y)) 255 0) xs ys)) % 2 ^ 64) k ≡ cond {A = ℕ} (not (get_or xs k 0 == get_or ys k 0)) 1 0
differ_bit xs ys n a b few k less =
    let p : ℕ → ℕ → Bool = λ x y. not (x == y) in
    let ms = zip2 p xs ys in
    let long = length-zip2 p xs ys (a ∙ sym b) in
    let mask = ap (λ l. mask_l l % 2 ^ 64) (tops_compared w8 p xs ys) ∙ mask_l-mod ms 64 (omega (arith, long, a)) in
    let at = get_or-zip2 p xs ys k 0 0 false (omega (arith, a, less)) (omega (arith, b, less)) in
    ap (λ m. bit_at m k) mask ∙ bit_mask_l ms k ∙ ap (λ (t : Bool). cond {A = ℕ} t 1 0) at

pub others_bit : (b : ℕ) (xs : List ℕ) (i n : ℕ) → i + n ≤ length xs → n ≤ 64 → (k : ℕ) → k < n
    → bit_at (mask_l (map (top 7) (zip2 (λ x y. cond (not (x == y)) 255 0) (chunk i n xs) (replicate n b))) % 2 ^ 64) k ≡ cond {A = ℕ} (not (slice_index xs (i + k) == b)) 1 0
others_bit b xs i n room few k less =
    differ_bit (chunk i n xs) (replicate n b) n (length-chunk i n xs room) (length-replicate n b) few k less
    ∙ ap₂ (λ x y. cond {A = ℕ} (not (x == y)) 1 0) (get_or-chunk i n xs k 0 less) (get_or-replicate n k b 0 less)

-- its bits tell
pub clear_is : (x b : ℕ) {bit : ℕ} → bit ≡ cond {A = ℕ} (not (x == b)) 1 0 → bit ≡ 0 → x ≡ b
clear_is x b is none = by_test (x == b) refl (sym is ∙ none)
  where
    by_test : (t : Bool) → (x == b) ≡ t → cond {A = ℕ} (not t) 1 0 ≡ 0 → x ≡ b
    by_test true e h = eqb-true x b e
    by_test false e h = absurd (omega (arith, h))

pub set_is : (x b : ℕ) {bit : ℕ} → bit ≡ cond {A = ℕ} (not (x == b)) 1 0 → bit ≡ 1 → x ≢ b
set_is x b is set same =
    let t : (x == b) ≡ true = eq-eqb x b same in
    let one = sym (ap (λ (r : Bool). cond {A = ℕ} (not r) 1 0) t) ∙ sym is ∙ set in
    absurd (omega (arith, one))

pub off : (b : Bool) → not b ≡ true → b ≡ false
off true h = cc
off false h = refl

-- ---- digits that are 0 and 1 alone

binary_lower : (d : ℕ) → (d ≡ 48) ⊎ (d ≡ 49) → to_ascii_lowercase d ≡ d
binary_lower d (inl e) = rw e refl
binary_lower d (inr e) = rw e refl

-- some last ones are in lower case
pub lower_behind : (k : ℕ) (l : List ℕ) → AreBinary l → str_to_ascii_lowercase (drop k l) ≡ drop k l
lower_behind zero [] two = refl
lower_behind zero (d ∷ l) two =
    let here = binary_lower d (one_of_two d (two 0 (omega arith))) in
    let others = lower_behind zero l (λ j less. two (suc j) (omega arith)) in
    rw (here, others) refl
lower_behind (suc k) [] two = refl
lower_behind (suc k) (d ∷ l) two = lower_behind k l (λ j less. two (suc j) (omega arith))

-- ---- digits that begin with one several times

-- one that is no 1 extends itself
again : (d : ℕ) → d < 256 → d ≢ 49 → to_ascii_lowercase d ≡ extension (to_ascii_lowercase d ∷ [])
again d fit other =
    let same = agree_below_at (λ x. to_ascii_lowercase x == 49) (λ x. x == 49) 256 d refl fit in
    sym (ap (λ (t : Bool). cond t 48 (to_ascii_lowercase d)) (same ∙ ne_eqb d 49 other))

-- all but the last of them are left out
pub same_lead : (k d : ℕ) (l : List ℕ) → k < length l → ((j : ℕ) → j ≤ k → get_or l j 0 ≡ d) → d < 256 → d ≢ 49 → Serves k (str_to_ascii_lowercase l)
same_lead k d l less same fit other =
    let m = length-map l to_ascii_lowercase in
    let at : (j : ℕ) → j ≤ k → get_or (str_to_ascii_lowercase l) j 0 ≡ to_ascii_lowercase d = λ j le. get_or-map to_ascii_lowercase l j 0 0
    (omega (arith, le, less)) ∙ ap to_ascii_lowercase (same j le) in
    lead_out k (str_to_ascii_lowercase l) (omega (arith, less, m)) (λ j few. at j (omega (arith, few)) ∙ again d fit other
    ∙ ap (λ x. extension (x ∷ [])) (sym (at (j + 1) (omega (arith, few)))))
