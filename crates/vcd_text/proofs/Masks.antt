-- A mask of lanes says which bytes are white.
use Rattle.vcd_text.proofs.Cited.{◌≡◌, ◌≢◌, ℕ, zero, suc, ◌+◌, ◌-◌, ◌*◌, ◌/◌, ◌%◌, ◌^◌, ◌||◌, T, eqb, ltb, ltb→lt, eqb-true, bit_and, ◌<◌, ◌≤◌, nat_le, inl, inr, Bool, true, false, cond, List, [], ◌∷◌, map, length, drop, get_or, count_by, w8, refl, sym, ap, ap₂, subst, ◌∙◌, arith, agree_below, agree_below_at, cases_lt, cases_order, nat_tests, mask_l-mod, bit_mask_l, length-chunk, get_or-chunk, length-zip2, sum-zip2, swz_l, SwzOk, SwzOk-from_Each1, length-swz_l, get_or-swz_l, length-map, get_or-map, get_or_past, ext_get_or, bit_at, bit_at-zero, chunk, mask_l, sel_l, sum_l, top, zip2, Each1, replicate, zeroes, mul_comm, zero-div, div-one, div-div-eq-div-mul, sum_by-cons, is_white_space, TellsWhite, BitsAreWhite, White}
use Rattle.std.proofs.Common.{Fits}
use native.Mathlib.Nat.{pow-suc}

each_byte : (f : ℕ → ℕ) (p : ℕ → Bool) → agree_below (λ x. top 7 (f x)) p 256 ≡ true → (v : List ℕ) → Each1 (Fits w8) v → map (top 7) (map f v) ≡ map p v
each_byte f p all [] fits = refl
each_byte f p all (x ∷ xs) fits = ap₂ (λ a b. a ∷ b) (agree_below_at (λ y. top 7 (f y)) p 256 x all fits.0.fits) (each_byte f p all xs fits.1)

-- the mask of lanes that were computed from v by f, whose top bits say whether p holds
pub masked : (f : ℕ → ℕ) (p : ℕ → Bool) (v z : List ℕ) → length v ≤ 64 → Each1 (Fits w8) v → z ≡ map f v → agree_below (λ x. top 7 (f x)) p 256 ≡ true
    → mask_l (map (top 7) z) % 2 ^ 64 ≡ mask_l (map p v)
masked f p v z short fits e all =
    ap (λ l. mask_l l % 2 ^ 64) (ap (map (top 7)) e ∙ each_byte f p all v fits) ∙ mask_l-mod (map p v) 64 (omega (arith, length-map v p))

one : (b : Bool) → cond {A = ℕ} b 1 0 ≡ 1 → b ≡ true
one true e = refl
one false e = absurd (omega arith)

zero-is : (b : Bool) → cond {A = ℕ} b 1 0 ≡ 0 → b ≡ false
zero-is true e = absurd (omega arith)
zero-is false e = refl

zero-one : ◌≡◌ {A = ℕ} 0 1 → ⊥
zero-one e = omega arith

beyond : (ms : List Bool) (k : ℕ) → length ms ≤ k → get_or ms k false ≡ false
beyond ms k le = get_or_past ms k false le

-- the mask of the lanes of a load that p holds of
module _ (p : ℕ → Bool) (xs : List ℕ) (i n mask : ℕ) (room : i + n ≤ length xs) (is : mask ≡ mask_l (map p (chunk i n xs))) where
  bit-is : (k : ℕ) → bit_at mask k ≡ cond (get_or (map p (chunk i n xs)) k false) 1 0
  bit-is k = ap (λ m. bit_at m k) is ∙ bit_mask_l (map p (chunk i n xs)) k

  lane-is : (k : ℕ) → k < n → get_or (map p (chunk i n xs)) k false ≡ p (get_or xs (i + k) 0)
  lane-is k lt = get_or-map p (chunk i n xs) k 0 false (omega (arith, length-chunk i n xs room)) ∙ ap p (get_or-chunk i n xs k 0 lt)

  pub set-inside : (k : ℕ) → bit_at mask k ≡ 1 → k < n
  set-inside k set = elim (cases_lt k n) [
    | inl lt ↦ lt
    | inr le ↦ absurd (zero-one (ap (λ b. cond b 1 0) (sym (beyond (map p (chunk i n xs)) k (omega (arith, length-map (chunk i n xs) p, length-chunk i n xs room)))) ∙ (sym (bit-is k) ∙ set)))
  ]

  pub set-is : (k : ℕ) → bit_at mask k ≡ 1 → p (get_or xs (i + k) 0) ≡ true
  set-is k set = sym (lane-is k (set-inside k set)) ∙ one _ (sym (bit-is k) ∙ set)

  pub clear-is : (k : ℕ) → k < n → bit_at mask k ≡ 0 → p (get_or xs (i + k) 0) ≡ false
  clear-is k lt none = sym (lane-is k lt) ∙ zero-is _ (sym (bit-is k) ∙ none)

-- a load's mask
pub tells : (xs : List ℕ) (i n : ℕ) (f : ℕ → ℕ) (z : List ℕ) → i + n ≤ length xs → n ≤ 64 → Each1 (Fits w8) (chunk i n xs) → z ≡ map f (chunk i n xs)
    → agree_below (λ x. top 7 (f x)) is_white_space 256 ≡ true
    → TellsWhite xs i n (mask_l (map (top 7) z) % 2 ^ 64)
tells xs i n f z room few fits e all =
    let is = masked f is_white_space (chunk i n xs) z (omega (arith, length-chunk i n xs room)) fits e all in
    record {
      inside = set-inside is_white_space xs i n _ room is;
      white = set-is is_white_space xs i n _ room is;
      other = clear-is is_white_space xs i n _ room is;
    }

-- a byte above the space is not white
pub above_space : (b : ℕ) → nat_le b 32 ≡ false → is_white_space b ≡ false
above_space b e = grind (arith, nat_tests)

pub no_bits : (mask k : ℕ) → mask ≡ 0 → bit_at mask k ≡ 0
no_bits mask k e = ap (λ m. bit_at m k) e ∙ bit_at-zero k

-- ---- the white bytes of a look ahead

abbrev pub bits-of : ℕ → ℕ → White
bits-of bits next = record { bits = bits; next = next }

-- if no bit is set, the bytes before `next` are others
pub bits-none : (chunk : List ℕ) (at stop : ℕ) (w : White) → w.bits ≡ 0 → BitsAreWhite chunk at stop w → (j : ℕ) → at ≤ j → j < w.next
    → is_white_space (get_or chunk j 0) ≡ false
bits-none chunk at stop w e m j le lt = m.other j le lt (λ _. no_bits w.bits (j + 64 - w.next) e)

-- the first set bit is where the token at `at` ends
pub bits-before : (chunk : List ℕ) (at stop : ℕ) (w : White) (bit d : ℕ) → BitsAreWhite chunk at stop w → bit_at w.bits bit ≡ 1
    → ((k : ℕ) → k < bit → bit_at w.bits k ≡ 0) → d ≡ w.next + bit - 64 - at
    → (k : ℕ) → k < d → is_white_space (get_or chunk (at + k) 0) ≡ false
bits-before chunk at stop w bit d m set below is k lt =
    let a = m.ahead bit set in
    let i = m.inside bit set in
    m.other (at + k) (omega arith) (omega arith) (λ h. below (at + k + 64 - w.next) (omega arith))

pub bits-at : (chunk : List ℕ) (at stop : ℕ) (w : White) (bit d : ℕ) → BitsAreWhite chunk at stop w → bit_at w.bits bit ≡ 1
    → d ≡ w.next + bit - 64 - at → is_white_space (get_or chunk (at + d) 0) ≡ true
bits-at chunk at stop w bit d m set is =
    let a = m.ahead bit set in
    let e : w.next + bit - 64 ≡ at + d = omega arith in
    subst (λ j. is_white_space (get_or chunk j 0) ≡ true) e (m.white bit set)

-- and after it come the other bits
pub bits-on : (chunk : List ℕ) (at at' stop : ℕ) (w : White) (bit mask : ℕ) → BitsAreWhite chunk at stop w → bit_at w.bits bit ≡ 1 → ((k : ℕ) → k < bit → bit_at w.bits k ≡ 0)
    → ((k : ℕ) → k < 64 → k ≢ bit → bit_at mask k ≡ bit_at w.bits k) → ((k : ℕ) → bit_at mask k ≡ 1 → bit_at w.bits k ≡ 1) → bit_at mask bit ≡ 0
    → at' + 63 ≡ w.next + bit
    → BitsAreWhite chunk at' stop (bits-of mask w.next)
bits-on chunk at at' stop w bit mask m set below kept no_more gone is =
    let a = m.ahead bit set in
    let i = m.inside bit set in
    record {
      within = m.within;
      ahead = λ k h. (let old = no_more k h in elim (cases_order k bit) [
        | inl same ↦ absurd (zero-one (sym gone ∙ (ap (bit_at mask) (sym same) ∙ h)))
        | inr (inl lt) ↦ absurd (zero-one (sym (below k lt) ∙ old))
        | inr (inr gt) ↦ omega arith
      ]);
      inside = λ k h. m.inside k (no_more k h);
      white = λ k h. m.white k (no_more k h);
      other = λ j le lt none. m.other j (omega arith) lt (λ h. sym (kept (j + 64 - w.next) (omega arith) (omega arith)) ∙ none h);
    }

-- a load with no white byte
pub tells-none : (chunk : List ℕ) (at next mask : ℕ) → ((j : ℕ) → at ≤ j → j < next → is_white_space (get_or chunk j 0) ≡ false) → TellsWhite chunk next 64 mask → mask ≡ 0
    → (j : ℕ) → at ≤ j → j < next + 64 → is_white_space (get_or chunk j 0) ≡ false
tells-none chunk at next mask front t e j le lt = elim (cases_lt j next) [
  | inl early ↦ front j le early
  | inr late ↦ (let back : next + (j - next) ≡ j = omega arith in
      subst (λ i. is_white_space (get_or chunk i 0) ≡ false) back (t.other (j - next) (omega arith) (no_bits mask (j - next) e)))
]

-- lanes of 1 if p holds, and 0 elsewhere
abbrev pub ones : (ℕ → Bool) → List ℕ → List ℕ
ones p v = map (λ x. cond (p x) 1 0) v

pub ones-sel : (p : ℕ → Bool) (v : List ℕ) (n : ℕ) → length v ≡ n → sel_l {A = ℕ} (map p v) (replicate n 1) (replicate n 0) ≡ ones p v
ones-sel p [] n e = refl
ones-sel p (x ∷ xs) zero e = absurd (omega arith)
ones-sel p (x ∷ xs) (suc n) e = ap (λ l. cond (p x) 1 0 ∷ l) (ones-sel p xs n (omega arith))

-- they add up to how often it does
pub sum-ones : (p : ℕ → Bool) (v : List ℕ) → sum_l (ones p v) ≡ count_by p v
sum-ones p [] = omega arith
sum-ones p (x ∷ xs) = ap (λ s. cond (p x) 1 0 + s) (sum-ones p xs) ∙ sym (sum_by-cons (λ y. cond (p y) 1 0) x xs)

-- the lanes of three vectors, added
pub sum-three : (n : ℕ) (a b c : List ℕ) → length a ≡ n → length b ≡ n → length c ≡ n → sum_l (zip2 (λ x y. x + y) (zip2 (λ x y. x + y) a b) c) ≡ sum_l a + sum_l b + sum_l c
sum-three n a b c p q r =
    sum-zip2 (zip2 (λ x y. x + y) a b) c (length-zip2 (λ x y. x + y) a b (p ∙ sym q) ∙ p ∙ sym r) ∙ ap (λ s. s + sum_l c) (sum-zip2 a b (p ∙ sym q))

-- ---- a table of white bytes, by the lowest four bits of a byte

-- the index in the table; the highest bit is kept, with which nothing is found
abbrev pub place_of : ℕ → ℕ
place_of x = bit_and x 143

abbrev pub found : List ℕ → ℕ → ℕ
found table x = cond (zeroes 16 w8 (place_of x)) 0 (get_or table (place_of x) 0)

none_or_near : (x : ℕ) → x < 256 → T (zeroes 16 w8 (place_of x) || ltb (place_of x) 16)
none_or_near x lt = subst T (sym (agree_below_at (λ y. zeroes 16 w8 (place_of y) || ltb (place_of y) 16) (λ _. true) 256 x refl lt)) tt

places_near : (v : List ℕ) → Each1 (Fits w8) v → Each1 (λ j. T (zeroes 16 w8 j || ltb j 16)) (map place_of v)
places_near [] fits = tt
places_near (x ∷ xs) fits = (none_or_near x fits.0.fits, places_near xs fits.1)

pub places_ok : (v : List ℕ) → length v ≡ 64 → Each1 (Fits w8) v → SwzOk w8 16 64 0 (map place_of v)
places_ok v long fits = SwzOk-from_Each1 w8 16 4 64 0 (map place_of v) refl (omega (arith, length-map v place_of, long)) (places_near v fits)

-- each block of 16 of a table is its first one
abbrev pub repeats : List ℕ → Bool
repeats table = agree_below (λ i. agree_below (λ j. eqb (get_or table (16 * ((0 + i) / 16) + j) 0) (get_or table j 0)) (λ _. true) 16) (λ _. true) 64

row : (table : List ℕ) → repeats table ≡ true → (i j : ℕ) → i < 64 → j < 16 → get_or table (16 * ((0 + i) / 16) + j) 0 ≡ get_or table j 0
row table all i j lt small =
    let inner = agree_below_at (λ i. agree_below (λ j. eqb (get_or table (16 * ((0 + i) / 16) + j) 0) (get_or table j 0)) (λ _. true) 16) (λ _. true) 64 i all lt in
    eqb-true _ _ (agree_below_at (λ j. eqb (get_or table (16 * ((0 + i) / 16) + j) 0) (get_or table j 0)) (λ _. true) 16 j inner small)

fits_at : (v : List ℕ) (i : ℕ) → Each1 (Fits w8) v → get_or v i 0 < 256
fits_at [] i h = omega arith
fits_at (x ∷ xs) zero h = h.0.fits
fits_at (x ∷ xs) (suc i) h = fits_at xs i h.1

one_found : (table : List ℕ) → repeats table ≡ true → (i x : ℕ) → i < 64 → x < 256
    → cond (zeroes 16 w8 (place_of x)) 0 (get_or table (16 * ((0 + i) / 16) + place_of x) 0) ≡ found table x
one_found table all i x lt small = go (zeroes 16 w8 (place_of x)) refl
  where
    go : (z : Bool) → zeroes 16 w8 (place_of x) ≡ z → cond z 0 (get_or table (16 * ((0 + i) / 16) + place_of x) 0) ≡ cond z 0 (get_or table (place_of x) 0)
    go true e = refl
    go false e = row table all i (place_of x) lt (ltb→lt (place_of x) 16 (subst (λ z. T (z || ltb (place_of x) 16)) e (none_or_near x small)))

pub all_found : (table v : List ℕ) → repeats table ≡ true → length v ≡ 64 → Each1 (Fits w8) v → swz_l w8 16 table 0 (map place_of v) ≡ map (found table) v
all_found table v all long fits =
    ext_get_or 0 _ _ (length-swz_l w8 16 table 0 (map place_of v) ∙ length-map v place_of ∙ sym (length-map v (found table))) (λ i h.
    let lt : i < 64 = omega (arith, length-swz_l w8 16 table 0 (map place_of v), length-map v place_of, long) in
    let within : i < length v = omega (arith, long) in
    let is : get_or (map place_of v) i 0 ≡ place_of (get_or v i 0) = get_or-map place_of v i 0 0 within in
    get_or-swz_l w8 16 table 0 (map place_of v) i (omega (arith, length-map v place_of))
    ∙ ap (λ j. cond (zeroes 16 w8 j) 0 (get_or table (16 * ((0 + i) / 16) + j) 0)) is
    ∙ one_found table all i (get_or v i 0) lt (fits_at v i fits)
    ∙ sym (get_or-map (found table) v i 0 0 within))

half : (b : Bool) (n : ℕ) → (cond b 1 0 + 2 * n) / 2 ≡ n
half true n = omega arith
half false n = omega arith

-- the mask of the lanes after the first k
pub mask-shifted : (ms : List Bool) (k : ℕ) → mask_l ms / 2 ^ k ≡ mask_l (drop k ms)
mask-shifted [] zero = zero-div (2 ^ 0)
mask-shifted [] (suc k) = zero-div (2 ^ suc k)
mask-shifted (m ∷ ms) zero = div-one (mask_l (m ∷ ms))
mask-shifted (m ∷ ms) (suc k) =
    ap (λ n. mask_l (m ∷ ms) / n) (pow-suc 2 k ∙ mul_comm (2 ^ k) 2) ∙ sym (div-div-eq-div-mul (mask_l (m ∷ ms)) 2 (2 ^ k)) ∙ ap (λ n. n / 2 ^ k) (half m (mask_l ms))
    ∙ mask-shifted ms k
