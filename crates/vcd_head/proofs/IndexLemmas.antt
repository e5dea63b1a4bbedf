-- The order of codes by their bytes.
use Rattle.vcd_head.proofs.Cited.{◌≡◌, ◌⊎◌, inl, inr, ℕ, zero, suc, ◌+◌, ◌*◌, ◌^◌, ◌<◌, ◌≤◌, Bool, true, false, List, [], ◌∷◌, ◌++◌, length, map, get_or, bytes_eq, refl, sym, ap, subst, ◌∙◌, arith, IsPermutation, IsStrictWeakOrder, nat_cmp_is, AllByRecursion, All, IsDistinct, range_with_len, IsSortedBy, nat_cmp, is_eq, is_lt, ordering_reverse, Ordering, Less, Equal, Greater, slice_cmp, cases_lt, nat_list_cmp_total, pow-le-pow_right, get_or-map, length-map, get_or-range_with_len, length-range_with_len, ranks_by, All-permutation, IsPermutation-map, sorted_far, IsDistinct-IsPermutation, apart_from_distinct, is_eq-slice_cmp, IdCode, Code, AreHeld, IsIndex, code_text, code_bytes, prefix_in, AreBytes, bytes_flip, codes_len, texts_range, bytes_are}
use Rattle.std.specs.List.Sorted.{IsStrictlySortedBy}

-- ---- prefixes

-- eight bytes fit
pub front_fits : (f n b : ℕ) → f < 256 ^ n → n < 8 → b < 256 → f * 256 + b < 2 ^ 64
front_fits f n b l s k =
    let most : 256 ^ n ≤ 256 ^ 7 = (let few : n ≤ 7 = omega (arith, s) in pow-le-pow_right (omega arith) few) in
    omega (arith, l, k, most)

byte_small : (bs : List ℕ) (i : ℕ) → AreBytes bs → get_or bs i 0 < 256
byte_small [] i h = omega arith
byte_small (b ∷ bs) zero h = h.0
byte_small (b ∷ bs) (suc i) h = byte_small bs i h.1

-- two texts with the same front have the same first bytes
pub same_front : (n : ℕ) (x y : List ℕ) → AreBytes x → AreBytes y → prefix_in n x ≡ prefix_in n y → (i : ℕ) → i < n → get_or x i 0 ≡ get_or y i 0
same_front zero x y f g e i l = absurd (omega arith)
same_front (suc n) x y f g e i l =
    let a = byte_small x n f in
    let b = byte_small y n g in
    let last : get_or x n 0 ≡ get_or y n 0 = omega (arith, e) in
    let rest : prefix_in n x ≡ prefix_in n y = omega (arith, e) in
    by_place (cases_lt i n) last (same_front n x y f g rest i)
  where
    by_place : (i < n) ⊎ (n ≤ i) → get_or x n 0 ≡ get_or y n 0 → (i < n → get_or x i 0 ≡ get_or y i 0) → get_or x i 0 ≡ get_or y i 0
    by_place (inl a) last rest = rest a
    by_place (inr a) last rest = let s : n ≡ i = omega arith in subst (λ k. get_or x k 0 ≡ get_or y k 0) s last

-- the first bytes that differ decide
less_at : (i : ℕ) (x y : List ℕ) → ((j : ℕ) → j < i → get_or x j 0 ≡ get_or y j 0) → get_or x i 0 < get_or y i 0 → slice_cmp nat_cmp x y ≡ Less
less_at i [] [] h l = absurd (omega arith)
less_at i [] (b ∷ bs) h l = refl
less_at i (a ∷ as') [] h l = absurd (omega arith)
less_at zero (a ∷ xs) (b ∷ bs) h l = rw (sym (nat_cmp_is a b Less l)) refl
less_at (suc i) (a ∷ xs) (b ∷ bs) h l = rw (sym (nat_cmp_is a b Equal (h 0 (omega arith)))) (less_at i xs bs (λ j k. h (suc j) (omega arith)) l)

-- a text with the lower front comes first
pub front_less : (n : ℕ) (x y : List ℕ) → AreBytes x → AreBytes y → prefix_in n x < prefix_in n y → slice_cmp nat_cmp x y ≡ Less
front_less zero x y f g l = absurd (omega arith)
front_less (suc n) x y f g l =
    let a = byte_small x n f in
    let b = byte_small y n g in
    by_rest (cases_lt (prefix_in n x) (prefix_in n y)) a b (front_less n x y f g)
  where
    by_rest : (prefix_in n x < prefix_in n y) ⊎ (prefix_in n y ≤ prefix_in n x) → get_or x n 0 < 256 → get_or y n 0 < 256
        → (prefix_in n x < prefix_in n y → slice_cmp nat_cmp x y ≡ Less) → slice_cmp nat_cmp x y ≡ Less
    by_rest (inl a) b c rest = rest a
    by_rest (inr a) b c _ =
        let same : prefix_in n x ≡ prefix_in n y = omega (arith, l) in
        less_at n x y (same_front n x y f g same) (omega (arith, l))

-- ---- the order

pub range_push : (a n : ℕ) → range_with_len a (suc n) ≡ range_with_len a n ++ (a + n) ∷ []
range_push a zero = ap (λ k. k ∷ []) (none_more a)
  where
    none_more : (a : ℕ) → a ≡ a + 0
    none_more a = omega arith
range_push a (suc n) = ap (λ l. a ∷ l) (range_push (a + 1) n ∙ ap (λ k. range_with_len (a + 1) n ++ k ∷ []) (one_more a n))
  where
    one_more : (a n : ℕ) → (a + 1) + n ≡ a + suc n
    one_more a n = omega arith

abbrev pub before : List ℕ → List Code → ℕ → ℕ → Bool
before text codes a b = is_lt (slice_cmp nat_cmp (code_bytes text codes a) (code_bytes text codes b))

pub before_weak : (text : List ℕ) (codes : List Code) → IsStrictWeakOrder (before text codes)
before_weak text codes = ranks_by nat_list_cmp_total (code_bytes text codes)

-- a text that is not after another one, and differs from it, comes first
rises : (x y : List ℕ) → is_lt (slice_cmp nat_cmp y x) ≡ false → bytes_eq x y ≡ false → slice_cmp nat_cmp x y ≡ Less
rises x y not_after apart = by_text (slice_cmp nat_cmp x y) refl
  where
    by_text : (o : Ordering) → slice_cmp nat_cmp x y ≡ o → slice_cmp nat_cmp x y ≡ Less
    by_text Less q = q
    by_text Equal q = let e : bytes_eq x y ≡ true = sym (is_eq-slice_cmp x y) ∙ ap is_eq q in cc
    by_text Greater q = let e : slice_cmp nat_cmp y x ≡ Less = nat_list_cmp_total.antisymm y x ∙ ap ordering_reverse q in let z = ap is_lt e in cc

-- ---- the index

pub texts_are : (cs : List IdCode) (p : ℕ) → AllByRecursion (λ (c : IdCode). AreBytes c.text) cs → AreBytes (code_text cs p)
texts_are [] p h = tt
texts_are (c ∷ cs) zero h = h.0
texts_are (c ∷ cs) (suc p) h = texts_are cs p h.1

-- texts that rise at each pair of indexes are in order
pub sorted_from : {X : Type 0} (f : X → List ℕ) (xs : List X)
    → ((i j : ℕ) (d : X) → i < j → j < length xs → slice_cmp nat_cmp (f (get_or xs i d)) (f (get_or xs j d)) ≡ Less)
    → IsStrictlySortedBy (slice_cmp nat_cmp) (map f xs)
unfolding IsStrictlySortedBy
sorted_from f [] h = tt
sorted_from f (x ∷ xs) h = (above xs (λ j d l. h 0 (suc j) d (omega arith) (omega arith)), sorted_from f xs (λ i j d a b. h (suc i) (suc j) d (omega arith) (omega arith)))
  where
    above : (ys : List _) → ((j : ℕ) (d : _) → j < length ys → slice_cmp nat_cmp (f x) (f (get_or ys j d)) ≡ Less) → AllByRecursion (λ t. slice_cmp nat_cmp (f x) t ≡ Less) (map f ys)
    above [] k = tt
    above (y ∷ ys) k = (k 0 y (omega arith), above ys (λ j d l. k (suc j) d (omega arith)))

pub map_map : {X Y Z : Type 0} (f : X → Y) (g : Y → Z) (xs : List X) → map g (map f xs) ≡ map (λ x. g (f x)) xs
map_map f g [] = refl
map_map f g (x ∷ xs) = ap (λ l. g (f x) ∷ l) (map_map f g xs)

pub index_made : (text : List ℕ) (list : List Code) (cs : List IdCode) (new : List ℕ) → AreHeld text list cs
    → IsPermutation (range_with_len 0 (length list)) new → IsSortedBy (before text list) new → IsIndex cs new
index_made text list cs new h moved sorted =
    let positions : IsPermutation (range_with_len 0 (length cs)) new = subst (λ n. IsPermutation (range_with_len 0 n) new) (codes_len text list cs h.stand) moved in
    let texts = map (λ (k : IdCode). k.text) cs in
    let ordered = map (code_text cs) new in
    let same : IsPermutation texts ordered = subst (λ l. IsPermutation l ordered) (texts_range [] cs) (IsPermutation-map (code_text cs) (range_with_len 0 (length cs)) new positions) in
    let apart : IsDistinct bytes_eq ordered = IsDistinct-IsPermutation bytes_eq bytes_flip texts ordered same h.distinct in
    let within : All (λ p. p < length cs) new = All-permutation (λ p. p < length cs) (range_with_len 0 (length cs)) new positions (below (length cs)) in
    record {
      positions = positions;
      rising = sorted_from (code_text cs) new (λ i j d a b.
          let il : i < length new = omega arith in
          let x = get_or new i d in
          let y = get_or new j d in
          let len = length-map new (code_text cs) in
          let differ0 = apart_from_distinct bytes_eq ordered i j [] apart a (omega arith) in
          let differ : bytes_eq (code_text cs x) (code_text cs y) ≡ false = rw (sym (get_or-map (code_text cs) new i d [] il), sym (get_or-map (code_text cs) new j d [] b)) differ0 in
          let bx = bytes_are text list cs x h.stand in
          let by = bytes_are text list cs y h.stand in
          rises (code_text cs x) (code_text cs y) (rw (bx, by) at (sorted_far (before text list) (before_weak text list) new sorted i j d (omega arith) b)) differ);
    }
  where
    below : (n : ℕ) → All (λ p. p < n) (range_with_len 0 n)
    below n k d l =
        let m = length-range_with_len 0 n in
        let r = get_or-range_with_len 0 n k d (omega arith) in
        omega (arith, r)
