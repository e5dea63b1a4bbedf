-- The order of short codes by their ranks.
use Rattle.vcd_head.proofs.Cited.{◌≡◌, ◌⊎◌, inl, inr, ℕ, zero, suc, ◌+◌, ◌*◌, ◌<◌, ◌≤◌, true, false, List, [], ◌∷◌, ◌++◌, length, map, set, take, drop, get_or, bytes_eq, refl, sym, ap, subst, ◌∙◌, arith, zero-add, add-one, IsPermutation, IsStrictWeakOrder, nat_cmp_is, AllByRecursion, All, IsDistinct, range_with_len, IsSorted, IsStrictlySortedBy, nat_cmp, is_lt, Less, Equal, slice_cmp, cases_lt, nat_cmp_total, mod-mul-add, get_or-map, length-map, map-append, ranks_by, All-permutation, IsPermutation-map, sorted_far, IsDistinct-IsPermutation, apart_from_distinct, bytes_eq-Decides, IdCode, Code, AreHeld, IsIndex, code_text, AreShort, code_bytes, prefix_in, position_in_rank, rank_in, rank_of, AreBytes, bytes_flip, to_all, codes_len, texts_range, bytes_are}
use Rattle.vcd_head.proofs.IndexLemmas.{front_less, map_map, range_push, same_front, sorted_from, texts_are}

-- ---- ranks

-- a text that continues comes later
goes_on : (x y : List ℕ) → length x < length y → ((i : ℕ) → i < length x → get_or x i 0 ≡ get_or y i 0) → slice_cmp nat_cmp x y ≡ Less
goes_on [] [] l h = absurd (omega (arith, l))
goes_on [] (b ∷ bs) l h = refl
goes_on (a ∷ as') [] l h = absurd (omega (arith, l))
goes_on (a ∷ as') (b ∷ bs) l h = rw (sym (nat_cmp_is a b Equal (h 0 (omega arith)))) (goes_on as' bs (omega (arith, l)) (λ i k. h (suc i) (omega (arith, k))))

-- texts of one length with the same bytes
same_text : (x y : List ℕ) → length x ≡ length y → ((i : ℕ) → i < length x → get_or x i 0 ≡ get_or y i 0) → x ≡ y
same_text [] [] e h = refl
same_text [] (b ∷ bs) e h = absurd (omega (arith, e))
same_text (a ∷ as') [] e h = absurd (omega (arith, e))
same_text (a ∷ as') (b ∷ bs) e h = ap (λ z. z ∷ as') (h 0 (omega arith)) ∙ ap (λ l. b ∷ l) (same_text as' bs (omega (arith, e)) (λ i k. h (suc i) (omega (arith, k))))

-- where a rank is not above another, and their texts differ, its text comes first
rank_rises : (x y : List ℕ) (p q : ℕ) → AreBytes x → AreBytes y → length x ≤ 4 → length y ≤ 4 → p < 16777216 → q < 16777216
    → rank_of x p ≤ rank_of y q → bytes_eq x y ≡ false → slice_cmp nat_cmp x y ≡ Less
rank_rises x y p q f g m n a b l apart = by_front (cases_lt (prefix_in 4 x) (prefix_in 4 y))
  where
    by_len : prefix_in 4 x ≡ prefix_in 4 y → (length x < length y) ⊎ (length y ≤ length x) → slice_cmp nat_cmp x y ≡ Less
    by_len s (inl k) = goes_on x y k (λ i j. same_front 4 x y f g s i (omega (arith, j, m)))
    by_len s (inr k) =
        let len : length x ≡ length y = omega (arith, k, l, s, a, b) in
        let equal : bytes_eq x y ≡ true = (bytes_eq-Decides x y).1 (same_text x y len (λ i j. same_front 4 x y f g s i (omega (arith, j, m)))) in
        cc

    by_front : (prefix_in 4 x < prefix_in 4 y) ⊎ (prefix_in 4 y ≤ prefix_in 4 x) → slice_cmp nat_cmp x y ≡ Less
    by_front (inl k) = front_less 4 x y f g k
    by_front (inr k) = by_len (omega (arith, k, l, m, n, a, b)) (cases_lt (length x) (length y))

-- a rank ends with its index
rank_place : (bs : List ℕ) (p : ℕ) → p < 16777216 → position_in_rank (rank_of bs p) ≡ p
rank_place bs p l = mod-mul-add (prefix_in 4 bs * 8 + length bs) 16777216 p l

-- the indexes of all
places_back : (text : List ℕ) (list : List Code) (a n : ℕ) → a + n ≤ 16777216 → map (λ p. position_in_rank (rank_in text list p)) (range_with_len a n) ≡ range_with_len a n
places_back text list a zero l = refl
places_back text list a (suc n) l =
    ap (λ p. p ∷ map (λ q. position_in_rank (rank_in text list q)) (range_with_len (a + 1) n)) (rank_place (code_bytes text list a) a (omega (arith, l)))
    ∙ ap (λ ps. a ∷ ps) (places_back text list (a + 1) n (omega (arith, l)))

-- what a rank tells of itself
record IsRank (text : List ℕ) (list : List Code) (r : ℕ) : Type 0 where
  within : position_in_rank r < length list
  own : rank_in text list (position_in_rank r) ≡ r

ranks_tell : (text : List ℕ) (list : List Code) (a n : ℕ) → a + n ≤ length list → length list ≤ 16777216
    → AllByRecursion (IsRank text list) (map (rank_in text list) (range_with_len a n))
ranks_tell text list a zero l few = tt
ranks_tell text list a (suc n) l few = (told, ranks_tell text list (a + 1) n (omega (arith, l)) few)
  where
    position : position_in_rank (rank_in text list a) ≡ a
    position = rank_place (code_bytes text list a) a (omega (arith, l, few))

    told : IsRank text list (rank_in text list a)
    told = record { within = omega (arith, l, position); own = ap (rank_in text list) position }

-- a rank more
pub ranks_more : (f : ℕ → ℕ) (n r : ℕ) → r ≡ f n → map f (range_with_len 0 n) ++ r ∷ [] ≡ map f (range_with_len 0 (n + 1))
ranks_more f n r e =
    ap (λ x. map f (range_with_len 0 n) ++ x ∷ []) (e ∙ ap f (sym (zero-add n))) ∙ sym (map-append f (range_with_len 0 n) ((0 + n) ∷ []))
    ∙ ap (map f) (sym (range_push 0 n)) ∙ ap (λ k. map f (range_with_len 0 k)) (sym (add-one n))

-- an index more is left
pub place_left : (f : ℕ → ℕ) (xs : List ℕ) (i : ℕ) → i < length xs
    → set (map f (take i xs) ++ drop i xs) i (f (get_or (map f (take i xs) ++ drop i xs) i 0)) ≡ map f (take (suc i) xs) ++ drop (suc i) xs
place_left f [] i l = absurd (omega (arith, l))
place_left f (x ∷ xs) zero l = refl
place_left f (x ∷ xs) (suc i) l = ap (λ ys. f x ∷ ys) (place_left f xs i (omega (arith, l)))

-- ---- the index

number_weak : IsStrictWeakOrder (λ (a b : ℕ). is_lt (nat_cmp a b))
number_weak = ranks_by nat_cmp_total (λ (n : ℕ). n)

-- what is not before a number is above it
not_before : (x y : ℕ) → is_lt (nat_cmp y x) ≡ false → x ≤ y
not_before x y h = by_order (cases_lt y x)
  where
    by_order : (y < x) ⊎ (x ≤ y) → x ≤ y
    by_order (inl l) = let e : is_lt (nat_cmp y x) ≡ true = ap is_lt (sym (nat_cmp_is y x Less l)) in absurd cc
    by_order (inr l) = l

pub ranks_made : (text : List ℕ) (list : List Code) (cs : List IdCode) (old new : List ℕ) → AreHeld text list cs → length list ≤ 16777216
    → AreShort text list → old ≡ map (rank_in text list) (range_with_len 0 (length list)) → IsPermutation old new → IsSorted nat_cmp new
    → IsIndex cs (map position_in_rank new)
ranks_made text list cs old new h few short are moved sorted =
    let n = codes_len text list cs h.stand in
    let back : map position_in_rank old ≡ range_with_len 0 (length cs) = ap (map position_in_rank) are
    ∙ map_map (rank_in text list) position_in_rank (range_with_len 0 (length list)) ∙ places_back text list 0 (length list) (omega (arith, few))
    ∙ ap (range_with_len 0) n in
    let positions : IsPermutation (range_with_len 0 (length cs)) (map position_in_rank new) = subst
    (λ l. IsPermutation l (map position_in_rank new)) back (IsPermutation-map position_in_rank old new moved) in
    let texts = map (λ (k : IdCode). k.text) cs in
    let ordered = map (code_text cs) (map position_in_rank new) in
    let same : IsPermutation texts ordered = subst (λ l. IsPermutation l ordered) (texts_range [] cs)
    (IsPermutation-map (code_text cs) (range_with_len 0 (length cs)) (map position_in_rank new) positions) in
    let apart : IsDistinct bytes_eq ordered = IsDistinct-IsPermutation bytes_eq bytes_flip texts ordered same h.distinct in
    let told : All (IsRank text list) new = All-permutation (IsRank text list) old new moved
    (to_all (IsRank text list) old (subst (AllByRecursion (IsRank text list)) (sym are)
    (ranks_tell text list 0 (length list) (omega arith) few))) in
    record {
      positions = positions;
      rising = subst (IsStrictlySortedBy (slice_cmp nat_cmp)) (sym (map_map position_in_rank (code_text cs) new)) (sorted_from (λ r. code_text cs (position_in_rank r)) new (λ i j d a b.
          let x = get_or new i d in
          let y = get_or new j d in
          let il : i < length new = omega (arith, a, b) in
          let p = told i d il in
          let q = told j d b in
          let pw = p.within in
          let qw = q.within in
          let bx = bytes_are text list cs (position_in_rank x) h.stand in
          let by = bytes_are text list cs (position_in_rank y) h.stand in
          let len = length-map new (λ (r : ℕ). code_text cs (position_in_rank r)) in
          let differ0 = apart_from_distinct bytes_eq (map (λ (r : ℕ). code_text cs (position_in_rank r)) new) i j []
          (subst (IsDistinct bytes_eq) (map_map position_in_rank (code_text cs) new) apart) a (omega (arith, len, b)) in
          let differ : bytes_eq (code_text cs (position_in_rank x)) (code_text cs (position_in_rank y)) ≡ false = rw (
            sym (get_or-map (λ (r : ℕ). code_text cs (position_in_rank r)) new i d [] il),
            sym (get_or-map (λ (r : ℕ). code_text cs (position_in_rank r)) new j d [] b),
          ) differ0 in
          let rises : x ≤ y = not_before x y (sorted_far (λ (a b : ℕ). is_lt (nat_cmp a b)) number_weak new sorted i j d (omega (arith, a)) b) in
          let ranks : rank_in text list (position_in_rank x) ≤ rank_in text list (position_in_rank y) = omega (arith, rises, p.own, q.own) in
          rw (sym bx, sym by) (rank_rises (code_bytes text list (position_in_rank x)) (code_bytes text list (position_in_rank y)) (position_in_rank x) (position_in_rank y)
          (subst AreBytes (sym bx) (texts_are cs (position_in_rank x) h.texts)) (subst AreBytes (sym by) (texts_are cs (position_in_rank y) h.texts))
          (short (position_in_rank x) pw) (short (position_in_rank y) qw)
          (omega (arith, pw, few)) (omega (arith, qw, few)) ranks (rw (bx, by) differ))));
    }
