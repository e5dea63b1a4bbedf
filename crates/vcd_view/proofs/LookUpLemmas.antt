-- A code that is looked up.
use Rattle.vcd_view.proofs.Cited.{◌≡◌, ◌⊎◌, inl, inr, ℕ, zero, suc, ◌+◌, ◌/◌, ◌<◌, ◌≤◌, false, List, [], ◌∷◌, ◌++◌, length, map, get_or, bytes_eq, Option, Some, None, option_map, unwrap_or, refl, sym, ap, subst, ◌∙◌, arith, below_more, zero-add, find, slice_get, IsPermutation, AllByRecursion, AllZip, All, position_or_len, range_with_len, nat_cmp, is_eq, ordering_reverse, Ordering, Less, Equal, Greater, slice_cmp, digits_of, cases_lt, nat_list_cmp_total, none-some, same_Some, slice_get-get_or, bytes_eq-Decides, get_or_default_zero, number_lt, all_below_base_digits_of, number_digits_of, length-digits_of-le, length-digits_of_step, append_assoc, get_or-map, length-map, get_or-range_with_len, length-range_with_len, length_permutation, IsPermutation-map, IsPermutation-sym, All-permutation, Contains-permutation, IsDistinct-from_sorted, IsDistinct-IsPermutation, is_eq-slice_cmp, IdCode, has_text, Code, IsCode, IsIndex, code_text, Finds}
use Rattle.std.specs.List.{IsDistinct}
use Rattle.std.specs.List.Sorted.{IsStrictlySortedBy}
use Rattle.vcd_view.proofs.ListLemmas.{slice_get-seam, bytes_flip, to_all}

-- ---- the codes of a view

-- the code that the code reads if there is none
abbrev pub blank : Code
blank = record { start = 0; len = 0; size = 0; event = false }

pub codes_len : (text : List ℕ) (cs : List Code) (ks : List IdCode) → AllZip (IsCode text) cs ks → length cs ≡ length ks
codes_len text [] [] h = refl
codes_len text [] (k ∷ ks) h = absurd h
codes_len text (c ∷ cs) [] h = absurd h
codes_len text (c ∷ cs) (k ∷ ks) h = ap suc (codes_len text cs ks h.1)

pub text_at : (ks : List IdCode) (p : ℕ) (k : IdCode) → slice_get ks p ≡ Some k → code_text ks p ≡ k.text
text_at ks p k e = ap (λ (o : Option IdCode). unwrap_or (option_map (λ c. c.text) o) []) e

-- ---- no two codes have one text

pub texts_range : (front back : List IdCode) → map (code_text (front ++ back)) (range_with_len (length front) (length back)) ≡ map (λ (k : IdCode). k.text) back
texts_range front [] = refl
texts_range front (k ∷ back) =
    let all : map (code_text (front ++ k ∷ [] ++ back)) (range_with_len (length front + 1) (length back)) ≡ map (λ (x : IdCode). x.text) back =
    subst (λ n. map (code_text (front ++ k ∷ [] ++ back)) (range_with_len n (length back)) ≡ map (λ (x : IdCode). x.text) back) (length_more front k) (texts_range (front ++ k ∷ []) back) in
    let more = subst (λ l. map (code_text l) (range_with_len (length front + 1) (length back)) ≡ map (λ (x : IdCode). x.text) back) (append_assoc front (k ∷ []) back) all in
    λ j. text_at (front ++ k ∷ back) (length front) k (slice_get-seam front k back) j ∷ more j
  where
    length_more : (xs : List IdCode) (x : IdCode) → length (xs ++ x ∷ []) ≡ length xs + 1
    length_more [] x = refl
    length_more (y ∷ xs) x = omega (arith, length_more xs x)

pub distinct : (ks : List IdCode) (index : List ℕ) → IsIndex ks index → IsDistinct bytes_eq (map (λ (k : IdCode). k.text) ks)
distinct ks index h =
    let texts = map (λ (k : IdCode). k.text) ks in
    let moved : IsPermutation texts (map (code_text ks) index) = subst (λ l. IsPermutation l (map (code_text ks) index)) (texts_range [] ks)
    (IsPermutation-map (code_text ks) (range_with_len 0 (length ks)) index h.positions) in
    let apart : IsDistinct bytes_eq (map (code_text ks) index) = subst (λ e. IsDistinct e (map (code_text ks) index))
    (λ j x y. is_eq-slice_cmp x y j) (IsDistinct-from_sorted (slice_cmp nat_cmp) (map (code_text ks) index) h.rising) in
    IsDistinct-IsPermutation bytes_eq bytes_flip (map (code_text ks) index) texts (IsPermutation-sym texts (map (code_text ks) index) moved) apart

-- a code with this text is the first with it
pub apart_at : (t : List ℕ) (ks : List IdCode) (p : ℕ) (k : IdCode) → AllByRecursion (λ y. bytes_eq t y ≡ false) (map (λ (x : IdCode). x.text) ks)
    → slice_get ks p ≡ Some k → bytes_eq t k.text ≡ false
apart_at t [] p k h e = absurd (none-some k e)
apart_at t (x ∷ ks) zero k h e = subst (λ (y : IdCode). bytes_eq t y.text ≡ false) (same_Some x k e) h.0
apart_at t (x ∷ ks) (suc p) k h e = apart_at t ks p k h.1 e

pub first_with : (ks : List IdCode) (t : List ℕ) (p : ℕ) (k : IdCode) → IsDistinct bytes_eq (map (λ (x : IdCode). x.text) ks)
    → slice_get ks p ≡ Some k → t ≡ k.text → find (has_text t) ks ≡ Some k
unfolding IsDistinct
first_with [] t p k d e s = absurd (none-some k e)
first_with (x ∷ ks) t zero k d e s = rw (ap (bytes_eq t) (ap (λ (y : IdCode). y.text) (same_Some x k e) ∙ sym s) ∙ (bytes_eq-Decides t t).1 refl) e
first_with (x ∷ ks) t (suc p) k d e s = rw (ap (λ y. bytes_eq y x.text) s ∙ bytes_flip k.text x.text ∙ apart_at x.text ks p k d.0 e) (first_with ks t p k d.1 e s)

place_with : (ks : List IdCode) (t : List ℕ) (p : ℕ) (k : IdCode) → IsDistinct bytes_eq (map (λ (x : IdCode). x.text) ks) → slice_get ks p ≡ Some k
    → t ≡ k.text → position_or_len (has_text t) ks ≡ p
unfolding IsDistinct
place_with [] t p k d e s = absurd (none-some k e)
place_with (x ∷ ks) t zero k d e s = rw (ap (bytes_eq t) (ap (λ (y : IdCode). y.text) (same_Some x k e) ∙ sym s) ∙ (bytes_eq-Decides t t).1 refl) refl
place_with (x ∷ ks) t (suc p) k d e s = let more = place_with ks t p k d.1 e s in
    rw (ap (λ y. bytes_eq y x.text) s ∙ bytes_flip k.text x.text ∙ apart_at x.text ks p k d.0 e) (omega (arith, more))

-- a code is at the first index with its text
pub place_is : (ks : List IdCode) (index : List ℕ) (p : ℕ) (k : IdCode) → IsIndex ks index → slice_get ks p ≡ Some k → position_or_len (has_text k.text) ks ≡ p
place_is ks index p k h e = place_with ks k.text p k (distinct ks index h) e refl

-- codes with one text are at one index
pub same_place : (ks : List IdCode) (index : List ℕ) (p q : ℕ) (j k : IdCode) → IsIndex ks index → slice_get ks p ≡ Some j → slice_get ks q ≡ Some k → j.text ≡ k.text → p ≡ q
same_place ks index p q j k h first second same = sym (place_is ks index p j h first) ∙ place_with ks j.text q k (distinct ks index h) second same

pub found_at : (ks : List IdCode) (index : List ℕ) (t : List ℕ) (p : ℕ) (k : IdCode) → IsIndex ks index → slice_get ks p ≡ Some k → t ≡ k.text → Finds ks t (Some p)
found_at ks index t p k h e s = (k, e, first_with ks t p k (distinct ks index h) e s)

-- no code has a text that differs from all
pub none_with : (ks : List IdCode) (t : List ℕ) → ((p : ℕ) → p < length ks → bytes_eq t (code_text ks p) ≡ false) → find (has_text t) ks ≡ None
none_with [] t h = refl
none_with (k ∷ ks) t h = rw (h 0 (omega arith)) (none_with ks t (λ p l. h (suc p) (omega arith)))

-- ---- a search in the order of the codes

-- the order of the code that the index has at an offset and the one that is looked up
abbrev pub order_at : List IdCode → List ℕ → List ℕ → ℕ → Ordering
order_at ks index t i = slice_cmp nat_cmp (code_text ks (get_or index i 0)) t

-- what is looked up lies between: it comes after all below `low`, and before all from `high` on
pub record IsBetween (ks : List IdCode) (index : List ℕ) (t : List ℕ) (low high : ℕ) : Type 0 where
  pub below : (i : ℕ) → i < low → order_at ks index t i ≡ Less
  pub above : (i : ℕ) → high ≤ i → i < length index → order_at ks index t i ≡ Greater

pub index_len : (ks : List IdCode) (index : List ℕ) → IsIndex ks index → length index ≡ length ks
index_len ks index h = length_permutation (range_with_len 0 (length ks)) index h.positions ∙ length-range_with_len 0 (length ks)

pub place_below : (ks : List IdCode) (index : List ℕ) (i : ℕ) → IsIndex ks index → i < length index → get_or index i 0 < length ks
place_below ks index i h l = All-permutation (λ p. p < length ks) (range_with_len 0 (length ks)) index h.positions in_range i 0 l
  where
    in_range : All (λ p. p < length ks) (range_with_len 0 (length ks))
    in_range k d b = let n = length-range_with_len 0 (length ks) in let l : k < length ks = omega arith in omega (arith, get_or-range_with_len 0 (length ks) k d l)

sorted_at : (xs : List (List ℕ)) (i j : ℕ) (d : List ℕ) → IsStrictlySortedBy (slice_cmp nat_cmp) xs → i < j → j < length xs → slice_cmp nat_cmp (get_or xs i d) (get_or xs j d) ≡ Less
unfolding IsStrictlySortedBy
sorted_at [] i j d s a b = absurd (omega arith)
sorted_at (x ∷ xs) i zero d s a b = absurd (omega arith)
sorted_at (x ∷ xs) zero (suc j) d s a b = to_all (λ y. slice_cmp nat_cmp x y ≡ Less) xs s.0 j d (omega arith)
sorted_at (x ∷ xs) (suc i) (suc j) d s a b = sorted_at xs i j d s.1 (omega arith) (omega arith)

rises : (ks : List IdCode) (index : List ℕ) (i j : ℕ) → IsIndex ks index → i < j → j < length index
    → slice_cmp nat_cmp (code_text ks (get_or index i 0)) (code_text ks (get_or index j 0)) ≡ Less
rises ks index i j h a b =
    let n = length-map index (code_text ks) in
    let l : i < length index = omega arith in
    rw (sym (get_or-map (code_text ks) index i 0 [] l), sym (get_or-map (code_text ks) index j 0 [] b)) (sorted_at (map (code_text ks) index) i j [] h.rising a (omega arith))

pub between_all : (ks : List IdCode) (index t : List ℕ) → IsBetween ks index t 0 (length index)
between_all ks index t = record { below = λ i l. absurd (omega arith); above = λ i a b. absurd (omega arith) }

pub between_above : (ks : List IdCode) (index t : List ℕ) (low high m : ℕ) → IsIndex ks index → IsBetween ks index t low high → m < length index
    → order_at ks index t m ≡ Less → IsBetween ks index t (m + 1) high
between_above ks index t low high m h b l e = record {
  below = below_more (λ i. order_at ks index t i ≡ Less) m (λ i a. nat_list_cmp_total.trans (code_text ks (get_or index i 0)) (code_text ks (get_or index m 0)) t (rises ks index i m h a l) e) e;
  above = b.above;
}

pub between_below : (ks : List IdCode) (index t : List ℕ) (low high m : ℕ) → IsIndex ks index → IsBetween ks index t low high
    → order_at ks index t m ≡ Greater → IsBetween ks index t low m
between_below ks index t low high m h b e = record {
  below = b.below;
  above = λ i a l. greater i (cases_lt m i) a l;
}
  where
    greater : (i : ℕ) → (m < i) ⊎ (i ≤ m) → m ≤ i → i < length index → order_at ks index t i ≡ Greater
    greater i (inl a) q l = nat_list_cmp_total.antisymm (code_text ks (get_or index i 0)) t
        ∙ ap ordering_reverse (nat_list_cmp_total.trans t (code_text ks (get_or index m 0)) (code_text ks (get_or index i 0))
        (nat_list_cmp_total.antisymm t (code_text ks (get_or index m 0)) ∙ ap ordering_reverse e) (rises ks index m i h a l))
    greater i (inr a) q l = let same : m ≡ i = omega arith in subst (λ x. order_at ks index t x ≡ Greater) same e

apart_from : (x t : List ℕ) (o : Ordering) → slice_cmp nat_cmp x t ≡ o → is_eq o ≡ false → bytes_eq t x ≡ false
apart_from x t o e d = bytes_flip t x ∙ sym (is_eq-slice_cmp x t) ∙ ap is_eq e ∙ d

-- if nothing is left between, no code has the text
pub none_between : (ks : List IdCode) (index t : List ℕ) (low : ℕ) → IsIndex ks index → IsBetween ks index t low low → Finds ks t None
none_between ks index t low h b = none_with ks t (λ p l.
    let has = Contains-permutation (range_with_len 0 (length ks)) index p h.positions (p, rw length-range_with_len l, get_or-range_with_len 0 (length ks) p p l ∙ zero-add p) in
    subst (λ x. bytes_eq t (code_text ks x) ≡ false) (sym (get_or_default_zero index has.0 p has.1) ∙ has.2) (differs has.0 (cases_lt has.0 low) has.1))
  where
    differs : (i : ℕ) → (i < low) ⊎ (low ≤ i) → i < length index → bytes_eq t (code_text ks (get_or index i 0)) ≡ false
    differs i (inl a) l = apart_from (code_text ks (get_or index i 0)) t Less (b.below i a) refl
    differs i (inr a) l = apart_from (code_text ks (get_or index i 0)) t Greater (b.above i a l) refl

-- what is equal in order has the same bytes
equal_bytes : (x t : List ℕ) → slice_cmp nat_cmp x t ≡ Equal → x ≡ t
equal_bytes x t e = (bytes_eq-Decides x t).0 (sym (is_eq-slice_cmp x t) ∙ ap is_eq e)

-- if the order is equal, it is the code that is looked up
pub found_equal : (ks : List IdCode) (index t : List ℕ) (m : ℕ) → IsIndex ks index → m < length index → order_at ks index t m ≡ Equal → Finds ks t (Some (get_or index m 0))
found_equal ks index t m h l e =
    let p = get_or index m 0 in
    let there = slice_get-get_or ks p none (place_below ks index m h l) in
    found_at ks index t p (get_or ks p none) h there (sym (equal_bytes (code_text ks p) t e) ∙ text_at ks p (get_or ks p none) there)
  where
    none : IdCode
    none = record { text = []; size = 0; event = false }

-- ---- binary digits

pub bits_rise : (a b : ℕ) → a ≤ b → length (digits_of 2 a) ≤ length (digits_of 2 b)
bits_rise a b l = length-digits_of-le 2 (length (digits_of 2 b)) a (omega arith)
    (omega (arith, number_lt 2 (digits_of 2 b) (all_below_base_digits_of 2 b (omega arith)), number_digits_of 2 b (omega arith)))

-- at most half as many have a digit less
pub bits_of_half : (a b : ℕ) → 0 < b → a ≤ b / 2 → length (digits_of 2 a) + 1 ≤ length (digits_of 2 b)
bits_of_half a b s l = omega (arith, length-digits_of_step 2 b (omega arith) s, bits_rise a (b / 2) l)
