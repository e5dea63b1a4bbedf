-- Pairs of a path and a range, one more at a time, and how they are found.
use Rattle.vcd_compare.proofs.Cited.{◌≡◌, ◌≢◌, ℕ, suc, ◌==◌, ◌&&◌, Bool, true, false, if◌then◌else◌, List, [], ◌∷◌, ◌++◌, length, slice_get, position, bytes_eq, Option, Some, None, inl, inr, refl, sym, ap, ap₂, subst, ◌∙◌, arith, AllZip, list_any, position_or_len, same_Some, bytes_eq-Decides, append-nil, and_from, and_parts, eq-eqb, ne_eqb, slice_get-front, slice_get-seam, all_zip_push, AreApart, EntersText, IsNumberOf, EntersSlice, HasSlices, IsSlice, looked_up, same_key, Slices, texts_in}
use Rattle.std.proofs.Common.{zero}
use Rattle.vcd_compare.proofs.PathTexts.{at_most, first_passes, is_same, none_first, not_there, position_none, position_passes, same_is}

-- ---- lists that go together

-- what is in one of two lists that go together is in the other
pub zip_at : {X Y : Type 0} (R : X → Y → Type 0) (xs : List X) (ys : List Y) (i : ℕ) (y : Y) → AllZip R xs ys → slice_get ys i ≡ Some y → (x : X) × (slice_get xs i ≡ Some x) × R x y
zip_at R [] [] i y all at = cc
zip_at R [] (z ∷ ys) i y all at = absurd all
zip_at R (x ∷ xs) [] i y all at = absurd all
zip_at R (x ∷ xs) (z ∷ ys) zero y all at = (x, refl, subst (R x) (same_Some z y at) all.0)
zip_at R (x ∷ xs) (z ∷ ys) (suc i) y all at = zip_at R xs ys i y all.1 at

pub zip_from : {X Y : Type 0} (R : X → Y → Type 0) (xs : List X) (ys : List Y) (i : ℕ) (x : X) → AllZip R xs ys → slice_get xs i ≡ Some x → (y : Y)
    × (slice_get ys i ≡ Some y) × R x y
zip_from R [] ys i x all at = cc
zip_from R (w ∷ xs) [] i x all at = absurd all
zip_from R (w ∷ xs) (y ∷ ys) zero x all at = (y, refl, subst (λ z. R z y) (same_Some w x at) all.0)
zip_from R (w ∷ xs) (y ∷ ys) (suc i) x all at = zip_from R xs ys i x all.1 at

pub same_len : {X Y : Type 0} (R : X → Y → Type 0) (xs : List X) (ys : List Y) → AllZip R xs ys → length xs ≡ length ys
same_len R [] [] all = refl
same_len R [] (y ∷ ys) all = absurd all
same_len R (x ∷ xs) [] all = absurd all
same_len R (x ∷ xs) (y ∷ ys) all = ap suc (same_len R xs ys all.1)

pub zip_weaker : {X Y : Type 0} (R S : X → Y → Type 0) (xs : List X) (ys : List Y) → ((x : X) (y : Y) → R x y → S x y) → AllZip R xs ys → AllZip S xs ys
zip_weaker R S [] [] f all = tt
zip_weaker R S [] (y ∷ ys) f all = absurd all
zip_weaker R S (x ∷ xs) [] f all = absurd all
zip_weaker R S (x ∷ xs) (y ∷ ys) f all = (f x y all.0, zip_weaker R S xs ys f all.1)

-- ---- pairs of texts

-- an element that is not there yet
distinct_more : {X : Type 0} (xs : List X) (y : X) → ((i j : ℕ) (x : X) → slice_get xs i ≡ Some x → slice_get xs j ≡ Some x → i ≡ j) → ((i : ℕ) → slice_get xs i ≢ Some y)
    → (i j : ℕ) (x : X) → slice_get (xs ++ y ∷ []) i ≡ Some x → slice_get (xs ++ y ∷ []) j ≡ Some x → i ≡ j
distinct_more xs y apart new i j x at other =
    elim (at_most xs y x i at) [
      | inl a ↦ elim (at_most xs y x j other) [
        | inl b ↦ apart i j x a b
        | inr b ↦ absurd (new i (a ∙ ap Some b.1))
      ]
      | inr a ↦ elim (at_most xs y x j other) [
        | inl b ↦ absurd (new j (b ∙ ap Some a.1))
        | inr b ↦ a.0 ∙ sym b.0
      ]
    ]

-- a number has one text, and a text one number
one_text : (texts : List (List ℕ)) (n : ℕ) (t u : List ℕ) → IsNumberOf texts n t → IsNumberOf texts n u → t ≡ u
one_text texts n t u a b =
    let e = a.1 in let f = b.1 in
    let same : a.0 ≡ b.0 = omega (arith, e, f) in
    same_Some t u (sym a.2 ∙ ap (slice_get texts) same ∙ b.2)

one_number : (texts : List (List ℕ)) (m n : ℕ) (t : List ℕ) → AreApart texts → IsNumberOf texts m t → IsNumberOf texts n t → m ≡ n
one_number texts m n t apart a b = a.1 ∙ ap suc (apart a.0 b.0 t a.2 b.2) ∙ sym b.1

-- the two parts of a pair by its numbers
slice_is : (texts ranges : List (List ℕ)) (k : ℕ × ℕ) (x y : List ℕ × List ℕ) → IsSlice texts ranges k x → IsSlice texts ranges k y → x ≡ y
slice_is texts ranges k x y a b = ap₂ (λ (p q : List ℕ). (p, q)) (one_text texts k.0 x.0 y.0 a.0 b.0) (same_Some x.1 y.1 (sym a.1 ∙ b.1))

slice_numbers : (texts ranges : List (List ℕ)) (k l : ℕ × ℕ) (x : List ℕ × List ℕ) → AreApart texts → AreApart ranges → IsSlice texts ranges k x
    → IsSlice texts ranges l x → k ≡ l
slice_numbers texts ranges k l x apart ranges_apart a b = ap₂ (λ (p q : ℕ). (p, q)) (one_number texts k.0 l.0 x.0 apart a.0 b.0) (ranges_apart k.1 l.1 x.1 a.1 b.1)

pub slices_none : (s : Slices) (texts : List (List ℕ)) → s.pairs.keys ≡ [] → texts_in s.ranges ≡ [] → HasSlices texts s []
slices_none s texts pairs ranges = record {
  each = subst (λ ks. AllZip (IsSlice texts (texts_in s.ranges)) ks []) (sym pairs) tt;
  apart = λ i j x at other. cc;
  ranges_apart = λ i j x at other. let no = ap (λ l. slice_get l i) (sym ranges) ∙ at in cc;
}

-- a pair that was entered
pub slice_entered : (texts : List (List ℕ)) (list : List (List ℕ × List ℕ)) (x : List ℕ × List ℕ) (old new : Slices) (key : ℕ × ℕ) (index : ℕ)
    → AreApart texts → HasSlices texts old list → IsNumberOf texts key.0 x.0
    → EntersText old.ranges new.ranges x.1 key.1 → new.pairs.keys ≡
    (if list_any (same_key key) old.pairs.keys then old.pairs.keys else old.pairs.keys ++ key ∷ [])
    → index ≡ position_or_len (same_key key) old.pairs.keys → EntersSlice texts list new x index
slice_entered texts list x old new key index apart has number enters keys at = by_test (list_any (same_key key) old.pairs.keys) refl
  where
    ranges : List (List ℕ)
    ranges = texts_in new.ranges

    own : IsSlice texts (texts_in new.ranges) key x
    own = (number, enters.2)

    grown : AllZip (IsSlice texts (texts_in new.ranges)) old.pairs.keys list
    grown = zip_weaker (IsSlice texts (texts_in old.ranges)) (IsSlice texts (texts_in new.ranges)) old.pairs.keys list
        (λ k y is. (is.0, ap (λ l. slice_get l k.1) enters.1 ∙ slice_get-front (texts_in old.ranges) enters.0 k.1 y.1 is.1)) has.each

    by_test : (b : Bool) → list_any (same_key key) old.pairs.keys ≡ b → EntersSlice texts list new x index
    by_test true q =
        let first = first_passes (same_key key) old.pairs.keys q in
        let same : new.pairs.keys ≡ old.pairs.keys = keys ∙ rw q refl in
        let there = zip_from (IsSlice texts (texts_in new.ranges)) old.pairs.keys list (position_or_len (same_key key) old.pairs.keys) first.0 grown first.1 in
        let is : there.0 ≡ x = slice_is texts (texts_in new.ranges) key there.0 x (subst (λ k. IsSlice texts (texts_in new.ranges) k there.0) (sym (same_is key first.0 first.2)) there.2) own in (
          [],
          record {
            each = subst (λ ks. AllZip (IsSlice texts (texts_in new.ranges)) ks (list ++ [])) (sym same)
                (subst (AllZip (IsSlice texts (texts_in new.ranges)) old.pairs.keys) (sym (append-nil list)) grown);
            apart = λ i j y a b. has.apart i j y (sym (ap (λ l. slice_get l i) (append-nil list)) ∙ a) (sym (ap (λ l. slice_get l j) (append-nil list)) ∙ b);
            ranges_apart = enters.3 has.ranges_apart;
          },
          ap (λ l. slice_get l index) (append-nil list) ∙ ap (slice_get list) at ∙ there.1 ∙ ap Some is,
        )
    by_test false q =
        let same : new.pairs.keys ≡ old.pairs.keys ++ key ∷ [] = keys ∙ rw q refl in
        let last : index ≡ length list = at ∙ none_first (same_key key) old.pairs.keys q ∙ same_len (IsSlice texts (texts_in new.ranges)) old.pairs.keys list grown in (
          x ∷ [],
          record {
            each = subst (λ ks. AllZip (IsSlice texts (texts_in new.ranges)) ks (list ++ x ∷ [])) (sym same)
                (all_zip_push (IsSlice texts (texts_in new.ranges)) old.pairs.keys list key x grown own);
            apart = distinct_more list x has.apart is_new;
            ranges_apart = enters.3 has.ranges_apart;
          },
          ap (slice_get (list ++ x ∷ [])) last ∙ slice_get-seam list x [],
        )
      where
        is_new : (i : ℕ) → slice_get list i ≢ Some x
        is_new i there =
            let k = zip_at (IsSlice texts (texts_in new.ranges)) old.pairs.keys list i x grown there in
            let e = slice_numbers texts (texts_in new.ranges) key k.0 x apart (enters.3 has.ranges_apart) own k.2 in
            let fails = not_there (same_key key) old.pairs.keys i k.0 q k.1 in
            let passes = is_same key in
            let no : same_key key key ≡ false = ap (same_key key) e ∙ fails in
            absurd (cc)

-- two numbers are the same if and only if the pairs are
pub same_slice : (list : List (List ℕ × List ℕ)) (m n : ℕ) (x y : List ℕ × List ℕ)
    → ((i j : ℕ) (z : List ℕ × List ℕ) → slice_get list i ≡ Some z → slice_get list j ≡ Some z → i ≡ j)
    → slice_get list m ≡ Some x → slice_get list n ≡ Some y → (m == n) ≡ (bytes_eq x.0 y.0 && bytes_eq x.1 y.1)
same_slice list m n x y apart a b = by_test (bytes_eq x.0 y.0 && bytes_eq x.1 y.1) refl
  where
    by_test : (q : Bool) → (bytes_eq x.0 y.0 && bytes_eq x.1 y.1) ≡ q → (m == n) ≡ q
    by_test true q =
        let both = and_parts (bytes_eq x.0 y.0) (bytes_eq x.1 y.1) q in
        let same : x ≡ y = ap₂ (λ (p r : List ℕ). (p, r)) ((bytes_eq-Decides x.0 y.0).0 both.0) ((bytes_eq-Decides x.1 y.1).0 both.1) in
        eq-eqb m n (apart m n y (a ∙ ap Some same) b)
    by_test false q = ne_eqb m n (λ e.
        let same : x ≡ y = same_Some x y (sym a ∙ ap (slice_get list) e ∙ b) in
        let yes = and_from (bytes_eq x.0 y.0) (bytes_eq x.1 y.1) ((bytes_eq-Decides x.0 y.0).1 (ap (λ (z : List ℕ × List ℕ). z.0) same))
        ((bytes_eq-Decides x.1 y.1).1 (ap (λ (z : List ℕ × List ℕ). z.1) same)) in
        absurd (cc))

-- the number of a pair, or none if it is not there
abbrev pub IsSliceAt : List (List ℕ × List ℕ) → List ℕ × List ℕ → Option ℕ → Type 0
IsSliceAt list x None = (i : ℕ) → slice_get list i ≢ Some x
IsSliceAt list x (Some j) = slice_get list j ≡ Some x

module _ (texts : List (List ℕ)) (s : Slices) (list : List (List ℕ × List ℕ)) (apart : AreApart texts) (has : HasSlices texts s list)
    (range : List ℕ) (r : ℕ) (range_at : slice_get (texts_in s.ranges) r ≡ Some range) where
  -- a search for a path that has a number
  pub slice_found : (m : ℕ) (path : List ℕ) → IsNumberOf texts m path → IsSliceAt list (path, range) (looked_up s.pairs.keys r (Some m))
  slice_found m path number = by_found (position (same_key (m, r)) s.pairs.keys) refl
    where
      by_found : (o : Option ℕ) → position (same_key (m, r)) s.pairs.keys ≡ o → IsSliceAt list (path, range) o
      by_found (Some j) e =
          let found = position_passes (same_key (m, r)) s.pairs.keys j e in
          let y = zip_from (IsSlice texts (texts_in s.ranges)) s.pairs.keys list j found.0 has.each found.1 in
          let is : y.0 ≡ (path, range) = slice_is texts (texts_in s.ranges) found.0 y.0 (path, range) y.2
          (subst (λ k. IsSlice texts (texts_in s.ranges) k (path, range)) (same_is (m, r) found.0 found.2) (number, range_at)) in
          y.1 ∙ ap Some is
      by_found None e = λ i there.
          let k = zip_at (IsSlice texts (texts_in s.ranges)) s.pairs.keys list i (path, range) has.each there in
          let same = slice_numbers texts (texts_in s.ranges) (m, r) k.0 (path, range) apart has.ranges_apart (number, range_at) k.2 in
          let fails = not_there (same_key (m, r)) s.pairs.keys i k.0 (position_none (same_key (m, r)) s.pairs.keys e) k.1 in
          let passes = is_same (m, r) in
          let no : same_key (m, r) (m, r) ≡ false = ap (same_key (m, r)) same ∙ fails in
          absurd (cc)

  -- a path that has none
  pub slice_absent : (path : List ℕ) → ((i : ℕ) → slice_get texts i ≢ Some path) → IsSliceAt list (path, range) None
  slice_absent path absent i there =
      let k = zip_at (IsSlice texts (texts_in s.ranges)) s.pairs.keys list i (path, range) has.each there in
      absent k.2.0.0 k.2.0.2
