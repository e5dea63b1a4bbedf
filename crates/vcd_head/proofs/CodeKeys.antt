-- The keys of the codes while a header is read.
use Rattle.vcd_head.proofs.Cited.{◌≡◌, ℕ, zero, suc, ◌+◌, ◌<◌, ◌==◌, not, Bool, true, false, cond, List, [], ◌∷◌, ◌++◌, length, map, find, bytes_eq, position, get_or, Fits, Some, None, refl, sym, ap, subst, ◌∙◌, arith, nat_lt, AllByRecursion, list_any, position_or_len, prefix_len, ltb-true, ltb-false, lt-ltb, or_parts, length-map, map-append, find_at, slice_get_past, bytes_eq-Decides, IdCode, has_text, Finds, AreBytes, key_in, same_key, same_bytes, there, AreKeysOf, is_key, shape_in, shape_of, CodeKey}
use Rattle.std.proofs.Common.{w8}

-- ---- one key, one code

positive : (k : ℕ) → (k == 0) ≡ false → 0 < k
positive zero p = cc
positive (suc k) p = omega arith

-- codes whose keys have one shape are the same
shape_tells : (t u : List ℕ) → AreBytes t → AreBytes u → shape_in t ≡ shape_in u → t ≡ u
shape_tells t u a b e = by_key (key_in t == 0) refl (key_in u == 0) refl e
  where
    by_key : (p : Bool) → (key_in t == 0) ≡ p → (q : Bool) → (key_in u == 0) ≡ q → cond p (0 ∷ 0 ∷ t) (key_in t ∷ []) ≡ cond q (0 ∷ 0 ∷ u) (key_in u ∷ []) → t ≡ u
    by_key true p true q e = cc
    by_key true p false q e = absurd (omega (arith, ap length e))
    by_key false p true q e = absurd (omega (arith, ap length e))
    by_key false p false q e = let same : key_in t ≡ key_in u = cc in same_key t u a b same (positive (key_in t) p)

same_test : (t u : List ℕ) → AreBytes t → AreBytes u → bytes_eq (shape_in t) (shape_in u) ≡ bytes_eq t u
same_test t u a b = by_text (bytes_eq t u) refl
  where
    by_text : (q : Bool) → bytes_eq t u ≡ q → bytes_eq (shape_in t) (shape_in u) ≡ q
    by_text true q = (bytes_eq-Decides (shape_in t) (shape_in u)).1 (ap shape_in (same_bytes t u q))
    by_text false q = by_shape (bytes_eq (shape_in t) (shape_in u)) refl
      where
        by_shape : (r : Bool) → bytes_eq (shape_in t) (shape_in u) ≡ r → r ≡ false
        by_shape false e = refl
        by_shape true e =
            let same : t ≡ u = shape_tells t u a b ((bytes_eq-Decides (shape_in t) (shape_in u)).0 e) in
            let yes : bytes_eq t u ≡ true = (bytes_eq-Decides t u).1 same in
            cc

-- ---- what is found

abbrev first_of : List (List ℕ) → List ℕ
first_of [] = []
first_of (x ∷ xs) = x

abbrev rest_of : List (List ℕ) → List (List ℕ)
rest_of [] = []
rest_of (x ∷ xs) = xs

-- the first code with these bytes is the one that is found
finds_first : (cs : List IdCode) (t : List ℕ) (b : Bool) → nat_lt (position_or_len (has_text t) cs) (length cs) ≡ b → Finds cs t (cond b (Some (position_or_len (has_text t) cs)) None)
finds_first cs t true q =
    let c = there cs (position_or_len (has_text t) cs) (ltb-true _ _ q) in
    (c.0, c.1, find_at (has_text t) cs ∙ c.1)
finds_first cs t false q = find_at (has_text t) cs ∙ slice_get_past cs (position_or_len (has_text t) cs) (ltb-false _ _ q)

module _ (t : List ℕ) (a : AreBytes t) where
  test_same : (k : CodeKey) (c : IdCode) → AreBytes c.text → shape_of k ≡ shape_in c.text → is_key t k ≡ bytes_eq t c.text
  test_same k c own e = ap (bytes_eq (shape_in t)) e ∙ same_test t c.text a own

  place_same : (keys : List CodeKey) (cs : List IdCode) → AllByRecursion (λ (c : IdCode). AreBytes c.text) cs → AreKeysOf keys cs
      → position_or_len (is_key t) keys ≡ position_or_len (has_text t) cs
  place_same [] [] h e = refl
  place_same [] (c ∷ cs) h e = absurd (omega (arith, ap length e))
  place_same (k ∷ keys) [] h e = absurd (omega (arith, ap length e))
  place_same (k ∷ keys) (c ∷ cs) h e =
      ap (λ b. cond (not b) (1 + prefix_len (λ x. not (is_key t x)) keys) 0) (test_same k c h.0 (ap first_of e))
      ∙ ap (λ n. cond (not (bytes_eq t c.text)) (1 + n) 0) (place_same keys cs h.1 (ap rest_of e))

  -- the index of a code's key is that of the code
  pub finds_key : (keys : List CodeKey) (cs : List IdCode) → AllByRecursion (λ (c : IdCode). AreBytes c.text) cs → AreKeysOf keys cs → Finds cs t (position (is_key t) keys)
  finds_key keys cs h e =
      let len : length keys ≡ length cs = sym (length-map keys shape_of) ∙ ap length e ∙ length-map cs (λ (c : IdCode). shape_in c.text) in
      let n = position_or_len (has_text t) cs in
      let same : position (is_key t) keys ≡ cond (nat_lt n (length cs)) (Some n) None =
      ap (λ i. cond (nat_lt i (length keys)) (Some i) None) (place_same keys cs h e) ∙ ap (λ m. cond (nat_lt n m) (Some n) None) len in
      subst (Finds cs t) (sym same) (finds_first cs t (nat_lt n (length cs)) refl)

  -- ---- a code more

  -- where its key is put after the others, they are those of one code more
  pub keys_more : (keys new : List CodeKey) (key : CodeKey) (cs : List IdCode) (c : IdCode) → AreKeysOf keys cs → shape_of key ≡ shape_in t
      → c.text ≡ t → new ≡ keys ++ key ∷ [] → AreKeysOf new (cs ++ c ∷ [])
  keys_more keys new key cs c e own same behind =
      ap (map shape_of) behind ∙ map-append shape_of keys (key ∷ []) ∙ ap (λ l. l ++ shape_of key ∷ []) e
      ∙ ap (λ x. map (λ (c : IdCode). shape_in c.text) cs ++ x ∷ []) (own ∙ ap shape_in (sym same)) ∙ sym (map-append (λ (c : IdCode). shape_in c.text) cs (c ∷ []))

  -- ---- a key that is inserted

  -- where no key is the same, no code has these bytes
  pub none_entered : (keys : List CodeKey) (cs : List IdCode) → AllByRecursion (λ (c : IdCode). AreBytes c.text) cs → AreKeysOf keys cs
      → list_any (is_key t) keys ≡ false → find (has_text t) cs ≡ None
  none_entered [] [] h e n = refl
  none_entered [] (c ∷ cs) h e n = absurd (omega (arith, ap length e))
  none_entered (k ∷ keys) [] h e n = absurd (omega (arith, ap length e))
  none_entered (k ∷ keys) (c ∷ cs) h e n =
      let p = or_parts (is_key t k) (list_any (is_key t) keys) n in
      ap (λ b. cond b (Some c) (find (has_text t) cs)) (sym (test_same k c h.0 (ap first_of e)) ∙ p.0) ∙ none_entered keys cs h.1 (ap rest_of e) p.1

  -- there are as many
  pub len_of : (keys : List CodeKey) (cs : List IdCode) → AreKeysOf keys cs → length keys ≡ length cs
  len_of keys cs e = sym (length-map keys shape_of) ∙ ap length e ∙ length-map cs (λ (c : IdCode). shape_in c.text)

  -- one that is there is at the index of the code with these bytes
  pub finds_entered : (keys : List CodeKey) (cs : List IdCode) (position : ℕ) → AllByRecursion (λ (c : IdCode). AreBytes c.text) cs
      → AreKeysOf keys cs → position ≡ position_or_len (is_key t) keys → position < length keys → Finds cs t (Some position)
  finds_entered keys cs position h e is l =
      let n = position_or_len (is_key t) keys in
      let below : nat_lt n (length keys) ≡ true = lt-ltb n (length keys) (omega (arith, is, l)) in
      subst (Finds cs t) (ap (λ b. cond b (Some n) None) below ∙ ap Some (sym is)) (finds_key keys cs h e)

-- ---- bytes

pub all_bytes : (bs : List ℕ) → ((i : ℕ) → Fits w8 (get_or bs i 0)) → AreBytes bs
all_bytes [] h = tt
all_bytes (b ∷ bs) h = ((h 0).fits, all_bytes bs (λ i. h (suc i)))
