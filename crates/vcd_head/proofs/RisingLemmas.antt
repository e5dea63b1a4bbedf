-- Numbers of codes that rise, and the keys that they encode.
use Rattle.vcd_head.proofs.Cited.{◌≡◌, ℕ, zero, suc, ◌+◌, ◌-◌, ◌<◌, ◌≤◌, ◌==◌, ◌||◌, not, nat_eq, nat_lt, Bool, true, false, cond, MatchResult, List, [], ◌∷◌, ◌++◌, length, map, get_or, slice_get, position, bytes_eq, unwrap_or, Result, Ok, Err, Some, None, refl, sym, ap, subst, ◌∙◌, arith, nat_cmp, list_any, position_or_len, IsBinarySearchResult, eq-eqb, eqb-false, eqb-true, le-ltb, lt-ltb, ltb-true, ltb-false, ne_eqb, or_parts, append-nil, length-append, length-map, map-append, list_any-append, searched, passes_at_first, position_or_len_is, none-some, same_Some, insert_key, key_in, Rises, RisesFrom, keys_behind, EntersKey, is_key, same_shape, shape_in, shape_of, CodeKey, Codes, and-false, and-true}
use Rattle.std.proofs.Common.{append_assoc}
use Rattle.vcd_head.specs.declared.code_key.CodeKey.TheVariants as key

-- ---- the last of them

-- the last of these numbers, or the one before them
abbrev pub last_in : ℕ → List ℕ → ℕ
last_in n [] = n
last_in n (x ∷ xs) = last_in x xs

last_at : (x d : ℕ) (xs : List ℕ) → unwrap_or (slice_get (x ∷ xs) (length xs)) d ≡ last_in x xs
last_at x d [] = refl
last_at x d (y ∷ ys) = last_at y d ys

pub last_is : (xs : List ℕ) → unwrap_or (slice_get xs (length xs - 1)) 0 ≡ last_in 0 xs
last_is [] = refl
last_is (x ∷ xs) = let e : length (x ∷ xs) - 1 ≡ length xs = omega arith in ap (λ i. unwrap_or (slice_get (x ∷ xs) i) 0) e ∙ last_at x 0 xs

below_last : (n : ℕ) (xs : List ℕ) → RisesFrom n xs → n ≤ last_in n xs
below_last n [] h = omega arith
below_last n (x ∷ xs) h = let more = below_last x xs h.1 in omega (arith, h.0, more)

-- a number above the last one is not among them
pub none_above : (n m : ℕ) (xs : List ℕ) → RisesFrom n xs → last_in n xs < m → list_any (nat_eq m) xs ≡ false
none_above n m [] h l = refl
none_above n m (x ∷ xs) h l =
    let below = below_last x xs h.1 in
    let differs : nat_eq m x ≡ false = ne_eqb m x (λ e. omega (arith, e, l, below)) in
    ap (λ b. b || list_any (nat_eq m) xs) differs ∙ none_above x m xs h.1 l

-- and rises after them
pub rises_more : (n m : ℕ) (xs : List ℕ) → RisesFrom n xs → last_in n xs < m → RisesFrom n (xs ++ m ∷ [])
rises_more n m [] h l = (l, tt)
rises_more n m (x ∷ xs) h l = (h.0, rises_more x m xs h.1 l)

-- ---- one before the other

above : (n : ℕ) (xs : List ℕ) (i : ℕ) → RisesFrom n xs → i < length xs → n < get_or xs i 0
above n [] i h l = absurd (omega (arith, l))
above n (x ∷ xs) zero h l = h.0
above n (x ∷ xs) (suc i) h l = let more = above x xs i h.1 (omega (arith, l)) in omega (arith, h.0, more)

rises_at : (n : ℕ) (xs : List ℕ) (i j : ℕ) → RisesFrom n xs → i < j → j < length xs → get_or xs i 0 < get_or xs j 0
rises_at n [] i j h b l = absurd (omega (arith, l))
rises_at n (x ∷ xs) i zero h b l = absurd (omega (arith, b))
rises_at n (x ∷ xs) zero (suc j) h b l = above x xs j h.1 (omega (arith, l))
rises_at n (x ∷ xs) (suc i) (suc j) h b l = rises_at x xs i j h.1 (omega (arith, b)) (omega (arith, l))

never_falls : (xs : List ℕ) (i j : ℕ) → Rises xs → i ≤ j → j < length xs → get_or xs i 0 ≤ get_or xs j 0
never_falls xs i j h b l = by_test (nat_eq i j) refl
  where
    by_test : (q : Bool) → nat_eq i j ≡ q → get_or xs i 0 ≤ get_or xs j 0
    by_test true q = let e = ap (λ k. get_or xs k 0) (eqb-true i j q) in omega (arith, e)
    by_test false q =
        let less = rises_at 0 xs i j h (omega (arith, b, eqb-false i j q)) l in omega (arith, less)

-- ---- the index of a number

none_is : {X : Type 0} (p : X → Bool) (xs : List X) → list_any p xs ≡ false → position_or_len p xs ≡ length xs
none_is p [] n = refl
none_is p (x ∷ xs) n =
    let e = or_parts (p x) (list_any p xs) n in
    let rest = none_is p xs e.1 in
    ap (λ b. cond (not b) (1 + position_or_len p xs) 0) e.0 ∙ (omega (arith, rest))

some_is : {X : Type 0} (p : X → Bool) (xs : List X) → list_any p xs ≡ true → position_or_len p xs < length xs
some_is p [] e = cc
some_is p (x ∷ xs) e = by_test (p x) e (some_is p xs)
  where
    by_test : (b : Bool) → (b || list_any p xs) ≡ true → (list_any p xs ≡ true → position_or_len p xs < length xs) → cond (not b) (1 + position_or_len p xs) 0 < length (x ∷ xs)
    by_test true e more = omega arith
    by_test false e more = let l = more e in omega (arith, l)

-- what none passes has no index
pub place_none : {X : Type 0} (p : X → Bool) (xs : List X) → list_any p xs ≡ false → position p xs ≡ None
place_none p xs n = ap (λ i. cond (nat_lt i (length xs)) (Some i) None) (none_is p xs n) ∙ ap (λ b. cond b (Some (length xs)) None) (le-ltb (length xs) (length xs) (omega arith))

-- what the first one passes is at its index
pub place_first : {X : Type 0} (p : X → Bool) (xs : List X) (i : ℕ) → position_or_len p xs ≡ i → i < length xs → position p xs ≡ Some i
place_first p xs i first l = ap (λ n. cond (nat_lt n (length xs)) (Some n) None) first ∙ ap (λ b. cond b (Some i) None) (lt-ltb i (length xs) l)

place_found : (m : ℕ) (xs : List ℕ) (i : ℕ) → Rises xs → i < length xs → get_or xs i 0 ≡ m → position (nat_eq m) xs ≡ Some i
place_found m xs i h l at =
    let first : position_or_len (nat_eq m) xs ≡ i = position_or_len_is (nat_eq m) xs i 0 (omega (arith, l)) (λ k b.
    let less = rises_at 0 xs k i h b l in ne_eqb m (get_or xs k 0) (λ e. omega (arith, e, at, less))) (λ _. eq-eqb m (get_or xs i 0) (sym at)) in
    place_first (nat_eq m) xs i first l

pub none_at : {X : Type 0} (p : X → Bool) (d : X) (xs : List X) → ((k : ℕ) → k < length xs → p (get_or xs k d) ≡ false) → list_any p xs ≡ false
none_at p d [] h = refl
none_at p d (x ∷ xs) h = ap (λ b. b || list_any p xs) (h 0 (omega arith)) ∙ none_at p d xs (λ k l. h (suc k) (omega (arith, l)))

-- a number above the last one has none
pub place_above : (m : ℕ) (xs : List ℕ) → Rises xs → last_in 0 xs < m → position (nat_eq m) xs ≡ None
place_above m xs h l = place_none (nat_eq m) xs (none_above 0 m xs h l)

-- a binary search finds it
pub place_searched : (m : ℕ) (xs : List ℕ) (r : Result ℕ ℕ) → Rises xs → IsBinarySearchResult (λ y. nat_cmp y m) xs r
    → MatchResult r (λ i. position (nat_eq m) xs ≡ Some i) (λ _. position (nat_eq m) xs ≡ None)
place_searched m xs r h found = told r (searched xs m r found (λ i j b l. never_falls xs i j h b l))
  where
    told : (r : Result ℕ ℕ) → MatchResult r (λ i. (i < length xs) × (get_or xs i 0 ≡ m)) (λ i. (i ≤ length xs)
        × ((k : ℕ) → k < i → get_or xs k 0 < m) × ((k : ℕ) → i ≤ k → k < length xs → m < get_or xs k 0))
        → MatchResult r (λ i. position (nat_eq m) xs ≡ Some i) (λ _. position (nat_eq m) xs ≡ None)
    told (Ok i) f = place_found m xs i h f.0 f.1
    told (Err i) f = place_none (nat_eq m) xs (none_at (nat_eq m) 0 xs (λ k l. by_side k l (nat_lt k i) refl))
      where
        by_side : (k : ℕ) → k < length xs → (q : Bool) → nat_lt k i ≡ q → nat_eq m (get_or xs k 0) ≡ false
        by_side k l true q = let less = f.1 k (ltb-true k i q) in ne_eqb m (get_or xs k 0) (λ e. omega (arith, e, less))
        by_side k l false q = let more = f.2 k (ltb-false k i q) l in ne_eqb m (get_or xs k 0) (λ e. omega (arith, e, more))

-- what has an index is there
pub place_within : {X : Type 0} (p : X → Bool) (xs : List X) (i : ℕ) → position p xs ≡ Some i → (position_or_len p xs ≡ i) × (i < length xs)
place_within p xs i e = by_test (nat_lt (position_or_len p xs) (length xs)) refl e
  where
    by_test : (b : Bool) → nat_lt (position_or_len p xs) (length xs) ≡ b → cond b (Some (position_or_len p xs)) None ≡ Some i → (position_or_len p xs ≡ i) × (i < length xs)
    by_test true q e = let same = same_Some (position_or_len p xs) i e in let l = ltb-true _ _ q in (same, omega (arith, same, l))
    by_test false q e = absurd (none-some i e)

-- and what has none is not
pub none_there : {X : Type 0} (p : X → Bool) (xs : List X) → position p xs ≡ None → list_any p xs ≡ false
none_there p xs e = by_any (list_any p xs) refl
  where
    by_any : (b : Bool) → list_any p xs ≡ b → b ≡ false
    by_any false q = refl
    by_any true q =
        let less = lt-ltb _ _ (some_is p xs q) in
        absurd (none-some (position_or_len p xs) (sym e ∙ ap (λ b. cond b (Some (position_or_len p xs)) None) less))

number_positive : (m : ℕ) (xs : List ℕ) (i : ℕ) → Rises xs → position (nat_eq m) xs ≡ Some i → 0 < m
number_positive m xs i h e =
    let at = place_within (nat_eq m) xs i e in
    let first : position_or_len (nat_eq m) xs < length xs = omega (arith, at.0, at.1) in
    let same = eqb-true m _ (passes_at_first (nat_eq m) xs 0 first) in
    let more = above 0 xs (position_or_len (nat_eq m) xs) h first in
    omega (arith, same, more)

-- ---- lists one after the other

behind : {X : Type 0} (p : X → Bool) (xs ys : List X) → list_any p xs ≡ false → position_or_len p (xs ++ ys) ≡ length xs + position_or_len p ys
behind p [] ys n = omega arith
behind p (x ∷ xs) ys n =
    let e = or_parts (p x) (list_any p xs) n in
    let rest = behind p xs ys e.1 in
    ap (λ b. cond (not b) (1 + position_or_len p (xs ++ ys)) 0) e.0 ∙ (omega (arith, rest))

-- ---- the keys of numbers

not_zero : (m : ℕ) → 0 < m → (m == 0) ≡ false
not_zero m l = ne_eqb m 0 (λ e. omega (arith, e, l))

module _ (t : List ℕ) where
  key_number : (n : ℕ) → (key_in t == 0) ≡ false → is_key t (key.Short n) ≡ nat_eq (key_in t) n
  key_number n q = ap (λ b. bytes_eq (cond b (0 ∷ 0 ∷ t) (key_in t ∷ [])) (n ∷ [])) q ∙ and-true (nat_eq (key_in t) n)

  other_number : (n : ℕ) → nat_eq (key_in t) n ≡ false → is_key t (key.Short n) ≡ false
  other_number n e = by_key (key_in t == 0) refl
    where
      by_key : (b : Bool) → (key_in t == 0) ≡ b → is_key t (key.Short n) ≡ false
      by_key true q = ap (λ b. bytes_eq (cond b (0 ∷ 0 ∷ t) (key_in t ∷ [])) (n ∷ [])) q ∙ and-false (nat_eq 0 n)
      by_key false q = key_number n q ∙ e

  none_rising : (xs : List ℕ) → list_any (nat_eq (key_in t)) xs ≡ false → list_any (is_key t) (map (λ n. key.Short n) xs) ≡ false
  none_rising [] n = refl
  none_rising (x ∷ xs) n =
      let e = or_parts (nat_eq (key_in t) x) (list_any (nat_eq (key_in t)) xs) n in
      ap (λ b. b || list_any (is_key t) (map (λ n. key.Short n) xs)) (other_number x e.0) ∙ none_rising xs e.1

  -- a key that is no number of these is only among the others
  pub none_keyed : (xs : List ℕ) (keys : List CodeKey) → list_any (nat_eq (key_in t)) xs ≡ false → list_any (is_key t) (keys_behind xs keys) ≡ list_any (is_key t) keys
  none_keyed xs keys n = list_any-append (is_key t) (map (λ n. key.Short n) xs) keys ∙ ap (λ b. b || list_any (is_key t) keys) (none_rising xs n)

  behind_rising : (xs : List ℕ) (keys : List CodeKey) → list_any (nat_eq (key_in t)) xs ≡ false
      → position_or_len (is_key t) (keys_behind xs keys) ≡ length xs + position_or_len (is_key t) keys
  behind_rising xs keys n = behind (is_key t) (map (λ n. key.Short n) xs) keys (none_rising xs n) ∙ ap (λ l. l + position_or_len (is_key t) keys) (length-map xs (λ n. key.Short n))

  same_place : (xs : List ℕ) (keys : List CodeKey) → (key_in t == 0) ≡ false → position_or_len (nat_eq (key_in t)) xs < length xs
      → position_or_len (is_key t) (keys_behind xs keys) ≡ position_or_len (nat_eq (key_in t)) xs
  same_place [] keys q l = absurd (omega (arith, l))
  same_place (x ∷ xs) keys q l = ap (λ b. cond (not b) (1 + position_or_len (is_key t) (keys_behind xs keys)) 0) (key_number x q) ∙ by_test (nat_eq (key_in t) x) l (same_place xs keys q)
    where
      by_test : (b : Bool) → cond (not b) (1 + position_or_len (nat_eq (key_in t)) xs) 0 < length (x ∷ xs)
          → (position_or_len (nat_eq (key_in t)) xs < length xs → position_or_len (is_key t) (keys_behind xs keys) ≡ position_or_len
          (nat_eq (key_in t)) xs)
          → cond (not b) (1 + position_or_len (is_key t) (keys_behind xs keys)) 0 ≡ cond (not b) (1 + position_or_len (nat_eq (key_in t)) xs) 0
      by_test true l more = refl
      by_test false l more = ap (λ n. 1 + n) (more (omega (arith, l)))

  pub length_keys : (xs : List ℕ) (keys : List CodeKey) → length (keys_behind xs keys) ≡ length xs + length keys
  length_keys xs keys = length-append (map (λ n. key.Short n) xs) keys ∙ ap (λ l. l + length keys) (length-map xs (λ n. key.Short n))

  -- ---- a key that is looked for

  place_key : (xs : List ℕ) (keys : List CodeKey) (i : ℕ) → Rises xs → position (nat_eq (key_in t)) xs ≡ Some i
      → (position_or_len (is_key t) (keys_behind xs keys) ≡ i) × (i < length (keys_behind xs keys))
  place_key xs keys i h e =
      let at = place_within (nat_eq (key_in t)) xs i e in
      let q = not_zero (key_in t) (number_positive (key_in t) xs i h e) in
      (same_place xs keys q (omega (arith, at.0, at.1)) ∙ at.0, omega (arith, at.1, length_keys xs keys))

  -- ---- a key that is entered

  module _ (before after : Codes) (list : after.list.items ≡ before.list.items) (h : Rises before.rising.items) where
    -- the next number
    pub enters_number : (m place : ℕ) → m ≡ key_in t → before.keys.keys ≡ [] → after.keys.keys ≡ []
        → after.rising.items ≡ before.rising.items ++ m ∷ [] → last_in 0 before.rising.items < m → place ≡ length before.rising.items
        → EntersKey t before after place true
    enters_number m place is none_before none_after more l at =
        let xs = before.rising.items in
        let absent = none_above 0 (key_in t) xs h (omega (arith, is, l)) in
        let q = not_zero (key_in t) (omega (arith, is, l)) in
        record {
          rises = subst Rises (sym more) (rises_more 0 m xs h l);
          list = list;
          entered = record {
            absent = none_keyed xs before.keys.keys absent ∙ ap (list_any (is_key t)) none_before;
            key = key.Short m;
            own = ap (λ n. n ∷ []) is ∙ sym (ap (λ b. cond b (0 ∷ 0 ∷ t) (key_in t ∷ [])) q);
            behind = ap (λ ks. keys_behind after.rising.items ks) none_after ∙ append-nil (map (λ n. key.Short n) after.rising.items)
                ∙ ap (map (λ n. key.Short n)) more ∙ map-append (λ n. key.Short n) xs (m ∷ [])
                ∙ ap (λ l. l ++ key.Short m ∷ []) (sym (append-nil (map (λ n. key.Short n) xs)) ∙ ap (λ ks. keys_behind xs ks) (sym none_before));
            last = let len = length_keys xs before.keys.keys in let none = ap length none_before in omega (arith, at, len, none);
          };
        }

    -- a number that is there
    pub enters_known : (place : ℕ) → after.keys.keys ≡ before.keys.keys → after.rising.items ≡ before.rising.items
        → position (nat_eq (key_in t)) before.rising.items ≡ Some place → EntersKey t before after place false
    enters_known place keys rising e =
        let at = place_key before.rising.items before.keys.keys place h e in
        record {
          rises = subst Rises (sym rising) h;
          list = list;
          entered = record { at = sym at.0; within = at.1; same = ap (λ xs. keys_behind xs after.keys.keys) rising ∙ ap (keys_behind before.rising.items) keys };
        }

    -- a key that the set has
    pub enters_found : (i place : ℕ) → after.keys.keys ≡ before.keys.keys → after.rising.items ≡ before.rising.items
        → list_any (nat_eq (key_in t)) before.rising.items ≡ false → position (is_key t) before.keys.keys ≡ Some i
        → place ≡ length before.rising.items + i → EntersKey t before after place false
    enters_found i place keys rising none e is =
        let at = place_within (is_key t) before.keys.keys i e in
        record {
          rises = subst Rises (sym rising) h;
          list = list;
          entered = record {
            at = is ∙ ap (λ n. length before.rising.items + n) (sym at.0) ∙ sym (behind_rising before.rising.items before.keys.keys none);
            within = let len = length_keys before.rising.items before.keys.keys in omega (arith, is, at.1, len);
            same = ap (λ xs. keys_behind xs after.keys.keys) rising ∙ ap (keys_behind before.rising.items) keys;
          };
        }

    -- any other key, as the set takes it
    pub enters_set : (k : CodeKey) (i place : ℕ) (is_new : Bool) → after.rising.items ≡ before.rising.items
        → list_any (nat_eq (key_in t)) before.rising.items ≡ false → shape_of k ≡ shape_in t → is_new ≡ not (list_any (same_shape k) before.keys.keys)
        → after.keys.keys ≡ insert_key same_shape before.keys.keys k → i ≡ position_or_len (same_shape k) before.keys.keys
        → i < length after.keys.keys → place ≡ length before.rising.items + i → EntersKey t before after place is_new
    enters_set k i place is_new rising none own added made at within is =
        let test : same_shape k ≡ is_key t = ap (λ (s : List ℕ). λ (x : CodeKey). bytes_eq s (shape_of x)) own in
        by_any (list_any (is_key t) before.keys.keys) refl (added ∙ ap (λ p. not (list_any p before.keys.keys)) test) (made
        ∙ ap (λ p. cond (list_any p before.keys.keys) before.keys.keys (before.keys.keys ++ k ∷ [])) test) (at
        ∙ ap (λ p. position_or_len p before.keys.keys) test)
      where
        by_any : (b : Bool) → list_any (is_key t) before.keys.keys ≡ b → is_new ≡ not (list_any (is_key t) before.keys.keys)
            → after.keys.keys ≡ cond (list_any (is_key t) before.keys.keys) before.keys.keys (before.keys.keys ++ k ∷ [])
            → i ≡ position_or_len (is_key t) before.keys.keys → EntersKey t before after place is_new
        by_any true q added made at =
            let keys : after.keys.keys ≡ before.keys.keys = made ∙ ap (λ b. cond b before.keys.keys (before.keys.keys ++ k ∷ [])) q in
            let known : false ≡ is_new = sym (added ∙ ap not q) in
            subst (EntersKey t before after place) known (enters_found i place keys rising none
            (place_first (is_key t) before.keys.keys i (sym at) (let same = ap length keys in omega (arith, within, same))) is)
        by_any false q added made at =
            let keys : after.keys.keys ≡ before.keys.keys ++ k ∷ [] = made ∙ ap (λ b. cond b before.keys.keys (before.keys.keys ++ k ∷ [])) q in
            let new : true ≡ is_new = sym (added ∙ ap not q) in
            let last = none_is (is_key t) before.keys.keys q in
            subst (EntersKey t before after place) new
            (record {
              rises = subst Rises (sym rising) h;
              list = list;
              entered = record {
                absent = none_keyed before.rising.items before.keys.keys none ∙ q;
                key = k;
                own = own;
                behind = ap (λ ys. keys_behind ys after.keys.keys) rising ∙ ap (keys_behind before.rising.items) keys
                    ∙ sym (append_assoc (map (λ n. key.Short n) before.rising.items) before.keys.keys (k ∷ []));
                last = let len = length_keys before.rising.items before.keys.keys in omega (arith, is, at, last, len);
              };
            })
