-- The outermost pairs of names select what all pairs of names select.
use Rattle.vcd_laws.proofs.Cited.{◌≡◌, ◌⊎◌, ℕ, zero, suc, ◌<◌, ◌≤◌, ◌==◌, ◌&&◌, ◌||◌, not, Bool, true, false, cond, bytes_eq, List, [], ◌∷◌, ◌++◌, length, drop, filter, filter_map, flat_map, Option, Some, None, option_map, is_none, is_some, inl, inr, refl, sym, ap, ◌∙◌, subst, arith, append_assoc, append-nil, length-append, list_any, cons_option, eq-eqb, ne_eqb, eqb-true, and_parts, filter_map-append, bytes_eq-Decides, each_after, each_after-append, Header, Asked, Names, selects_path}
use Rattle.std.proofs.Math.Seq.{drop-append_seam}
use Rattle.vcd_model.specs.Compare.{Named, Pair, is_fit, is_left_in, all_named}
use Rattle.vcd_model.specs.Within.{alone_in, at_path, covers, if_outermost, outermost, pair_at, pairs_in, places_of, rest_of, turned}
use Rattle.vcd_laws.specs.Selecting.{HaveTheSame, OutermostHaveAllPairs, with_counterparts}
use Rattle.vcd_laws.proofs.WrittenCodes.{In, from_any, from_contained, from_filter, in_left, in_right, to_contained, to_filter}

-- ---- elements

pub from_filter_map : {X Y : Type 0} (f : X → Option Y) (xs : List X) (y : Y) → In y (filter_map f xs) → (x : X) × In x xs × (f x ≡ Some y)
from_filter_map f [] y i = absurd i
from_filter_map f (x ∷ xs) y i = by_option (f x) refl i (from_filter_map f xs y)
  where
    by_option : (o : Option _) → f x ≡ o → In y (cons_option o (filter_map f xs))
        → (In y (filter_map f xs) → (z : _) × In z xs × (f z ≡ Some y)) → (z : _) × In z (x ∷ xs) × (f z ≡ Some y)
    by_option None e i more = let m = more i in (m.0, inr m.1, m.2)
    by_option (Some z) e (inl same) more = (x, inl refl, e ∙ ap Some (sym same))
    by_option (Some z) e (inr i) more = let m = more i in (m.0, inr m.1, m.2)

pub to_filter_map : {X Y : Type 0} (f : X → Option Y) (xs : List X) (x : X) (y : Y) → In x xs → f x ≡ Some y → In y (filter_map f xs)
to_filter_map f [] x y i e = absurd i
to_filter_map f (z ∷ xs) x y (inl same) e = rw (sym same, e) (inl refl)
to_filter_map f (z ∷ xs) x y (inr i) e = by_option (f z) (to_filter_map f xs x y i e)
  where
    by_option : (o : Option _) → In y (filter_map f xs) → In y (cons_option o (filter_map f xs))
    by_option None j = j
    by_option (Some w) j = inr j

pub in_parts : {X : Type 0} (xs ys : List X) (x : X) → In x (xs ++ ys) → In x xs ⊎ In x ys
in_parts [] ys x i = inr i
in_parts (z ∷ xs) ys x (inl e) = inl (inl e)
in_parts (z ∷ xs) ys x (inr i) = elim (in_parts xs ys x i) [ inl j ↦ inl (inr j) | inr j ↦ inr j ]

pub from_flat : {X Y : Type 0} (f : X → List Y) (xs : List X) (y : Y) → In y (flat_map f xs) → (x : X) × In x xs × In y (f x)
from_flat f [] y i = absurd i
from_flat f (x ∷ xs) y i = elim (in_parts (f x) (flat_map f xs) y i) [
  | inl j ↦ (x, inl refl, j)
  | inr j ↦ (let m = from_flat f xs y j in (m.0, inr m.1, m.2))
]

to_flat : {X Y : Type 0} (f : X → List Y) (xs : List X) (x : X) (y : Y) → In x xs → In y (f x) → In y (flat_map f xs)
to_flat f [] x y i j = absurd i
to_flat f (z ∷ xs) x y (inl e) j = in_left (f z) (flat_map f xs) y (subst (λ w. In y (f w)) e j)
to_flat f (z ∷ xs) x y (inr i) j = in_right (f z) (flat_map f xs) y (to_flat f xs x y i j)

split_at : {X : Type 0} (xs : List X) (x : X) → In x xs → (front back : List X) × (xs ≡ front ++ x ∷ back)
split_at [] x i = absurd i
split_at (z ∷ xs) x (inl e) = ([], xs, ap (λ w. w ∷ xs) (sym e))
split_at (z ∷ xs) x (inr i) = let s = split_at xs x i in (z ∷ s.0, s.1, ap (λ l. z ∷ l) s.2)

-- ---- what follows a name

-- nothing, or a dot and more
abbrev pub Follows : List ℕ → Type 0
Follows r = selects_path r [] ≡ true

byte_by_byte : (x y : ℕ) (path name : List ℕ) → selects_path (x ∷ path) (y ∷ name) ≡ true → (x ≡ y) × (selects_path path name ≡ true)
byte_by_byte x y path name h = by_test (x == y) refl
  where
    by_test : (b : Bool) → (x == y) ≡ b → (x ≡ y) × (selects_path path name ≡ true)
    by_test true e =
        let same : x ≡ y = eqb-true x y e in
        let back : (y == x) ≡ true = eq-eqb y x (sym same) in
        let is : selects_path (x ∷ path) (y ∷ name) ≡ selects_path path name = rw (e, back) refl in
        (same, sym is ∙ h)
    by_test false e =
        let back : (y == x) ≡ false = ne_eqb y x (λ s. (let yes : (x == y) ≡ true = eq-eqb x y (sym s) in let no : true ≡ false = sym yes ∙ e in cc)) in
        let is : selects_path (x ∷ path) (y ∷ name) ≡ false = rw (e, back) refl in
        let no : true ≡ false = sym h ∙ is in absurd (cc)

begun : (path name : List ℕ) → selects_path path name ≡ true → (r : List ℕ) × (path ≡ name ++ r) × Follows r
begun path [] h = (path, refl, h)
begun [] (y ∷ name) h = cc
begun (x ∷ path) (y ∷ name) h =
    let both = byte_by_byte x y path name h in
    let more = begun path name both.1 in
    (more.0, (let e = both.0 in let f = more.1 in cc), more.2)

selected_front : (name r : List ℕ) → Follows r → selects_path (name ++ r) name ≡ true
selected_front [] r f = f
selected_front (x ∷ name) r f = let more = selected_front name r f in rw (eq-eqb x x refl) more

pub follows_on : (r s : List ℕ) → Follows r → Follows s → Follows (r ++ s)
follows_on [] s f g = g
follows_on (x ∷ r) s f g = f

pub from_rest : (name path r : List ℕ) → rest_of name path ≡ Some r → (path ≡ name ++ r) × Follows r
from_rest name path r e = by_test (selects_path path name) refl e
  where
    by_test : (b : Bool) → selects_path path name ≡ b → cond b (Some (drop (length name) path)) None ≡ Some r → (path ≡ name ++ r) × Follows r
    by_test false h e = cc
    by_test true h e =
        let s = begun path name h in
        let dropped : drop (length name) path ≡ s.0 = ap (drop (length name)) s.1 ∙ drop-append_seam name s.0 in
        let same : drop (length name) path ≡ r = cc in
        let is : s.0 ≡ r = sym dropped ∙ same in
        (s.1 ∙ ap (λ l. name ++ l) is, subst Follows is s.2)

to_rest : (name r : List ℕ) → Follows r → rest_of name (name ++ r) ≡ Some r
to_rest name r f = rw (selected_front name r f) (ap Some (drop-append_seam name r))

-- ---- one pair of names inside another

-- the same follows the names of the one in the names of the other
abbrev pub Inside : Names → Names → Type 0
Inside n m = (r : List ℕ) × (n.0 ≡ m.0 ++ r) × (n.1 ≡ m.1 ++ r) × Follows r

inside_itself : (n : Names) → Inside n n
inside_itself n = ([], sym (append-nil n.0), sym (append-nil n.1), refl)

inside_on : (n m k : Names) → Inside n m → Inside m k → Inside n k
inside_on n m k a b = (
  b.0 ++ a.0,
  a.1 ∙ ap (λ l. l ++ a.0) b.1 ∙ append_assoc k.0 b.0 a.0,
  a.2 ∙ ap (λ l. l ++ a.0) b.2 ∙ append_assoc k.1 b.0 a.0,
  follows_on b.0 a.0 b.3 a.3,
)

inside_turned : (n m : Names) → Inside n m → Inside (turned n) (turned m)
inside_turned n m i = (i.0, i.2, i.1, i.3)

covers_inside : (m n : Names) → covers m n ≡ true → Inside n m
covers_inside m n h = by_rest (rest_of m.0 n.0) refl h
  where
    by_rest : (o : Option (List ℕ)) → rest_of m.0 n.0 ≡ o → elim o [ Some r ↦ bytes_eq n.1 (m.1 ++ r) | None ↦ false ] ≡ true → Inside n m
    by_rest None e h = cc
    by_rest (Some r) e h = let f = from_rest m.0 n.0 r e in (r, f.0, (bytes_eq-Decides n.1 (m.1 ++ r)).0 h, f.1)

pub inside_covers : (n m : Names) → Inside n m → covers m n ≡ true
inside_covers n m i =
    let at : rest_of m.0 n.0 ≡ Some i.0 = ap (rest_of m.0) i.1 ∙ to_rest m.0 i.0 i.3 in
    ap (λ (o : Option (List ℕ)). elim o [ Some r ↦ bytes_eq n.1 (m.1 ++ r) | None ↦ false ]) at
    ∙ (bytes_eq-Decides n.1 (m.1 ++ i.0)).1 i.2

-- a pair of names inside another that does not cover it in turn is longer
longer : (n m : Names) → Inside n m → covers n m ≡ false → length m.0 < length n.0
longer n m i out = by_rest i.0 i.1 i.2 refl
  where
    by_rest : (r : List ℕ) → n.0 ≡ m.0 ++ r → n.1 ≡ m.1 ++ r → i.0 ≡ r → length m.0 < length n.0
    by_rest [] a b e =
        let back : Inside m n = ([], sym (append-nil m.0) ∙ sym a ∙ sym (append-nil n.0), sym (append-nil m.1) ∙ sym b ∙ sym (append-nil n.1), refl) in
        let no : true ≡ false = sym (inside_covers m n back) ∙ out in absurd (cc)
    by_rest (x ∷ r) a b e = let l = ap length a in let k = length-append m.0 (x ∷ r) in omega (arith, l, k)

no_shorter : (n m : Names) → Inside n m → length m.0 ≤ length n.0
no_shorter n m i = let l = ap length i.1 in let k = length-append m.0 i.0 in omega (arith, l, k)

-- ---- each pair of names is inside an outermost one

-- two names with these before them, unless others cover them, are outermost
stays : (ns earlier later : List Names) (n : Names) → ns ≡ earlier ++ n ∷ later → if_outermost ns earlier n ≡ Some n → In n (outermost ns)
unfolding outermost
stays ns earlier later n is e =
    let split = ap (each_after (if_outermost ns) []) is ∙ each_after-append (if_outermost ns) [] earlier (n ∷ later) in
    let parts = ap (filter_map (λ o. o)) split
    ∙ filter_map-append (λ o. o) (each_after (if_outermost ns) [] earlier) (each_after (if_outermost ns) earlier (n ∷ later)) in
    let there : In n (filter_map (λ o. o) (each_after (if_outermost ns) earlier (n ∷ later))) = rw e (inl refl) in
    subst (In n) (sym parts) (in_right (filter_map (λ o. o) (each_after (if_outermost ns) [] earlier))
    (filter_map (λ o. o) (each_after (if_outermost ns) earlier (n ∷ later))) n there)

pub kept_from : (ns earlier xs : List Names) (n : Names) → In n (filter_map (λ o. o) (each_after (if_outermost ns) earlier xs)) → In n xs
kept_from ns earlier [] n i = absurd i
kept_from ns earlier (x ∷ xs) n i =
    by_test (list_any (λ m. covers m x) earlier || list_any (λ m. covers m x && not (covers x m)) ns) i (kept_from ns (earlier ++ x ∷ []) xs n)
  where
    rest : List Names
    rest = filter_map (λ o. o) (each_after (if_outermost ns) (earlier ++ x ∷ []) xs)

    by_test : (b : Bool) → In n (cons_option (cond b None (Some x)) rest) → (In n rest → In n xs) → In n (x ∷ xs)
    by_test true i more = inr (more i)
    by_test false (inl e) more = inl e
    by_test false (inr i) more = inr (more i)

outermost_of : (ns : List Names) (n : Names) → In n (outermost ns) → In n ns
unfolding outermost
outermost_of ns n i = kept_from ns [] ns n i

-- an outermost pair of names that a pair of names is inside of
abbrev pub Around : List Names → Names → Type 0
Around ns n = (m : Names) × In m (outermost ns) × Inside n m

module _ (ns : List Names) where
  -- all shorter ones have one around them
  abbrev Below : Names → Type 0
  Below n = (m : Names) → In m ns → length m.0 < length n.0 → Around ns m

  by_place : (j : ℕ) (earlier later : List Names) (n : Names) → ns ≡ earlier ++ n ∷ later → length earlier < j → Below n → Around ns n
  by_place zero earlier later n is g shorter = absurd (omega arith)
  by_place (suc j) earlier later n is g shorter =
      by_earlier (list_any (λ m. covers m n) earlier) refl (λ front back m same less below. by_place j front back m same less below)
    where
      flipped : (b : Bool) → not b ≡ true → b ≡ false
      flipped true e = cc
      flipped false e = refl

      by_all : (b : Bool) → list_any (λ m. covers m n && not (covers n m)) ns ≡ b → list_any (λ m. covers m n) earlier ≡ false → Around ns n
      by_all true e none =
          let m = from_any (λ m. covers m n && not (covers n m)) ns e in
          let both = and_parts (covers m.0 n) (not (covers n m.0)) m.2 in
          let inside = covers_inside m.0 n both.0 in
          let around = shorter m.0 m.1 (longer n m.0 inside (flipped (covers n m.0) both.1)) in
          (around.0, around.1, inside_on n m.0 around.0 inside around.2)
      by_all false e none = (n, stays ns earlier later n is (rw (none, e) refl), inside_itself n)

      by_earlier : (b : Bool) → list_any (λ m. covers m n) earlier ≡ b
          → ((front back : List Names) (m : Names) → ns ≡ front ++ m ∷ back → length front < j → Below m → Around ns m) → Around ns n
      by_earlier false e more = by_all (list_any (λ m. covers m n && not (covers n m)) ns) refl e
      by_earlier true e more =
          let m = from_any (λ m. covers m n) earlier e in
          let inside = covers_inside m.0 n m.2 in
          let s = split_at earlier m.0 m.1 in
          let less = no_shorter n m.0 inside in
          let size = ap length s.2 in
          let sizes = length-append s.0 (m.0 ∷ s.1) in
          let around = more s.0 (s.1 ++ n ∷ later) m.0
          (is ∙ ap (λ l. l ++ n ∷ later) s.2 ∙ append_assoc s.0 (m.0 ∷ s.1) (n ∷ later)) (omega (arith, g, size, sizes))
          (λ o i small. shorter o i (omega (arith, small, less))) in
          (around.0, around.1, inside_on n m.0 around.0 inside around.2)

  below : (k : ℕ) (n : Names) → In n ns → length n.0 < k → Around ns n
  below zero n i l = absurd (omega arith)
  below (suc k) n i l =
      let s = split_at ns n i in
      by_place (suc (length s.0)) s.0 s.1 n s.2 (omega arith) (λ m j small. below k m j (omega (arith, small, l)))

  pub around : (n : Names) → In n ns → Around ns n
  around n i = below (suc (length n.0)) n i (omega arith)

-- ---- what the names select

module _ (q : Asked) (h : Header) where
  -- what two names inside others select, the others select
  pub places_inside : (n m : Names) (p : Named × Option Named) → Inside n m → In p (places_of q h n) → In p (places_of q h m)
  places_inside n m p i j =
      let left = filter (λ (v : Named). is_left_in q v.path) (all_named h) in
      let f = from_filter_map (λ (v : Named). option_map (λ r. (v, at_path h (n.1 ++ r) v)) (rest_of n.0 v.path)) left p j in
      let v = f.0 in
      to_filter_map (λ (v : Named). option_map (λ r. (v, at_path h (m.1 ++ r) v)) (rest_of m.0 v.path)) left v p f.1
      (by_rest v (rest_of n.0 v.path) refl f.2)
    where
      by_rest : (v : Named) (o : Option (List ℕ)) → rest_of n.0 v.path ≡ o → option_map (λ r. (v, at_path h (n.1 ++ r) v)) o ≡ Some p
          → option_map (λ r. (v, at_path h (m.1 ++ r) v)) (rest_of m.0 v.path) ≡ Some p
      by_rest v None e g = cc
      by_rest v (Some s) e g =
          let f = from_rest n.0 v.path s e in
          let path : v.path ≡ m.0 ++ (i.0 ++ s) = f.0 ∙ ap (λ l. l ++ s) i.1 ∙ append_assoc m.0 i.0 s in
          let at : rest_of m.0 v.path ≡ Some (i.0 ++ s) = ap (rest_of m.0) path ∙ to_rest m.0 (i.0 ++ s) (follows_on i.0 s i.3 f.1) in
          let other : n.1 ++ s ≡ m.1 ++ (i.0 ++ s) = ap (λ l. l ++ s) i.2 ∙ append_assoc m.1 i.0 s in
          ap (option_map (λ r. (v, at_path h (m.1 ++ r) v))) at ∙ ap (λ l. Some (v, at_path h l v)) (sym other) ∙ g

  -- what is taken of the places of each pair of names is the same for the outermost ones
  same_of : {Y : Type 0} (f : Names → List Y) → ((n m : Names) (y : Y) → Inside n m → In y (f n) → In y (f m)) → (ns : List Names) (y : Y)
      → (In y (flat_map f (outermost ns)) → In y (flat_map f ns)) × (In y (flat_map f ns) → In y (flat_map f (outermost ns)))
  same_of f more ns y = (
    λ i. (let s = from_flat f (outermost ns) y i in to_flat f ns s.0 y (outermost_of ns s.0 s.1) s.2),
    λ i. (let s = from_flat f ns y i in let a = around ns s.0 s.1 in to_flat f (outermost ns) a.0 y a.1 (more s.0 a.0 y a.2 s.2)),
  )

  same_contained : {Y : Type 0} (xs ys : List Y) → ((y : Y) → (In y xs → In y ys) × (In y ys → In y xs)) → HaveTheSame xs ys
  same_contained xs ys is y = (
    λ c. to_contained ys y ((is y).0 (from_contained xs y c)),
    λ c. to_contained xs y ((is y).1 (from_contained ys y c)),
  )

  taken : {Y : Type 0} (f : Named × Option Named → Option Y) (n m : Names) (y : Y) → Inside n m → In y (filter_map f (places_of q h n))
      → In y (filter_map f (places_of q h m))
  taken f n m y i j =
      let s = from_filter_map f (places_of q h n) y j in
      to_filter_map f (places_of q h m) s.0 y (places_inside n m s.0 i s.1) s.2

  pairs_same : (ns : List Names) (p : Pair) → (In p (pairs_in q h (outermost ns)) → In p (pairs_in q h ns))
      × (In p (pairs_in q h ns) → In p (pairs_in q h (outermost ns)))
  pairs_same ns p = same_of (λ n. filter_map (pair_at h) (places_of q h n)) (taken (pair_at h)) ns p

  filtered : (test : Pair → Bool) (xs ys : List Pair) (p : Pair) → (In p xs → In p ys) → In p (filter test xs) → In p (filter test ys)
  filtered test xs ys p more i = let s = from_filter test xs p i in to_filter test ys p (more s.0) s.1

  tested : (test : Pair → Bool) (ns : List Names) → HaveTheSame (filter test (pairs_in q h (outermost ns))) (filter test (pairs_in q h ns))
  tested test ns = same_contained (filter test (pairs_in q h (outermost ns))) (filter test (pairs_in q h ns)) (λ p. (
    filtered test (pairs_in q h (outermost ns)) (pairs_in q h ns) p (pairs_same ns p).0,
    filtered test (pairs_in q h ns) (pairs_in q h (outermost ns)) p (pairs_same ns p).1,
  ))

  alone_more : (n m : Names) (v : Named) → Inside n m → In v (alone_in q h n) → In v (alone_in q h m)
  alone_more n m v i j = taken (λ (p : Named × Option Named). cond (is_none p.1) (Some p.0) None) n m v i j

pub outermost_have_all_pairs : OutermostHaveAllPairs
outermost_have_all_pairs q h ns = (
  same_contained q h (with_counterparts q h (outermost ns)) (with_counterparts q h ns)
      (same_of q h (λ n. filter (λ (p : Named × Option Named). is_some p.1) (places_of q h n))
      (λ n m p i j. (let s = from_filter (λ (x : Named × Option Named). is_some x.1) (places_of q h n) p j in
      to_filter (λ (x : Named × Option Named). is_some x.1) (places_of q h m) p (places_inside q h n m p i s.0) s.1)) ns),
  tested q h is_fit ns,
  tested q h (λ p. not (is_fit p)) ns,
  same_contained q h (flat_map (alone_in q h) (outermost ns)) (flat_map (alone_in q h) ns)
      (same_of q h (alone_in q h) (alone_more q h) ns),
  same_contained q h (flat_map (λ n. alone_in q h (turned n)) (outermost ns)) (flat_map (λ n. alone_in q h (turned n)) ns)
      (same_of q h (λ n. alone_in q h (turned n)) (λ n m v i. alone_more q h (turned n) (turned m) v (inside_turned n m i)) ns),
)
