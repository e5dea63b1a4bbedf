-- The outermost pairs of names select no pair of variables twice.
use Rattle.vcd_laws.proofs.Cited.{◌≡◌, ◌≢◌, ◌⊎◌, ℕ, ◌+◌, ◌≤◌, ◌&&◌, ◌||◌, not, Bool, true, false, cond, bytes_eq, List, [], ◌∷◌, ◌++◌, length, filter, filter_map, find, flat_map, count_by, Option, Some, None, option_map, is_some, inl, inr, refl, sym, ap, ◌∙◌, subst, arith, append_assoc, length-append, list_any, cons_option, and_parts, or_parts, sum_by-append, bytes_eq-Decides, each_after, Header, Asked, Names, Selected, selected}
use Rattle.std.specs.Prelude.{AllPairs}
use Rattle.std.proofs.lemmas.List.Elements.{All-from_recursion}
use Rattle.std.proofs.lemmas.List.Kept.{AllPairs-cons}
use Rattle.vcd_model.specs.Compare.{Named, all_named, counterpart, first_of, is_alike, is_left_in, lacks_range, lone, named_after, only_at, range_of, same_place, the_only}
use Rattle.vcd_model.specs.Within.{at_path, covers, if_outermost, outermost, places_of, rest_of}
use Rattle.vcd_laws.specs.Selecting.{OutermostHaveEachPairOnce, with_counterparts}
use Rattle.vcd_laws.proofs.WrittenCodes.{In, any_of, from_filter, from_find, in_left, in_right}
use Rattle.vcd_laws.proofs.MergedHead.{all_in}
use Rattle.vcd_laws.proofs.OutermostPlaces.{Follows, Inside, from_filter_map, from_flat, from_rest, in_parts, inside_covers, kept_from}

-- ---- lists without an element twice

abbrev pub Distinct : {X : Type 0} → List X → Type 0
Distinct [] = Unit {0}
Distinct (x ∷ xs) = (In x xs → ⊥) × Distinct xs

all_pairs : {X : Type 0} (xs : List X) → Distinct xs → AllPairs (λ x y. x ≢ y) xs
all_pairs [] d = λ i j x l m. absurd (omega (arith, l, m))
all_pairs (x ∷ xs) d = AllPairs-cons (λ x y. x ≢ y) x xs
    (All-from_recursion (λ y. x ≢ y) xs (all_in (λ y. x ≢ y) xs (λ y i e. d.0 (subst (λ z. In z xs) (sym e) i)))) (all_pairs xs d.1)

distinct_filter : {X : Type 0} (test : X → Bool) (xs : List X) → Distinct xs → Distinct (filter test xs)
distinct_filter test [] d = tt
distinct_filter test (x ∷ xs) d = by_test (test x) (distinct_filter test xs d.1)
  where
    by_test : (b : Bool) → Distinct (filter test xs) → Distinct (cond b (x ∷ filter test xs) (filter test xs))
    by_test true more = (λ i. d.0 (from_filter test xs x i).0, more)
    by_test false more = more

distinct_taken : {X Y : Type 0} (f : X → Option Y) → ((x z : X) (y : Y) → f x ≡ Some y → f z ≡ Some y → x ≡ z) → (xs : List X) → Distinct xs
    → Distinct (filter_map f xs)
distinct_taken f same [] d = tt
distinct_taken f same (x ∷ xs) d = by_option (f x) refl (distinct_taken f same xs d.1)
  where
    by_option : (o : Option _) → f x ≡ o → Distinct (filter_map f xs) → Distinct (cons_option o (filter_map f xs))
    by_option None e more = more
    by_option (Some y) e more = (
      λ i. (let s = from_filter_map f xs y i in d.0 (subst (λ z. In z xs) (sym (same x s.0 y e s.2)) s.1)),
      more,
    )

distinct_both : {X : Type 0} (xs ys : List X) → Distinct xs → Distinct ys → ((x : X) → In x xs → In x ys → ⊥) → Distinct (xs ++ ys)
distinct_both [] ys d e apart = e
distinct_both (x ∷ xs) ys d e apart = (
  λ i. elim (in_parts xs ys x i) [ inl j ↦ d.0 j | inr j ↦ apart x (inl refl) j ],
  distinct_both xs ys d.1 e (λ y i j. apart y (inr i) j),
)

-- ---- all variables

count_more : {X : Type 0} (test : X → Bool) (xs : List X) (x : X) → count_by test (xs ++ x ∷ []) ≡ count_by test xs + cond (test x) 1 0
count_more test xs x = sum_by-append (λ y. cond (test y) 1 0) xs (x ∷ []) ∙ omega arith

alike_itself : (s : Selected) → is_alike s s ≡ true
alike_itself s = rw ((bytes_eq-Decides s.path s.path).1 refl, (bytes_eq-Decides (range_of s.variable) (range_of s.variable)).1 refl) refl

-- a variable has at least as many like it before it as those before have
more_before : (earlier ss : List Selected) (v : Named) (s : Selected) → In v (each_after named_after earlier ss) → v.path ≡ s.path
    → v.variable ≡ s.variable → count_by (is_alike s) earlier ≤ v.nth
more_before earlier [] v s i e f = absurd i
more_before earlier (u ∷ ss) v s (inl is) e f =
    let path : u.path ≡ s.path = sym (ap (λ (x : Named). x.path) is) ∙ e in
    let variable : u.variable ≡ s.variable = sym (ap (λ (x : Named). x.variable) is) ∙ f in
    let same : u ≡ s = λ z. record { path = path z; variable = variable z } in
    let n : v.nth ≡ count_by (is_alike u) earlier = ap (λ (x : Named). x.nth) is in
    let m : count_by (is_alike u) earlier ≡ count_by (is_alike s) earlier = ap (λ x. count_by (is_alike x) earlier) same in
    omega (arith, n, m)
more_before earlier (u ∷ ss) v s (inr i) e f =
    let more = more_before (earlier ++ u ∷ []) ss v s i e f in
    let count = count_more (is_alike s) earlier u in
    omega (arith, more, count)

distinct_named : (earlier ss : List Selected) → Distinct (each_after named_after earlier ss)
distinct_named earlier [] = tt
distinct_named earlier (s ∷ ss) = (
  λ i. (let more = more_before (earlier ++ s ∷ []) ss (named_after earlier s) s i refl refl in
      let count = count_more (is_alike s) earlier s ∙ ap (λ b. count_by (is_alike s) earlier + cond b 1 0) (alike_itself s) in
      omega (arith, more, count)),
  distinct_named (earlier ++ s ∷ []) ss,
)

-- ---- a counterpart has the path that is asked for

counterpart_path : (ones others : List Named) (path : List ℕ) (v w : Named) → counterpart ones others path v ≡ Some w → w.path ≡ path
counterpart_path ones others path v w e = by_found (find (λ x. bytes_eq x.path path && same_place v x) others) refl e
  where
    only_in : (vs : List Named) (x : Named) → the_only vs ≡ Some x → In x vs
    only_in [] x f = cc
    only_in (y ∷ []) x f = let same : x ≡ y = cc in inl same
    only_in (y ∷ z ∷ vs) x f = cc

    lone_is : (own o : Option Named) → lone own v o ≡ Some w → o ≡ Some w
    lone_is own None f = cc
    lone_is own (Some x) f = by_test (is_some own && lacks_range v x) f
      where
        by_test : (b : Bool) → cond b (Some x) None ≡ Some w → Some x ≡ Some w
        by_test true g = g
        by_test false g = cc

    by_found : (o : Option Named) → find (λ x. bytes_eq x.path path && same_place v x) others ≡ o
        → first_of o (lone (only_at ones v.path) v (only_at others path)) ≡ Some w → w.path ≡ path
    by_found None f g = (bytes_eq-Decides w.path path).0 (from_filter (λ x. bytes_eq x.path path) others w
        (only_in (filter (λ x. bytes_eq x.path path) others) w (lone_is (only_at ones v.path) (only_at others path) g))).1
    by_found (Some x) f g =
        let is = (from_find (λ x. bytes_eq x.path path && same_place v x) others w (f ∙ g)).1 in
        (bytes_eq-Decides w.path path).0 (and_parts (bytes_eq w.path path) (same_place v w) is).0

-- ---- two pairs of names that select the same pair of variables

either_longer : (a b s t : List ℕ) → a ++ s ≡ b ++ t
    → ((r : List ℕ) × (b ≡ a ++ r) × (s ≡ r ++ t)) ⊎ ((r : List ℕ) × (a ≡ b ++ r) × (t ≡ r ++ s))
either_longer [] b s t e = inl (b, refl, e)
either_longer (x ∷ a) [] s t e = inr (x ∷ a, refl, sym e)
either_longer (x ∷ a) (y ∷ b) s t e =
    let same : x ≡ y = cc in
    let rest : a ++ s ≡ b ++ t = cc in
    elim (either_longer a b s t rest) [
      | inl m ↦ inl (m.0, (let f = m.1 in cc), m.2)
      | inr m ↦ inr (m.0, (let f = m.1 in cc), m.2)
    ]

same_front : (a b t : List ℕ) → a ++ t ≡ b ++ t → a ≡ b
same_front [] [] t e = refl
same_front [] (y ∷ b) t e = let l = ap length e in let k = length-append (y ∷ b) t in absurd (omega (arith, l, k))
same_front (x ∷ a) [] t e = let l = ap length e in let k = length-append (x ∷ a) t in absurd (omega (arith, l, k))
same_front (x ∷ a) (y ∷ b) t e =
    let rest : a ++ t ≡ b ++ t = cc in
    let more = same_front a b t rest in
    let same : x ≡ y = cc in cc

follows_first : (r t : List ℕ) → Follows (r ++ t) → Follows r
follows_first [] t f = refl
follows_first (x ∷ r) t f = f

-- the first names of both, with what follows them, are one path, and so are the second ones
inside_by : (n m : Names) (r s t : List ℕ) → m.0 ≡ n.0 ++ r → s ≡ r ++ t → n.1 ++ s ≡ m.1 ++ t → Follows s → Inside m n
inside_by n m r s t a b c f =
    let second : n.1 ++ r ≡ m.1 = same_front (n.1 ++ r) m.1 t (append_assoc n.1 r t ∙ ap (λ l. n.1 ++ l) (sym b) ∙ c) in
    (r, a, sym second, follows_first r t (subst Follows b f))

module _ (q : Asked) (h : Header) where
  -- a pair of variables that a pair of names selects
  place_is : (n : Names) (v w : Named) → In (v, Some w) (places_of q h n)
      → (s : List ℕ) × (v.path ≡ n.0 ++ s) × (w.path ≡ n.1 ++ s) × Follows s
  place_is n v w i =
      let left = filter (λ (v : Named). is_left_in q v.path) (all_named h) in
      let f = from_filter_map (λ (v : Named). option_map (λ r. (v, at_path h (n.1 ++ r) v)) (rest_of n.0 v.path)) left (v, Some w) i in
      by_rest f.0 (rest_of n.0 f.0.path) refl f.2
    where
      by_rest : (u : Named) (o : Option (List ℕ)) → rest_of n.0 u.path ≡ o
          → option_map {U = Named × Option Named} (λ r. (u, at_path h (n.1 ++ r) u)) o ≡ Some (v, Some w)
          → (s : List ℕ) × (v.path ≡ n.0 ++ s) × (w.path ≡ n.1 ++ s) × Follows s
      by_rest u None e g = cc
      by_rest u (Some s) e g =
          let f = from_rest n.0 u.path s e in
          let is : (u, at_path h (n.1 ++ s) u) ≡ (v, Some w) = cc in
          let same : u ≡ v = ap (λ (x : Named × Option Named). x.0) is in
          let at : at_path h (n.1 ++ s) u ≡ Some w = ap (λ (x : Named × Option Named). x.1) is in
          (s, ap (λ (x : Named). x.path) (sym same) ∙ f.0, counterpart_path (all_named h) (all_named h) (n.1 ++ s) u w at, f.1)

  either_inside : (n m : Names) (v w : Named) → In (v, Some w) (places_of q h n) → In (v, Some w) (places_of q h m) → Inside n m ⊎ Inside m n
  either_inside n m v w i j =
      let a = place_is n v w i in
      let b = place_is m v w j in
      elim (either_longer n.0 m.0 a.0 b.0 (sym a.1 ∙ b.1)) [
        | inl l ↦ inr (inside_by n m l.0 a.0 b.0 l.1 l.2 (sym a.2 ∙ b.2) a.3)
        | inr l ↦ inl (inside_by m n l.0 b.0 a.0 l.1 l.2 (sym b.2 ∙ a.2) b.3)
      ]

  abbrev pairs_of : Names → List (Named × Option Named)
  pairs_of n = filter (λ (p : Named × Option Named). is_some p.1) (places_of q h n)

  distinct_place : (n : Names) → Distinct (pairs_of n)
  distinct_place n =
      distinct_filter (λ (p : Named × Option Named). is_some p.1) (places_of q h n)
      (distinct_taken (λ (v : Named). option_map (λ r. (v, at_path h (n.1 ++ r) v)) (rest_of n.0 v.path)) same
      (filter (λ (v : Named). is_left_in q v.path) (all_named h))
      (distinct_filter (λ (v : Named). is_left_in q v.path) (all_named h) (distinct_named [] (selected [] h.declarations))))
    where
      is_of : (v : Named) (o : Option (List ℕ)) (p : Named × Option Named) → option_map (λ r. (v, at_path h (n.1 ++ r) v)) o ≡ Some p → v ≡ p.0
      is_of v None p e = cc
      is_of v (Some r) p e = let is : (v, at_path h (n.1 ++ r) v) ≡ p = cc in ap (λ (x : Named × Option Named). x.0) is

      same : (v u : Named) (p : Named × Option Named) → option_map (λ r. (v, at_path h (n.1 ++ r) v)) (rest_of n.0 v.path) ≡ Some p
          → option_map (λ r. (u, at_path h (n.1 ++ r) u)) (rest_of n.0 u.path) ≡ Some p → v ≡ u
      same v u p e f = is_of v (rest_of n.0 v.path) p e ∙ sym (is_of u (rest_of n.0 u.path) p f)

  one_inside : (n m : Names) (p : Named × Option Named) → In p (pairs_of n) → In p (pairs_of m) → Inside n m ⊎ Inside m n
  one_inside n m p i j =
      let a = from_filter (λ (x : Named × Option Named). is_some x.1) (places_of q h n) p i in
      let b = from_filter (λ (x : Named × Option Named). is_some x.1) (places_of q h m) p j in
      by_option p.0 p.1 a.0 b.0 a.1
    where
      by_option : (v : Named) (o : Option Named) → In (v, o) (places_of q h n) → In (v, o) (places_of q h m) → is_some o ≡ true → Inside n m ⊎ Inside m n
      by_option v None i j e = cc
      by_option v (Some w) i j e = either_inside n m v w i j

-- ---- no outermost pair of names is inside another

-- each is outside of the others
abbrev pub Apart : List Names → Type 0
Apart [] = Unit {0}
Apart (n ∷ ns) = ((m : Names) → In m ns → (Inside n m → ⊥) × (Inside m n → ⊥)) × Apart ns

none_passes : {X : Type 0} (test : X → Bool) (xs : List X) → list_any test xs ≡ false → (x : X) → In x xs → test x ≡ false
none_passes test xs e x i = by_test (test x) refl
  where
    by_test : (b : Bool) → test x ≡ b → b ≡ false
    by_test true f = let no : true ≡ false = sym (any_of test xs x i f) ∙ e in cc
    by_test false f = refl

module _ (ns : List Names) where
  -- those before it do not cover it, and all that cover it are covered by it
  abbrev Uncovered : List Names → Names → Type 0
  Uncovered earlier y = ((m : Names) → In m earlier → covers m y ≡ false) × ((m : Names) → In m ns → (covers m y && not (covers y m)) ≡ false)

  uncovered : (earlier xs : List Names) (y : Names) → In y (filter_map (λ o. o) (each_after (if_outermost ns) earlier xs)) → Uncovered earlier y
  uncovered earlier [] y i = absurd i
  uncovered earlier (x ∷ xs) y i =
      by_test (list_any (λ m. covers m x) earlier || list_any (λ m. covers m x && not (covers x m)) ns) refl i (uncovered (earlier ++ x ∷ []) xs y)
    where
      rest : List Names
      rest = filter_map (λ o. o) (each_after (if_outermost ns) (earlier ++ x ∷ []) xs)

      fewer : Uncovered (earlier ++ x ∷ []) y → Uncovered earlier y
      fewer u = (λ m j. u.0 m (in_left earlier (x ∷ []) m j), u.1)

      by_test : (b : Bool) → (list_any (λ m. covers m x) earlier || list_any (λ m. covers m x && not (covers x m)) ns) ≡ b
          → In y (cons_option (cond b None (Some x)) rest) → (In y rest → Uncovered (earlier ++ x ∷ []) y) → Uncovered earlier y
      by_test true e i more = fewer (more i)
      by_test false e (inr i) more = fewer (more i)
      by_test false e (inl same) more =
          let both = or_parts (list_any (λ m. covers m x) earlier) (list_any (λ m. covers m x && not (covers x m)) ns) e in
          subst (Uncovered earlier) (sym same) (none_passes (λ m. covers m x) earlier both.0, none_passes (λ m. covers m x && not (covers x m)) ns both.1)

  apart : (earlier xs : List Names) → ((m : Names) → In m xs → In m ns) → Apart (filter_map (λ o. o) (each_after (if_outermost ns) earlier xs))
  apart earlier [] among = tt
  apart earlier (x ∷ xs) among =
      by_test (list_any (λ m. covers m x) earlier || list_any (λ m. covers m x && not (covers x m)) ns) refl
      (apart (earlier ++ x ∷ []) xs (λ m i. among m (inr i)))
    where
      rest : List Names
      rest = filter_map (λ o. o) (each_after (if_outermost ns) (earlier ++ x ∷ []) xs)

      only : (a b : Bool) → a ≡ false → (b && not a) ≡ false → b ≡ false
      only false false e f = refl
      only false true e f = cc
      only true b e f = cc

      not_both : (b : Bool) → b ≡ true → b ≡ false → ⊥
      not_both true e f = cc
      not_both false e f = cc

      by_test : (b : Bool) → (list_any (λ m. covers m x) earlier || list_any (λ m. covers m x && not (covers x m)) ns) ≡ b
          → Apart rest → Apart (cons_option (cond b None (Some x)) rest)
      by_test true e more = more
      by_test false e more =
          let both = or_parts (list_any (λ m. covers m x) earlier) (list_any (λ m. covers m x && not (covers x m)) ns) e in (
            λ y i. (
                let above = (uncovered (earlier ++ x ∷ []) xs y i).0 x (in_right earlier (x ∷ []) x (inl refl)) in
                let own = none_passes (λ m. covers m x && not (covers x m)) ns both.1 y
                (among y (inr (kept_from ns (earlier ++ x ∷ []) xs y i))) in (
                  λ inside. not_both (covers y x) (inside_covers x y inside) (only (covers x y) (covers y x) above own),
                  λ inside. not_both (covers x y) (inside_covers y x inside) above,
                )
                ),
            more,
          )

  outermost_apart : Apart (outermost ns)
  unfolding outermost
  outermost_apart = apart [] ns (λ m i. i)

-- ---- all pairs

distinct_all : (q : Asked) (h : Header) (ns : List Names) → Apart ns → Distinct (flat_map (pairs_of q h) ns)
distinct_all q h [] a = tt
distinct_all q h (n ∷ ns) a =
    distinct_both (pairs_of q h n) (flat_map (pairs_of q h) ns) (distinct_place q h n) (distinct_all q h ns a.1)
    (λ p i j. (let f = from_flat (pairs_of q h) ns p j in let out = a.0 f.0 f.1 in
    elim (one_inside q h n f.0 p i f.2) [ inl k ↦ out.0 k | inr k ↦ out.1 k ]))

pub outermost_have_each_pair_once : OutermostHaveEachPairOnce
outermost_have_each_pair_once q h ns = all_pairs (with_counterparts q h (outermost ns)) (distinct_all q h (outermost ns) (outermost_apart ns))
