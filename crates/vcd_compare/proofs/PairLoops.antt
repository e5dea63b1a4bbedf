-- The pairs of all variables, one after the other.
use Rattle.vcd_compare.proofs.Cited.{◌≡◌, ℕ, suc, ◌+◌, ◌≤◌, ◌&&◌, not, cond, Bool, true, false, List, [], ◌∷◌, ◌++◌, length, take, drop, map, map-append, filter, filter_map, flat_map, slice_get, Option, Some, None, refl, sym, ap, subst, ◌∙◌, arith, is_none, option_map, Vec, AllZip, flat_map_more, take_all, flat_map-append, filter-append, filter_map-append, Header, Asked, Named, Pair, all_named, is_fit, is_left_in, Names, alone_in, at_path, compared_in, pair_at, pairs_in, places_of, turned, unlike_in, all_zip_push, selects_path, IsPlace, place_of, selected_in, length-append, AreFew, ArePairs, IsPairAt, IsUnlikeAt, HasPairs, alone_at, compared_at, unlike_at, Pairs, IsNamedAt}
use Rattle.std.proofs.lemmas.List.{append_assoc, append-nil}
use Rattle.std.proofs.lemmas.List.Filters.{length-filter_both}
use Rattle.vcd_compare.proofs.PairSteps.{held_other}
use Rattle.vcd_compare.proofs.PlaceLemmas.{same_len}
use Rattle.vcd_compare.proofs.VariableLemmas.{take_next}

-- the places of the first variables that the name selects
abbrev pub places_before : Asked → Header → Names → ℕ → List (Named × Option Named)
places_before q h n i = map (place_of h n) (take i (selected_in q h n))

next_place : (q : Asked) (h : Header) (n : Names) (i : ℕ) (v : Named) → slice_get (selected_in q h n) i ≡ Some v
    → places_before q h n (suc i) ≡ places_before q h n i ++ place_of h n v ∷ []
next_place q h n i v at = ap (map (place_of h n)) (take_next (selected_in q h n) i v at) ∙ map-append (place_of h n) (take i (selected_in q h n)) (v ∷ [])

-- all places are those of the definition
mapped : {X Y Z : Type 0} (p s : X → Bool) (r : X → Y) (g : X → Y → Z) (xs : List X)
    → filter_map (λ x. option_map (g x) (cond (s x) (Some (r x)) None)) (filter p xs) ≡ map (λ x. g x (r x)) (filter (λ x. p x && s x) xs)
mapped p s r g [] = refl
mapped p s r g (x ∷ xs) = by_tests (p x) refl (s x) refl (mapped p s r g xs)
  where
    by_tests : (b : Bool) → p x ≡ b → (c : Bool) → s x ≡ c → filter_map (λ y. option_map (g y) (cond (s y) (Some (r y)) None)) (filter p xs) ≡ map
        (λ y. g y (r y)) (filter (λ y. p y && s y) xs)
        → filter_map (λ y. option_map (g y) (cond (s y) (Some (r y)) None)) (filter p (x ∷ xs)) ≡ map (λ y. g y (r y)) (filter (λ y. p y && s y) (x ∷ xs))
    by_tests true t true e rest = rw (t, e, rest) refl
    by_tests true t false e rest = rw (t, e, rest) refl
    by_tests false t c e rest = rw (t, rest) refl

last_place : (q : Asked) (h : Header) (n : Names) (i : ℕ) → length (selected_in q h n) ≤ i → places_before q h n i ≡ places_of q h n
last_place q h n i all =
    ap (map (place_of h n)) (take_all i (selected_in q h n) all)
    ∙ sym (mapped (λ (v : Named). is_left_in q v.path) (λ (v : Named). selects_path v.path n.0) (λ (v : Named). drop (length n.0) v.path) (λ v r. (v, at_path h (n.1 ++ r) v)) (all_named h))

module _ (keys : List (ℕ × ℕ)) (ps : Pairs) (q : Asked) (h : Header) (n : Names) (compared other_kinds : List Pair) (ones others : List Named) where
  -- what is held after the first variables
  abbrev pub HeldBefore : ℕ → Type 0
  HeldBefore i = let before = places_before q h n i in HasPairs keys ps h (compared ++ compared_at h before) (other_kinds ++ unlike_at h before) (ones ++ alone_at before) others

  pub held_next : (i : ℕ) (v : Named) → slice_get (selected_in q h n) i ≡ Some v
      → (let before = places_before q h n i in let more = place_of h n v ∷ [] in
      HasPairs keys ps h ((compared ++ compared_at h before) ++ compared_at h more) ((other_kinds ++ unlike_at h before) ++ unlike_at h more)
      ((ones ++ alone_at before) ++ alone_at more) others) → HeldBefore (suc i)
  held_next i v at s =
      let before = places_before q h n i in
      let more = place_of h n v ∷ [] in
      let next = sym (next_place q h n i v at) in
      let c : (compared ++ compared_at h before) ++ compared_at h more ≡ compared ++ compared_at h (places_before q h n (suc i)) =
      append_assoc compared (compared_at h before) (compared_at h more)
      ∙ ap (λ l. compared ++ l) (sym (ap (filter is_fit) (filter_map-append (pair_at h) before more)
      ∙ filter-append is_fit (filter_map (pair_at h) before) (filter_map (pair_at h) more))) ∙ ap (λ l. compared ++ compared_at h l) next in
      let u : (other_kinds ++ unlike_at h before) ++ unlike_at h more ≡ other_kinds ++ unlike_at h (places_before q h n (suc i)) =
      append_assoc other_kinds (unlike_at h before) (unlike_at h more)
      ∙ ap (λ l. other_kinds ++ l) (sym (ap (filter (λ p. not (is_fit p))) (filter_map-append (pair_at h) before more)
      ∙ filter-append (λ p. not (is_fit p)) (filter_map (pair_at h) before) (filter_map (pair_at h) more)))
      ∙ ap (λ l. other_kinds ++ unlike_at h l) next in
      let a : (ones ++ alone_at before) ++ alone_at more ≡ ones ++ alone_at (places_before q h n (suc i)) =
      append_assoc ones (alone_at before) (alone_at more) ∙ ap (λ l. ones ++ l)
      (sym (filter_map-append (λ p. cond (is_none p.1) (Some p.0) None) before more)) ∙ ap (λ l. ones ++ alone_at l) next in
      subst (λ l. HasPairs keys ps h l (other_kinds ++ unlike_at h (places_before q h n (suc i))) (ones ++ alone_at (places_before q h n (suc i))) others) c
      (subst (λ l. HasPairs keys ps h ((compared ++ compared_at h before) ++ compared_at h more) l (ones ++ alone_at (places_before q h n (suc i))) others) u
      (subst (λ l. HasPairs keys ps h ((compared ++ compared_at h before) ++ compared_at h more) ((other_kinds ++ unlike_at h before) ++ unlike_at h more) l others) a s))

  -- after the last variable
  pub held_all : (i : ℕ) → length (selected_in q h n) ≤ i → HeldBefore i
      → HasPairs keys ps h (compared ++ compared_in q h (n ∷ [])) (other_kinds ++ unlike_in q h (n ∷ [])) (ones ++ alone_in q h n) others
  held_all i all s =
      let placed = subst (λ l. HasPairs keys ps h (compared ++ compared_at h l) (other_kinds ++ unlike_at h l) (ones ++ alone_at l) others) (last_place q h n i all) s in
      subst (λ l. HasPairs keys ps h (compared ++ filter is_fit l) (other_kinds ++ filter (λ p. not (is_fit p)) l) (ones ++ alone_in q h n) others)
      (sym (append-nil (filter_map (pair_at h) (places_of q h n)))) placed

module _ (q : Asked) (h : Header) (n : Names) (others : List Named) where
  -- the variables without a counterpart among the first
  abbrev pub AloneBefore : List ℕ → ℕ → Type 0
  AloneBefore alone i = AllZip (IsNamedAt h) alone (others ++ alone_at (places_before q h n i))

  alone_next : (alone : List ℕ) (i : ℕ) (v : Named) → slice_get (selected_in q h n) i ≡ Some v
      → AllZip (IsNamedAt h) alone ((others ++ alone_at (places_before q h n i)) ++ alone_at (place_of h n v ∷ [])) → AloneBefore alone (suc i)
  alone_next alone i v at s =
      let before = places_before q h n i in
      let more = place_of h n v ∷ [] in
      let all : (others ++ alone_at before) ++ alone_at more ≡ others ++ alone_at (places_before q h n (suc i)) =
      append_assoc others (alone_at before) (alone_at more) ∙ ap (λ l. others ++ l)
      (sym (filter_map-append (λ p. cond (is_none p.1) (Some p.0) None) before more))
      ∙ ap (λ l. others ++ alone_at l) (sym (next_place q h n i v at)) in
      subst (AllZip (IsNamedAt h) alone) all s

  -- a variable that has a counterpart
  pub alone_same : (alone : List ℕ) (i : ℕ) (v : Named) (p : Option ℕ) → slice_get (selected_in q h n) i ≡ Some v → IsPlace h n v p
      → is_none p ≡ false → AloneBefore alone i → AloneBefore alone (suc i)
  alone_same alone i v None at is some s = cc
  alone_same alone i v (Some j) at is some s =
      alone_next alone i v at
      (subst (λ o. AllZip (IsNamedAt h) alone ((others ++ alone_at (places_before q h n i)) ++ alone_at ((v, o) ∷ []))) (sym is.1)
      (subst (AllZip (IsNamedAt h) alone) (sym (append-nil (others ++ alone_at (places_before q h n i)))) s))

  -- one that has none
  pub alone_one : (alone : List ℕ) (i row : ℕ) (v : Named) (p : Option ℕ) → slice_get (selected_in q h n) i ≡ Some v → IsPlace h n v p
      → is_none p ≡ true → IsNamedAt h row v → AloneBefore alone i → AloneBefore (alone ++ row ∷ []) (suc i)
  alone_one alone i row v (Some j) at is none named s = cc
  alone_one alone i row v None at is none named s =
      alone_next (alone ++ row ∷ []) i v at
      (subst (λ o. AllZip (IsNamedAt h) (alone ++ row ∷ []) ((others ++ alone_at (places_before q h n i)) ++ alone_at ((v, o) ∷ []))) (sym is)
      (all_zip_push (IsNamedAt h) alone (others ++ alone_at (places_before q h n i)) row v s named))

  pub alone_all : (alone : List ℕ) (i : ℕ) → length (selected_in q h n) ≤ i → AloneBefore alone i → AllZip (IsNamedAt h) alone (others ++ alone_in q h n)
  alone_all alone i all s = subst (λ l. AllZip (IsNamedAt h) alone (others ++ alone_at l)) (last_place q h n i all) s

-- ---- the pairs of all names

module _ (q : Asked) (h : Header) (ns : List Names) where
  -- what is held after the first names
  abbrev pub HeldNames : List (ℕ × ℕ) → Pairs → ℕ → Type 0
  HeldNames keys ps i = HasPairs keys ps h (compared_in q h (take i ns)) (unlike_in q h (take i ns)) (flat_map (alone_in q h) (take i ns)) (flat_map (λ n. alone_in q h (turned n)) (take i ns))

  pub names_next : (keys : List (ℕ × ℕ)) (ps : Pairs) (alone : Vec ℕ) (i : ℕ) (n : Names) → slice_get ns i ≡ Some n
      → HasPairs keys ps h (compared_in q h (take i ns) ++ compared_in q h (n ∷ [])) (unlike_in q h (take i ns) ++ unlike_in q h (n ∷ []))
      (flat_map (alone_in q h) (take i ns) ++ alone_in q h n) (flat_map (λ m. alone_in q h (turned m)) (take i ns))
      → AllZip (IsNamedAt h) alone.items (flat_map (λ m. alone_in q h (turned m)) (take i ns) ++ alone_in q h (turned n)) → HeldNames keys (record ps { alone_other = alone }) (suc i)
  names_next keys ps alone i n at s others =
      let next = sym (take_next ns i n at) in
      let pairs = flat_map-append (λ m. filter_map (pair_at h) (places_of q h m)) (take i ns) (n ∷ []) in
      let one = flat_map_more (alone_in q h) [] (take i ns) n in
      let other = flat_map_more (λ m. alone_in q h (turned m)) [] (take i ns) n in
      let c : compared_in q h (take i ns) ++ compared_in q h (n ∷ []) ≡ compared_in q h (take (suc i) ns) =
      sym (filter-append is_fit (pairs_in q h (take i ns)) (pairs_in q h (n ∷ []))) ∙ ap (filter is_fit) (sym pairs) ∙ ap (compared_in q h) next in
      let u : unlike_in q h (take i ns) ++ unlike_in q h (n ∷ []) ≡ unlike_in q h (take (suc i) ns) =
      sym (filter-append (λ p. not (is_fit p)) (pairs_in q h (take i ns)) (pairs_in q h (n ∷ []))) ∙ ap (filter (λ p. not (is_fit p))) (sym pairs) ∙ ap (unlike_in q h) next in
      let a : flat_map (alone_in q h) (take i ns) ++ alone_in q h n ≡ flat_map (alone_in q h) (take (suc i) ns) = one ∙ ap (flat_map (alone_in q h)) next in
      let b : flat_map (λ m. alone_in q h (turned m)) (take i ns) ++ alone_in q h (turned n) ≡ flat_map (λ m. alone_in q h (turned m))
      (take (suc i) ns) = other ∙ ap (flat_map (λ m. alone_in q h (turned m))) next in
      let held = held_other keys h (compared_in q h (take i ns) ++ compared_in q h (n ∷ [])) (unlike_in q h (take i ns) ++ unlike_in q h (n ∷ []))
      (flat_map (alone_in q h) (take i ns) ++ alone_in q h n) (flat_map (λ m. alone_in q h (turned m)) (take i ns)) ps alone
      (flat_map (λ m. alone_in q h (turned m)) (take i ns) ++ alone_in q h (turned n)) others s in
      subst (λ l. HasPairs keys (record ps { alone_other = alone }) h l (unlike_in q h (take (suc i) ns)) (flat_map (alone_in q h) (take (suc i) ns))
      (flat_map (λ m. alone_in q h (turned m)) (take (suc i) ns))) c
      (subst (λ l. HasPairs keys (record ps { alone_other = alone }) h (compared_in q h (take i ns) ++ compared_in q h (n ∷ [])) l
      (flat_map (alone_in q h) (take (suc i) ns)) (flat_map (λ m. alone_in q h (turned m)) (take (suc i) ns))) u
      (subst (λ l. HasPairs keys (record ps { alone_other = alone }) h (compared_in q h (take i ns) ++ compared_in q h (n ∷ []))
      (unlike_in q h (take i ns) ++ unlike_in q h (n ∷ [])) l (flat_map (λ m. alone_in q h (turned m)) (take (suc i) ns))) a
      (subst (λ l. HasPairs keys (record ps { alone_other = alone }) h (compared_in q h (take i ns) ++ compared_in q h (n ∷ []))
      (unlike_in q h (take i ns) ++ unlike_in q h (n ∷ [])) (flat_map (alone_in q h) (take i ns) ++ alone_in q h n) l) b held)))

-- ---- how many there are

-- what has a place is a pair or has no counterpart
each_place : (h : Header) (ps : List (Named × Option Named)) → length (filter_map (pair_at h) ps) + length (alone_at ps) ≡ length ps
each_place h [] = refl
each_place h ((v, None) ∷ ps) = let rest = each_place h ps in omega (arith, rest)
each_place h ((v, Some w) ∷ ps) = let rest = each_place h ps in omega (arith, rest)

module _ (q : Asked) (h : Header) where
  each_selected : (ns : List Names) → length (pairs_in q h ns) + length (flat_map (alone_in q h) ns) ≡ length (flat_map (places_of q h) ns)
  each_selected [] = refl
  each_selected (n ∷ ns) =
      let rest = each_selected ns in
      let one = each_place h (places_of q h n) in
      let a = length-append (filter_map (pair_at h) (places_of q h n)) (pairs_in q h ns) in
      let b = length-append (alone_in q h n) (flat_map (alone_in q h) ns) in
      let c = length-append (places_of q h n) (flat_map (places_of q h) ns) in
      omega (arith, rest, one, a, b, c)

  few_alone : (ns : List Names) → length (flat_map (λ n. alone_in q h (turned n)) ns) ≤ length (flat_map (λ n. places_of q h (turned n)) ns)
  few_alone [] = omega arith
  few_alone (n ∷ ns) =
      let rest = few_alone ns in
      let one = each_place h (places_of q h (turned n)) in
      let b = length-append (alone_in q h (turned n)) (flat_map (λ m. alone_in q h (turned m)) ns) in
      let c = length-append (places_of q h (turned n)) (flat_map (λ m. places_of q h (turned m)) ns) in
      omega (arith, rest, one, b, c)

pub few_kept : (ps : Pairs) (h : Header) (q : Asked) (ns : List Names) → ArePairs ps h q ns → AreFew ps h q ns
few_kept ps h q ns are =
    let rows = same_len (IsPairAt h ps.ends.items) ps.rows.items (compared_in q h ns) are.rows in
    let unlike = same_len (IsUnlikeAt h) ps.unlike.items (unlike_in q h ns) are.unlike in
    let ones = same_len (IsNamedAt h) ps.alone_one.items (flat_map (alone_in q h) ns) are.alone_one in
    let others = same_len (IsNamedAt h) ps.alone_other.items (flat_map (λ n. alone_in q h (turned n)) ns) are.alone_other in
    let kinds = length-filter_both is_fit (λ p. not (is_fit p)) (λ p. refl) (pairs_in q h ns) in
    let places = each_selected q h ns in
    let alone = few_alone q h ns in
    let codes = are.codes in
    let classes = are.classes in
    let few = are.few in
    omega (arith, rows, unlike, ones, others, kinds, places, alone, codes, classes, few)
