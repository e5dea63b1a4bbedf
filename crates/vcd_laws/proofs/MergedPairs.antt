-- The variables of two inputs in a merge, and their pairs: those of the two inputs, in order.
use Rattle.vcd_laws.proofs.Cited.{◌≡◌, ℕ, ◌+◌, ◌<◌, ◌^◌, Bool, true, false, cond, not, ◌&&◌, ◌||◌, List, [], ◌∷◌, ◌++◌, length, map, filter, filter_map, flat_map, find, count_by, bytes_eq, Option, Some, None, option_map, is_none, refl, sym, ap, ◌∙◌, arith, list_any, cons_option, is_some, append-nil, append_assoc, map-append, filter-append, filter_map-append, list_any-append, sum_by-append, sum_by-cons, eq-eqb, bytes_eq-Decides, or_parts, each_after, each_after-append, Header, Selected, selects_path, selected, renamed, input_scope, under_input, merged_variable}
use Rattle.std.specs.Prelude.{nat_eq}
use Rattle.std.specs.List.{starts_with}
use Rattle.std.proofs.Math.Seq.{drop-append_seam}
use Rattle.vcd_model.specs.Compare.{Asked, Named, Pair, all_named, alone, counterpart, first_of, full_name, in_common, is_alike, is_asked, is_fit, is_left_in, lacks_range, lone, name_in, named, named_after, only_at, pair_of, pairs, partner, range_of, same_place, the_only, unlike}
use Rattle.vcd_model.specs.Within.{Names, alone_in, at_path, compared_in, pair_at, pairs_in, places_of, rest_of, unlike_in}
use Rattle.vcd_laws.specs.CompareMerged.{asked_within, both_inputs}
use Rattle.vcd_laws.proofs.MergedHead.{merged_selected}
use Rattle.vcd_laws.proofs.MergedPaths.{any_own, any_other, own_scope, other_input, other_scope}

-- ---- paths

under_same : (n : ℕ) (path other : List ℕ)
    → bytes_eq (under_input n path) (under_input n other) ≡ bytes_eq path other
under_same n path other = same_front (input_scope n)
  where
    same_front : (a : List ℕ) → bytes_eq (a ++ 46 ∷ path) (a ++ 46 ∷ other) ≡ bytes_eq path other
    same_front [] = refl
    same_front (x ∷ a) = rw (eq-eqb x x refl) (same_front a)

under_other : (m n : ℕ) (path other : List ℕ) → m < 2 ^ 64 → n < 2 ^ 64 → (m ≡ n → ⊥)
    → bytes_eq (under_input m path) (under_input n other) ≡ false
under_other m n path other h g apart =
    (or_parts (bytes_eq (under_input m path) (under_input n other))
    (starts_with nat_eq (under_input m path) (under_input n other ++ 46 ∷ []))
    (other_input m n path other h g apart)).0

pub bytes_turned : (a b : List ℕ) → bytes_eq a b ≡ bytes_eq b a
bytes_turned a b = by_tests (bytes_eq a b) (bytes_eq b a) refl refl
  where
    by_tests : (p q : Bool) → bytes_eq a b ≡ p → bytes_eq b a ≡ q → bytes_eq a b ≡ bytes_eq b a
    by_tests true q e f = e ∙ sym ((bytes_eq-Decides b a).1 (sym ((bytes_eq-Decides a b).0 e)))
    by_tests false true e f = (bytes_eq-Decides a b).1 (sym ((bytes_eq-Decides b a).0 f)) ∙ sym f
    by_tests false false e f = e ∙ sym f

-- a variable of an input as it is in a merge
abbrev pub named_in : List Header → Header → Named → Named
named_in front h v = record {
  path = under_input (length front + 1) v.path;
  nth = v.nth;
  variable = record v.variable { code = renamed front h v.variable.code };
}

-- ---- all variables of a merge

module _ (front : List Header) (h : Header) where
  abbrev M : Selected → Selected
  M s = merged_variable front h s

  abbrev N : Named → Named
  N v = named_in front h v

  -- how many variables have the path and the range of another
  abbrev count_of : Selected → List Selected → ℕ
  count_of s ss = count_by (is_alike s) ss

  count_own : (s : Selected) (ss : List Selected) → count_of (M s) (map M ss) ≡ count_of s ss
  count_own s [] = refl
  count_own s (u ∷ ss) =
      let same : is_alike (M s) (M u) ≡ is_alike s u
      = ap (λ b. b && bytes_eq (range_of u.variable) (range_of s.variable)) (under_same (length front + 1) u.path s.path) in
      sum_by-cons (λ (u : Selected). cond {A = ℕ} (is_alike (M s) u) 1 0) (M u) (map M ss)
      ∙ ap (λ b. cond {A = ℕ} b 1 0 + count_of (M s) (map M ss)) same
      ∙ ap (λ n. cond {A = ℕ} (is_alike s u) 1 0 + n) (count_own s ss)
      ∙ sym (sum_by-cons (λ (u : Selected). cond {A = ℕ} (is_alike s u) 1 0) u ss)

  -- variables of other inputs
  abbrev pub AreOthers : List Selected → Type 0
  AreOthers ss = (s : Selected) → count_of (M s) ss ≡ 0

  named_from : (others done ss : List Selected) → AreOthers others
      → each_after named_after (others ++ map M done) (map M ss) ≡ map N (each_after named_after done ss)
  named_from others done [] none = refl
  named_from others done (s ∷ ss) none =
      let all = sum_by-append (λ (u : Selected). cond {A = ℕ} (is_alike (M s) u) 1 0) others (map M done) in
      let before = none s in
      let here = count_own s done in
      let nth : count_of (M s) (others ++ map M done) ≡ count_of s done = omega arith in
      let more : (others ++ map M done) ++ M s ∷ [] ≡ others ++ map M (done ++ s ∷ [])
      = append_assoc others (map M done) (M s ∷ []) ∙ ap (λ l. others ++ l) (sym (map-append M done (s ∷ []))) in
      ap (λ n. record { path = (M s).path; nth = n; variable = (M s).variable }
      ∷ each_after named_after ((others ++ map M done) ++ M s ∷ []) (map M ss)) nth
      ∙ ap (λ l. N (named_after done s) ∷ each_after named_after l (map M ss)) more
      ∙ ap (λ l. N (named_after done s) ∷ l) (named_from others (done ++ s ∷ []) ss none)

-- no path of the first input is one of the second
none_of_second : (one other : Header) (ss : List Selected)
    → AreOthers (one ∷ []) other (map (merged_variable [] one) ss)
none_of_second one other [] s = refl
none_of_second one other (u ∷ ss) s =
    let there = merged_variable (one ∷ []) other s in
    sum_by-cons (λ (u : Selected). cond {A = ℕ} (is_alike there u) 1 0)
    (merged_variable [] one u) (map (merged_variable [] one) ss)
    ∙ ap (λ b. cond {A = ℕ} (b && bytes_eq (range_of u.variable) (range_of s.variable)) 1 0 + count_by (is_alike there) (map (merged_variable [] one) ss))
    (under_other 1 2 u.path s.path (omega arith) (omega arith) (λ e. omega arith))
    ∙ (let more = none_of_second one other ss s in omega arith)

-- the variables of a merge of two inputs are those of the first, and then those of the second
pub named_in_merge : (one other k : Header)
    → selected [] k.declarations
    ≡ flat_map (λ vs. vs) (each_after merged_selected [] (one ∷ other ∷ []))
    → all_named k ≡ map (named_in [] one) (all_named one) ++ map (named_in (one ∷ []) other) (all_named other)
named_in_merge one other k variables =
    let firsts = map (merged_variable [] one) (selected [] one.declarations) in
    let seconds = map (merged_variable (one ∷ []) other) (selected [] other.declarations) in
    ap (each_after named_after []) (variables ∙ ap (λ l. firsts ++ l) (append-nil seconds))
    ∙ each_after-append named_after [] firsts seconds
    ∙ ap (λ l. l ++ each_after named_after firsts seconds)
    (named_from [] one [] [] (selected [] one.declarations) (λ s. refl))
    ∙ ap (λ l. map (named_in [] one) (all_named one) ++ l)
    (ap (λ l. each_after named_after l seconds) (sym (append-nil firsts))
    ∙ named_from (one ∷ []) other firsts [] (selected [] other.declarations)
    (none_of_second one other (selected [] one.declarations)))

-- ---- searches among them

find_none : {X : Type 0} (test : X → Bool) (xs ys : List X) → find test xs ≡ None
    → find test (xs ++ ys) ≡ find test ys
find_none test [] ys e = refl
find_none test (x ∷ xs) ys e = by_test (test x) e (find_none test xs ys)
  where
    by_test : (b : Bool) → cond b (Some x) (find test xs) ≡ None
        → (find test xs ≡ None → find test (xs ++ ys) ≡ find test ys)
        → cond b (Some x) (find test (xs ++ ys)) ≡ find test ys
    by_test true f more = cc
    by_test false f more = more f

find_first : {X : Type 0} (test : X → Bool) (xs ys : List X) → find test ys ≡ None
    → find test (xs ++ ys) ≡ find test xs
find_first test [] ys e = e
find_first test (x ∷ xs) ys e = ap (cond (test x) (Some x)) (find_first test xs ys e)

find_mapped : {X Y : Type 0} (f : X → Y) (test : Y → Bool) (test' : X → Bool) (xs : List X)
    → ((x : X) → test (f x) ≡ test' x) → find test (map f xs) ≡ option_map f (find test' xs)
find_mapped f test test' [] same = refl
find_mapped f test test' (x ∷ xs) same = rw (same x, find_mapped f test test' xs same) (by_test (test' x))
  where
    by_test : (b : Bool) → cond b (Some (f x)) (option_map f (find test' xs))
        ≡ option_map f (cond b (Some x) (find test' xs))
    by_test true = refl
    by_test false = refl

find_never : {X Y : Type 0} (f : X → Y) (test : Y → Bool) (xs : List X)
    → ((x : X) → test (f x) ≡ false) → find test (map f xs) ≡ None
find_never f test [] none = refl
find_never f test (x ∷ xs) none = rw (none x) (find_never f test xs none)

filter_mapped : {X Y : Type 0} (f : X → Y) (test : Y → Bool) (test' : X → Bool) (xs : List X)
    → ((x : X) → test (f x) ≡ test' x) → filter test (map f xs) ≡ map f (filter test' xs)
filter_mapped f test test' [] same = refl
filter_mapped f test test' (x ∷ xs) same = rw (same x, filter_mapped f test test' xs same) (by_test (test' x))
  where
    by_test : (b : Bool) → cond b (f x ∷ map f (filter test' xs)) (map f (filter test' xs))
        ≡ map f (cond b (x ∷ filter test' xs) (filter test' xs))
    by_test true = refl
    by_test false = refl

-- ---- what the scope of one input selects

rest_own : (n : ℕ) (path : List ℕ) → rest_of (input_scope n) (under_input n path) ≡ Some (46 ∷ path)
rest_own n path = rw (own_scope n path) (ap Some (drop-append_seam (input_scope n) (46 ∷ path)))

rest_other : (m n : ℕ) (path : List ℕ) → m < 2 ^ 64 → n < 2 ^ 64 → (m ≡ n → ⊥)
    → rest_of (input_scope n) (under_input m path) ≡ None
rest_other m n path h g apart = rw (other_scope m n path h g apart) refl

filter_never : {X Y : Type 0} (f : X → Y) (test : Y → Bool) (xs : List X)
    → ((x : X) → test (f x) ≡ false) → filter test (map f xs) ≡ []
filter_never f test [] none = refl
filter_never f test (x ∷ xs) none = rw (none x) (filter_never f test xs none)

only_mapped : (f : Named → Named) (vs : List Named) → the_only (map f vs) ≡ option_map f (the_only vs)
only_mapped f [] = refl
only_mapped f (v ∷ []) = refl
only_mapped f (v ∷ w ∷ vs) = refl

is_some_mapped : (f : Named → Named) (o : Option Named) → is_some (option_map f o) ≡ is_some o
is_some_mapped f None = refl
is_some_mapped f (Some v) = refl

-- ---- what is at a path of one input

-- the variables of a header, and those of another one
record HasBoth (k : Header) (front : List Header) (h : Header) (front' : List Header) (h' : Header) : Type 0 where
  parts : (test : Named → Bool) → filter test (map (named_in front' h') (all_named h')) ≡ []
      → filter test (all_named k) ≡ filter test (map (named_in front h) (all_named h))
  first : (test : Named → Bool) → find test (map (named_in front' h') (all_named h')) ≡ None
      → find test (all_named k) ≡ find test (map (named_in front h) (all_named h))

module _ (k : Header) (front : List Header) (h : Header) (front' : List Header) (h' : Header) (both : HasBoth k front h front' h')
    (small : length front + 1 < 2 ^ 64) (small' : length front' + 1 < 2 ^ 64)
    (apart : length front' + 1 ≡ length front + 1 → ⊥) where
  abbrev own_path : List ℕ → List ℕ
  own_path path = under_input (length front + 1) path

  -- the only variable of a path
  only_own : (path : List ℕ) → only_at (all_named k) (own_path path) ≡ option_map (named_in front h) (only_at (all_named h) path)
  only_own path =
      ap the_only (both.parts (λ w. bytes_eq w.path (own_path path))
      (filter_never (named_in front' h') (λ w. bytes_eq w.path (own_path path)) (all_named h')
      (λ w. under_other (length front' + 1) (length front + 1) w.path path small' small apart))
      ∙ filter_mapped (named_in front h) (λ w. bytes_eq w.path (own_path path)) (λ w. bytes_eq w.path path) (all_named h)
      (λ w. under_same (length front + 1) w.path path))
      ∙ only_mapped (named_in front h) (filter (λ w. bytes_eq w.path path) (all_named h))

  -- the name of a variable
  name_own : (v : Named) → name_in k (named_in front h v) ≡ own_path (name_in h v)
  name_own v =
      ap (λ b. cond b (own_path v.path) (own_path v.path ++ range_of v.variable))
      (ap is_some (only_own v.path) ∙ is_some_mapped (named_in front h) (only_at (all_named h) v.path))
      ∙ by_only (is_some (only_at (all_named h) v.path))
    where
      by_only : (b : Bool) → cond b (own_path v.path) (own_path v.path ++ range_of v.variable)
          ≡ own_path (cond b v.path (full_name v))
      by_only true = refl
      by_only false = append_assoc (input_scope (length front + 1)) (46 ∷ v.path) (range_of v.variable)

  -- the variable at a path that is in the place of another
  found_own : (path : List ℕ) (v : Named) → find (λ w. bytes_eq w.path (own_path path) && same_place v w) (all_named k)
      ≡ option_map (named_in front h) (find (λ w. bytes_eq w.path path && same_place v w) (all_named h))
  found_own path v =
      both.first (λ w. bytes_eq w.path (own_path path) && same_place v w)
      (find_never (named_in front' h') (λ w. bytes_eq w.path (own_path path) && same_place v w) (all_named h')
      (λ w. ap (λ b. b && same_place v (named_in front' h' w)) (under_other (length front' + 1) (length front + 1) w.path path small' small apart)))
      ∙ find_mapped (named_in front h) (λ w. bytes_eq w.path (own_path path) && same_place v w)
      (λ w. bytes_eq w.path path && same_place v w) (all_named h)
      (λ w. ap (λ b. b && same_place v w) (under_same (length front + 1) w.path path))

-- a counterpart of a variable, as they are in a merge
counterpart_own : (k : Header) (front : List Header) (h : Header) (front' : List Header) (h' : Header) (path : List ℕ) (v : Named)
    → only_at (all_named k) (under_input (length front + 1) v.path) ≡ option_map (named_in front h) (only_at (all_named h) v.path)
    → only_at (all_named k) (under_input (length front' + 1) path) ≡ option_map (named_in front' h') (only_at (all_named h') path)
    → find (λ w. bytes_eq w.path (under_input (length front' + 1) path) && same_place v w) (all_named k)
    ≡ option_map (named_in front' h') (find (λ w. bytes_eq w.path path && same_place v w) (all_named h'))
    → at_path k (under_input (length front' + 1) path) (named_in front h v)
    ≡ option_map (named_in front' h') (counterpart (all_named h) (all_named h') path v)
counterpart_own k front h front' h' path v own other found =
    ap (λ o. first_of o (lone (only_at (all_named k) (under_input (length front + 1) v.path)) (named_in front h v) (only_at (all_named k) (under_input (length front' + 1) path)))) found
    ∙ ap (λ o. first_of (option_map (named_in front' h') exact) (lone o (named_in front h v) (only_at (all_named k) (under_input (length front' + 1) path)))) own
    ∙ ap (λ o. first_of (option_map (named_in front' h') exact) (lone (option_map (named_in front h) (only_at (all_named h) v.path)) (named_in front h v) o)) other
    ∙ ap (first_of (option_map (named_in front' h') exact)) (lone_mapped (only_at (all_named h) v.path) (only_at (all_named h') path))
    ∙ first_mapped exact (lone (only_at (all_named h) v.path) v (only_at (all_named h') path))
  where
    exact : Option Named
    exact = find (λ w. bytes_eq w.path path && same_place v w) (all_named h')

    lone_mapped : (o p : Option Named) → lone (option_map (named_in front h) o) (named_in front h v) (option_map (named_in front' h') p)
        ≡ option_map (named_in front' h') (lone o v p)
    lone_mapped o None = refl
    lone_mapped None (Some w) = refl
    lone_mapped (Some u) (Some w) = by_range (lacks_range v w)
      where
        by_range : (b : Bool) → cond (true && b) (Some (named_in front' h' w)) None ≡ option_map (named_in front' h') (cond (true && b) (Some w) None)
        by_range true = refl
        by_range false = refl

    first_mapped : (o p : Option Named) → first_of (option_map (named_in front' h') o) (option_map (named_in front' h') p)
        ≡ option_map (named_in front' h') (first_of o p)
    first_mapped None p = refl
    first_mapped (Some w) p = refl

module _ (q asked : Asked) (k : Header) (front : List Header) (h : Header) (front' : List Header) (h' : Header)
    (left : (v : Named) → is_left_in asked (under_input (length front + 1) v.path) ≡ is_asked q v.path)
    (found : (v : Named) → at_path k (under_input (length front' + 1) v.path) (named_in front h v)
    ≡ option_map (named_in front' h') (partner h h' v))
    (named_so : (v : Named) → name_in k (named_in front h v) ≡ under_input (length front + 1) (name_in h v))
    (small : length front + 1 < 2 ^ 64) (small' : length front' + 1 < 2 ^ 64)
    (apart : length front' + 1 ≡ length front + 1 → ⊥) where
  -- a variable of the input with the one of the other input that it is compared with
  abbrev place : Named → Named × Option Named
  place v = (named_in front h v, option_map (named_in front' h') (partner h h' v))

  abbrev names : Names
  names = (input_scope (length front + 1), input_scope (length front' + 1))

  abbrev placed : Named → Option (Named × Option Named)
  placed v = option_map (λ r. (v, at_path k (names.1 ++ r) v)) (rest_of names.0 v.path)

  one_place : (v : Named) → placed (named_in front h v) ≡ Some (place v)
  one_place v = rw (rest_own (length front + 1) v.path) (ap (λ o. Some (named_in front h v, o)) (found v))

  places_own : (vs : List Named)
      → filter_map placed (filter (λ v. is_left_in asked v.path) (map (named_in front h) vs))
      ≡ map place (filter (λ v. is_asked q v.path) vs)
  places_own [] = refl
  places_own (v ∷ vs) = rw (left v) (by_test (is_asked q v.path) refl (places_own vs))
    where
      rest : List Named
      rest = filter (λ v. is_left_in asked v.path) (map (named_in front h) vs)

      by_test : (b : Bool) → is_asked q v.path ≡ b
          → filter_map placed rest ≡ map place (filter (λ v. is_asked q v.path) vs)
          → filter_map placed (cond b (named_in front h v ∷ rest) rest)
          ≡ map place (cond b (v ∷ filter (λ v. is_asked q v.path) vs) (filter (λ v. is_asked q v.path) vs))
      by_test true e more = ap (λ o. cons_option o (filter_map placed rest)) (one_place v)
          ∙ ap (λ l. place v ∷ l) more
      by_test false e more = more

  places_other : (vs : List Named)
      → filter_map placed (filter (λ v. is_left_in asked v.path) (map (named_in front' h') vs)) ≡ []
  places_other [] = refl
  places_other (v ∷ vs) = by_test (is_left_in asked (named_in front' h' v).path) (places_other vs)
    where
      rest : List Named
      rest = filter (λ v. is_left_in asked v.path) (map (named_in front' h') vs)

      by_test : (b : Bool) → filter_map placed rest ≡ []
          → filter_map placed (cond b (named_in front' h' v ∷ rest) rest) ≡ []
      by_test true more = rw (rest_other (length front' + 1) (length front + 1) v.path small' small apart) more
      by_test false more = more

  places_first : all_named k ≡ map (named_in front h) (all_named h) ++ map (named_in front' h') (all_named h')
      → places_of asked k names ≡ map place (named q h)
  places_first e =
      ap (λ l. filter_map placed (filter (λ v. is_left_in asked v.path) l)) e
      ∙ ap (filter_map placed) (filter-append (λ v. is_left_in asked v.path) (map (named_in front h) (all_named h)) (map (named_in front' h') (all_named h')))
      ∙ filter_map-append placed (filter (λ v. is_left_in asked v.path) (map (named_in front h) (all_named h))) (filter (λ v. is_left_in asked v.path) (map (named_in front' h') (all_named h')))
      ∙ ap (λ l. filter_map placed (filter (λ v. is_left_in asked v.path) (map (named_in front h) (all_named h))) ++ l) (places_other (all_named h'))
      ∙ append-nil (filter_map placed (filter (λ v. is_left_in asked v.path) (map (named_in front h) (all_named h))))
      ∙ places_own (all_named h)

  places_last : all_named k ≡ map (named_in front' h') (all_named h') ++ map (named_in front h) (all_named h)
      → places_of asked k names ≡ map place (named q h)
  places_last e =
      ap (λ l. filter_map placed (filter (λ v. is_left_in asked v.path) l)) e
      ∙ ap (filter_map placed) (filter-append (λ v. is_left_in asked v.path) (map (named_in front' h') (all_named h')) (map (named_in front h) (all_named h)))
      ∙ filter_map-append placed (filter (λ v. is_left_in asked v.path) (map (named_in front' h') (all_named h'))) (filter (λ v. is_left_in asked v.path) (map (named_in front h) (all_named h)))
      ∙ ap (λ l. l ++ filter_map placed (filter (λ v. is_left_in asked v.path) (map (named_in front h) (all_named h)))) (places_other (all_named h'))
      ∙ places_own (all_named h)

  -- those that have no counterpart
  alone_are : (vs : List Named) → filter_map (λ p. cond (is_none p.1) (Some p.0) None) (map place vs)
      ≡ map (named_in front h) (filter (λ v. is_none (partner h h' v)) vs)
  alone_are [] = refl
  alone_are (v ∷ vs) = by_partner (partner h h' v) (alone_are vs)
    where
      rest : List Named
      rest = filter (λ v. is_none (partner h h' v)) vs

      by_partner : (o : Option Named)
          → filter_map (λ p. cond (is_none p.1) (Some p.0) None) (map place vs) ≡ map (named_in front h) rest
          → cons_option (cond (is_none (option_map (named_in front' h') o)) (Some (named_in front h v)) None)
          (filter_map (λ p. cond (is_none p.1) (Some p.0) None) (map place vs))
          ≡ map (named_in front h) (cond (is_none o) (v ∷ rest) rest)
      by_partner None more = ap (λ l. named_in front h v ∷ l) more
      by_partner (Some w) more = more

  -- a pair of the two inputs as it is in a merge
  abbrev pair : Pair → Pair
  pair p = record {
    path = under_input (length front + 1) p.path;
    one = record p.one { code = renamed front h p.one.code };
    other = record p.other { code = renamed front' h' p.other.code };
  }

  pairs_are : (vs : List Named) → filter_map (pair_at k) (map place vs)
      ≡ map pair (filter_map (pair_of h h') vs)
  pairs_are [] = refl
  pairs_are (v ∷ vs) = by_partner (partner h h' v) (pairs_are vs)
    where
      rest : List Pair
      rest = filter_map (pair_of h h') vs

      by_partner : (o : Option Named) → filter_map (pair_at k) (map place vs) ≡ map pair rest
          → cons_option (pair_at k (named_in front h v, option_map (named_in front' h') o)) (filter_map (pair_at k) (map place vs))
          ≡ map pair (cons_option (option_map (λ w. record { path = name_in h v; one = v.variable; other = w.variable }) o) rest)
      by_partner None more = more
      by_partner (Some w) more =
          ap (λ (name : List ℕ). record { path = name; one = (named_in front h v).variable; other = (named_in front' h' w).variable } ∷ filter_map (pair_at k) (map place vs)) (named_so v)
          ∙ ap (λ l. pair (record { path = name_in h v; one = v.variable; other = w.variable }) ∷ l) more

-- ---- both inputs

-- what is left out of a merge
asked_alike : (q : Asked) (path : List ℕ) → q.names ≡ [] → is_asked q path ≡ is_left_in q path
asked_alike q path e = rw e refl

left_of : (n : ℕ) (from to : ℕ) (q : Asked) (path : List ℕ) → q.names ≡ []
    → list_any (selects_path (under_input n path)) (map (under_input 1) q.exceptions ++ map (under_input 2) q.exceptions)
    ≡ list_any (selects_path path) q.exceptions
    → is_left_in (asked_within q from to) (under_input n path) ≡ is_asked q path
left_of n from to q path e same = ap not same ∙ sym (asked_alike q path e)

left_one : (from to : ℕ) (q : Asked) (path : List ℕ) → q.names ≡ []
    → is_left_in (asked_within q from to) (under_input 1 path) ≡ is_asked q path
left_one from to q path e = left_of 1 from to q path e
    (list_any-append (selects_path (under_input 1 path)) (map (under_input 1) q.exceptions) (map (under_input 2) q.exceptions)
    ∙ ap (λ r. list_any (selects_path (under_input 1 path)) (map (under_input 1) q.exceptions) || r)
    (any_other 1 2 path q.exceptions (omega arith) (omega arith) (λ f. omega arith))
    ∙ or_none (list_any (selects_path (under_input 1 path)) (map (under_input 1) q.exceptions))
    ∙ any_own 1 path q.exceptions)
  where
    or_none : (b : Bool) → (b || false) ≡ b
    or_none true = refl
    or_none false = refl

left_other : (from to : ℕ) (q : Asked) (path : List ℕ) → q.names ≡ []
    → is_left_in (asked_within q from to) (under_input 2 path) ≡ is_asked q path
left_other from to q path e = left_of 2 from to q path e
    (list_any-append (selects_path (under_input 2 path)) (map (under_input 1) q.exceptions) (map (under_input 2) q.exceptions)
    ∙ ap (λ r. r || list_any (selects_path (under_input 2 path)) (map (under_input 2) q.exceptions))
    (any_other 2 1 path q.exceptions (omega arith) (omega arith) (λ f. omega arith))
    ∙ any_own 2 path q.exceptions)

-- a pair of two inputs as it is in their merge
abbrev pub merged_pair : Header → Header → Pair → Pair
merged_pair one other p = record {
  path = under_input 1 p.path;
  one = record p.one { code = renamed [] one p.one.code };
  other = record p.other { code = renamed (one ∷ []) other p.other.code };
}

-- the two inputs in a merge have the pairs that they have
pub record ArePaired (q asked : Asked) (k one other : Header) : Type 0 where
  pub compared : compared_in asked k both_inputs ≡ map (merged_pair one other) (pairs q one other)
  pub different : unlike_in asked k both_inputs ≡ map (merged_pair one other) (unlike q one other)
  pub first : alone_in asked k (input_scope 1, input_scope 2) ≡ map (named_in [] one) (alone q one other)
  pub second : alone_in asked k (input_scope 2, input_scope 1) ≡ map (named_in (one ∷ []) other) (alone q other one)

pub are_paired : (q : Asked) (from to : ℕ) (k one other : Header) → q.names ≡ []
    → selected [] k.declarations
    ≡ flat_map (λ vs. vs) (each_after merged_selected [] (one ∷ other ∷ []))
    → ArePaired q (asked_within q from to) k one other
unfolding pairs unlike alone
are_paired q from to k one other e variables =
    let asked = asked_within q from to in
    let named_k = named_in_merge one other k variables in
    let firsts = map (named_in [] one) (all_named one) in
    let seconds = map (named_in (one ∷ []) other) (all_named other) in
    let ones : HasBoth k [] one (one ∷ []) other = record {
      parts = λ test none. ap (filter test) named_k ∙ filter-append test firsts seconds
          ∙ ap (λ l. filter test firsts ++ l) none ∙ append-nil (filter test firsts);
      first = λ test none. ap (find test) named_k ∙ find_first test firsts seconds none;
    } in
    let others : HasBoth k (one ∷ []) other [] one = record {
      parts = λ test none. ap (filter test) named_k ∙ filter-append test firsts seconds ∙ ap (λ l. l ++ filter test seconds) none;
      first = λ test none. ap (find test) named_k ∙ find_none test firsts seconds none;
    } in
    let only_one : (path : List ℕ) → only_at (all_named k) (under_input 1 path) ≡ option_map (named_in [] one) (only_at (all_named one) path)
    = only_own k [] one (one ∷ []) other ones (omega arith) (omega arith) (λ f. omega arith) in
    let only_other : (path : List ℕ) → only_at (all_named k) (under_input 2 path) ≡ option_map (named_in (one ∷ []) other) (only_at (all_named other) path)
    = only_own k (one ∷ []) other [] one others (omega arith) (omega arith) (λ f. omega arith) in
    let name_one : (v : Named) → name_in k (named_in [] one v) ≡ under_input 1 (name_in one v)
    = name_own k [] one (one ∷ []) other ones (omega arith) (omega arith) (λ f. omega arith) in
    let name_other : (v : Named) → name_in k (named_in (one ∷ []) other v) ≡ under_input 2 (name_in other v)
    = name_own k (one ∷ []) other [] one others (omega arith) (omega arith) (λ f. omega arith) in
    let in_second : (v : Named) → at_path k (under_input 2 v.path) (named_in [] one v) ≡ option_map (named_in (one ∷ []) other) (partner one other v)
    = λ v. counterpart_own k [] one (one ∷ []) other v.path v (only_one v.path) (only_other v.path)
    (found_own k (one ∷ []) other [] one others (omega arith) (omega arith) (λ f. omega arith) v.path v) in
    let in_first : (v : Named) → at_path k (under_input 1 v.path) (named_in (one ∷ []) other v) ≡ option_map (named_in [] one) (partner other one v)
    = λ v. counterpart_own k (one ∷ []) other [] one v.path v (only_other v.path) (only_one v.path)
    (found_own k [] one (one ∷ []) other ones (omega arith) (omega arith) (λ f. omega arith) v.path v) in
    let places : places_of asked k (input_scope 1, input_scope 2)
    ≡ map (place q asked k [] one (one ∷ []) other (λ v. left_one from to q v.path e) in_second name_one (omega arith) (omega arith) (λ f. omega arith)) (named q one)
    = places_first q asked k [] one (one ∷ []) other (λ v. left_one from to q v.path e) in_second name_one (omega arith) (omega arith) (λ f. omega arith) named_k in
    let backward : places_of asked k (input_scope 2, input_scope 1)
    ≡ map (place q asked k (one ∷ []) other [] one (λ v. left_other from to q v.path e) in_first name_other (omega arith) (omega arith) (λ f. omega arith)) (named q other)
    = places_last q asked k (one ∷ []) other [] one (λ v. left_other from to q v.path e) in_first name_other (omega arith) (omega arith) (λ f. omega arith) named_k in
    let all : pairs_in asked k both_inputs ≡ map (merged_pair one other) (in_common q one other)
    = append-nil (filter_map (pair_at k) (places_of asked k (input_scope 1, input_scope 2)))
    ∙ ap (filter_map (pair_at k)) places
    ∙ pairs_are q asked k [] one (one ∷ []) other (λ v. left_one from to q v.path e) in_second name_one (omega arith) (omega arith) (λ f. omega arith) (named q one) in
    record {
      compared = ap (filter is_fit) all
          ∙ filter_mapped (merged_pair one other) is_fit is_fit (in_common q one other) (λ p. refl);
      different = ap (filter (λ p. not (is_fit p))) all
          ∙ filter_mapped (merged_pair one other) (λ p. not (is_fit p)) (λ p. not (is_fit p)) (in_common q one other) (λ p. refl);
      first = ap (filter_map (λ p. cond (is_none p.1) (Some p.0) None)) places
          ∙ alone_are q asked k [] one (one ∷ []) other (λ v. left_one from to q v.path e) in_second name_one (omega arith) (omega arith) (λ f. omega arith) (named q one);
      second = ap (filter_map (λ p. cond (is_none p.1) (Some p.0) None)) backward
          ∙ alone_are q asked k (one ∷ []) other [] one (λ v. left_other from to q v.path e) in_first name_other (omega arith) (omega arith) (λ f. omega arith) (named q other);
    }
