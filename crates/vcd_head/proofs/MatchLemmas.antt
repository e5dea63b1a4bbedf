-- Which names of a group have matched, one row after the other.
use Rattle.vcd_head.proofs.Cited.{◌≡◌, ◌≢◌, ℕ, zero, suc, ◌+◌, ◌<◌, ◌≤◌, Bool, true, false, not, cond, ◌&&◌, ◌||◌, List, [], ◌∷◌, ◌++◌, length, take, set, replicate, get_or, filter_map, slice_get, Option, Some, None, IfSome, option_map, inl, inr, refl, sym, ap, ◌∙◌, arith, add-one, list_any, cases_eq, get_or-replicate, get_or-set_other, get_or-set_same, take_all, list_any_more, get_or_from_slice_get, none-some, same_Some, slice_get_within, each_after, is_empty, Declaration, path_of, first_unmatched, is_selected, is_variable, selects_path, with_path, each_after-append, HaveMatched, IsFirstFalse, Matched, Matches, there}
use Rattle.vcd_model.specs.Selection.{selected}
use Rattle.vcd_head.proofs.SelectionLemmas.{has_path, take-next, without_path}

-- ---- tests

pub or_true : (b x : Bool) → x ≡ true → (b || x) ≡ true
or_true true x e = refl
or_true false x e = e

pub or_false : (b x : Bool) → x ≡ false → (b || x) ≡ b
or_false true x e = refl
or_false false x e = e

-- ---- the names, one after the other

-- the first names were asked
pub record Matching (test : List ℕ → Bool) (names : List (List ℕ)) (position : ℕ) (old new : List Bool) (some : Bool) : Type 0 where
  pub flags : (i : ℕ) (name : List ℕ) → i < position → slice_get names i ≡ Some name → get_or new i false ≡ (get_or old i false || test name)
  pub ahead : (i : ℕ) → position ≤ i → get_or new i false ≡ get_or old i false
  pub any : some ≡ list_any test (take position names)

pub match_first : (test : List ℕ → Bool) (names : List (List ℕ)) (flags : List Bool) → Matching test names 0 flags flags false
match_first test names flags = record { flags = λ i name l. absurd (omega arith); ahead = λ i l. refl; any = refl }

pub before : (i n : ℕ) → i < n + 1 → i ≢ n → i < n
before i n l d = elim (cases_eq i n) [ inl e ↦ absurd (d e) | inr x ↦ omega (arith, x) ]

any_next : (test : List ℕ → Bool) (names : List (List ℕ)) (position : ℕ) (name : List ℕ) → slice_get names position ≡ Some name
    → list_any test (take (position + 1) names) ≡ (list_any test (take position names) || test name)
any_next test names position name at =
    list_any_more test names position [] (slice_get_within names position name at) ∙ ap (λ n. list_any test (take position names) || test n) (get_or_from_slice_get names position name [] at)

pub match_next : (test : List ℕ → Bool) (names : List (List ℕ)) (position : ℕ) (old new : List Bool) (some : Bool) (name : List ℕ)
    → slice_get names position ≡ Some name → position < length new → test name ≡ true → Matching test names position old new some
    → Matching test names (position + 1) old (set new position true) true
match_next test names position old new some name at l passes m = record {
  flags = λ i n w is. elim (cases_eq i position) [
    | inl e ↦
        let same : n ≡ name = same_Some n name (sym is ∙ ap (slice_get names) e ∙ at) in
        ap (λ k. get_or (set new position true) k false) e ∙ get_or-set_same new position true false l ∙ sym (or_true (get_or old i false) (test n) (ap test same ∙ passes))
    | inr d ↦ get_or-set_other new position i true false d ∙ m.flags i n (before i position w d) is
  ];
  ahead = λ i w. get_or-set_other new position i true false (λ e. omega (arith, e, w)) ∙ m.ahead i (omega (arith, w));
  any = sym (any_next test names position name at ∙ or_true (list_any test (take position names)) (test name) passes);
}

pub match_same : (test : List ℕ → Bool) (names : List (List ℕ)) (position : ℕ) (old new : List Bool) (some : Bool) (name : List ℕ)
    → slice_get names position ≡ Some name → test name ≡ false → Matching test names position old new some
    → Matching test names (position + 1) old new some
match_same test names position old new some name at no_match m = record {
  flags = λ i n w is. elim (cases_eq i position) [
    | inl e ↦
        let same : n ≡ name = same_Some n name (sym is ∙ ap (slice_get names) e ∙ at) in
        m.ahead i (omega (arith, e)) ∙ sym (or_false (get_or old i false) (test n) (ap test same ∙ no_match))
    | inr d ↦ m.flags i n (before i position w d) is
  ];
  ahead = λ i w. m.ahead i (omega (arith, w));
  any = m.any ∙ sym (any_next test names position name at ∙ or_false (list_any test (take position names)) (test name) no_match);
}

pub match_all : (test : List ℕ → Bool) (names : List (List ℕ)) (position : ℕ) (old new : List Bool) (some : Bool) → length names ≤ position
    → Matching test names position old new some → Matches test names old new some
match_all test names position old new some l m = record {
  flags = λ i n is. m.flags i n (omega (arith, slice_get_within names i n is)) is;
  any = m.any ∙ ap (list_any test) (take_all position names l);
}

-- no name passes
pub any_none : (test : List ℕ → Bool) (names : List (List ℕ)) → ((i : ℕ) (name : List ℕ) → slice_get names i ≡ Some name → test name ≡ false) → list_any test names ≡ false
any_none test [] h = refl
any_none test (x ∷ xs) h = rw (h 0 x refl) (any_none test xs (λ i. h (suc i)))

pub match_none : (test : List ℕ → Bool) (names : List (List ℕ)) (flags : List Bool)
    → ((i : ℕ) (name : List ℕ) → slice_get names i ≡ Some name → test name ≡ false) → Matches test names flags flags false
match_none test names flags h = record { flags = λ i n is. sym (or_false (get_or flags i false) (test n) (h i n is)); any = sym (any_none test names h) }

-- ---- a row

pub no_match : (names : List (List ℕ)) (e : List Declaration) (d : Declaration) (flags : List Bool) → is_variable d ≡ false → Matched (λ name. is_selected (name ∷ []) e d) names flags flags
no_match names e d flags h = λ i n is. sym (or_false (get_or flags i false) (is_selected (n ∷ []) e d) (rw h refl))

one_selects : (name : List ℕ) (e : List Declaration) (d : Declaration) → is_variable d ≡ true → is_selected (name ∷ []) e d ≡ selects_path (path_of e d) name
one_selects name e d h = rw h (by_test (selects_path (path_of e d) name))
  where
    by_test : (b : Bool) → (true && (false || (b || false))) ≡ b
    by_test true = refl
    by_test false = refl

pub matched_row : (names : List (List ℕ)) (e : List Declaration) (d : Declaration) (old new : List Bool) (some : Bool) → is_variable d ≡ true
    → Matches (selects_path (path_of e d)) names old new some → Matched (λ name. is_selected (name ∷ []) e d) names old new
matched_row names e d old new some h m = λ i n is. m.flags i n is ∙ ap (λ b. get_or old i false || b) (sym (one_selects n e d h))

pub selected_row : (names : List (List ℕ)) (e : List Declaration) (d : Declaration) (old new : List Bool) (some : Bool) → is_variable d ≡ true
    → Matches (selects_path (path_of e d)) names old new some → is_selected names e d ≡ (is_empty names || some)
selected_row names e d old new some h m = rw (h, m.any) refl

-- ---- all rows

pub none_matched : (names : List (List ℕ)) (ds : List Declaration) (n : ℕ) → length names ≤ n → HaveMatched names (take 0 ds) (replicate n false)
unfolding selected
none_matched names ds n l = λ i name is. get_or-replicate n i false false (omega (arith, slice_get_within names i name is))

-- whether a list that grows by an option has something
grown : {X : Type 0} (os : List (Option X)) (o : Option X) (b : Bool) → (b ≡ false → o ≡ None) → (b ≡ true → (x : X) × (o ≡ Some x))
    → not (is_empty (filter_map (λ p. p) (os ++ o ∷ []))) ≡ (not (is_empty (filter_map (λ p. p) os)) || b)
grown [] o true f t = let s = t refl in rw s.1 refl
grown [] o false f t = rw (f refl) refl
grown (Some x ∷ os) o b f t = refl
grown (None ∷ os) o b f t = grown os o b f t

pub selects_next : (names : List (List ℕ)) (ds : List Declaration) (row : ℕ) (d : Declaration) → slice_get ds row ≡ Some d
    → not (is_empty (selected names (take (row + 1) ds))) ≡ (not (is_empty (selected names (take row ds))) || is_selected names (take row ds) d)
unfolding selected
selects_next names ds row d at =
    ap (λ n. not (is_empty (selected names (take n ds)))) (add-one row) ∙ ap (λ l. not (is_empty (selected names l))) (take-next ds row d at)
    ∙ ap (λ os. not (is_empty (filter_map (λ p. p) os))) (each_after-append (with_path names) [] (take row ds) (d ∷ []))
    ∙ grown (each_after (with_path names) [] (take row ds)) (with_path names (take row ds) d) (is_selected names (take row ds) d)
    (without_path names (take row ds) d) (has_path names (take row ds) d)

pub matched_next : (names : List (List ℕ)) (ds : List Declaration) (row : ℕ) (d : Declaration) (old new : List Bool) → slice_get ds row ≡ Some d
    → HaveMatched names (take row ds) old → Matched (λ name. is_selected (name ∷ []) (take row ds) d) names old new
    → HaveMatched names (take (row + 1) ds) new
matched_next names ds row d old new at h m = λ i name is. m i name is ∙ ap (λ b. b || is_selected (name ∷ []) (take row ds) d) (h i name is) ∙ sym (selects_next (name ∷ []) ds row d at)

-- ---- the first name that selects nothing

was_not : (b : Bool) (x : Bool) → b ≡ not x → b ≡ true → x ≡ false
was_not b true e t = cc
was_not b false e t = refl

was : (b : Bool) (x : Bool) → b ≡ not x → b ≡ false → x ≡ true
was b true e t = refl
was b false e t = cc

all_match : (names : List (List ℕ)) (ds : List Declaration) → ((i : ℕ) (name : List ℕ) → slice_get names i ≡ Some name
    → is_empty (selected (name ∷ []) ds) ≡ false) → first_unmatched names ds ≡ None
all_match [] ds h = refl
all_match (x ∷ xs) ds h = rw (h 0 x refl) (ap (option_map suc) (all_match xs ds (λ i. h (suc i))))

first_at : (names : List (List ℕ)) (ds : List Declaration) (p : ℕ) (name : List ℕ) → slice_get names p ≡ Some name
    → is_empty (selected (name ∷ []) ds) ≡ true → ((i : ℕ) (n : List ℕ) → i < p → slice_get names i ≡ Some n
    → is_empty (selected (n ∷ []) ds) ≡ false) → first_unmatched names ds ≡ Some p
first_at [] ds p name at e h = absurd (none-some name at)
first_at (x ∷ xs) ds zero name at e h = rw (ap (λ n. is_empty (selected (n ∷ []) ds)) (same_Some x name at) ∙ e) refl
first_at (x ∷ xs) ds (suc p) name at e h = rw (h 0 x (omega arith) refl) (ap (option_map suc) (first_at xs ds p name at e (λ i n l. h (suc i) n (omega (arith, l)))))

pub first_is : (names : List (List ℕ)) (ds : List Declaration) (flags : List Bool) (count : ℕ) (o : Option ℕ) → count ≡ length names
    → HaveMatched names ds flags → IsFirstFalse flags count o → o ≡ first_unmatched names ds
first_is names ds flags count None e h f = sym (all_match names ds
    (λ i n is. was_not (get_or flags i false) (is_empty (selected (n ∷ []) ds)) (h i n is) (f i (omega (arith, slice_get_within names i n is)))))
first_is names ds flags count (Some p) e h f =
    let n = there names p (omega (arith, f.0)) in
    sym (first_at names ds p n.0 n.1 (was (get_or flags p false) (is_empty (selected (n.0 ∷ []) ds)) (h p n.0 n.1) f.1)
    (λ i m l is. was_not (get_or flags i false) (is_empty (selected (m ∷ []) ds)) (h i m is) (f.2 i l)))

pub first_within : (flags : List Bool) (count : ℕ) (o : Option ℕ) → IsFirstFalse flags count o → IfSome o (λ p. p < count)
first_within flags count None f = tt
first_within flags count (Some p) f = f.0

-- ---- names in groups

pub unmatched_first : (xs ys : List (List ℕ)) (ds : List Declaration) (p : ℕ) → first_unmatched xs ds ≡ Some p → first_unmatched (xs ++ ys) ds ≡ Some p
unmatched_first [] ys ds p e = cc
unmatched_first (x ∷ xs) ys ds p e = by_test (is_empty (selected (x ∷ []) ds)) (first_unmatched xs ds) (unmatched_first xs ys ds) p e
  where
    by_test : (b : Bool) (o : Option ℕ) → ((q : ℕ) → o ≡ Some q → first_unmatched (xs ++ ys) ds ≡ Some q) → (q : ℕ)
        → cond b (Some 0) (option_map suc o) ≡ Some q → cond b (Some 0) (option_map suc (first_unmatched (xs ++ ys) ds)) ≡ Some q
    by_test true o h q w = w
    by_test false None h q w = cc
    by_test false (Some r) h q w = ap (option_map suc) (h r refl) ∙ w

pub unmatched_later : (xs ys : List (List ℕ)) (ds : List Declaration) (o : Option ℕ) → first_unmatched xs ds ≡ None → o ≡ first_unmatched ys ds
    → first_unmatched (xs ++ ys) ds ≡ option_map (λ p. length xs + p) o
unmatched_later [] ys ds o e is = sym is ∙ sym (moved_none o)
  where
    moved_none : (r : Option ℕ) → option_map (λ p. 0 + p) r ≡ r
    moved_none None = refl
    moved_none (Some p) = ap Some (omega arith)
unmatched_later (x ∷ xs) ys ds o e is = by_test (is_empty (selected (x ∷ []) ds)) (first_unmatched xs ds) (λ w. unmatched_later xs ys ds o w is) e
  where
    one_more : (r : Option ℕ) → option_map suc (option_map (λ p. length xs + p) r) ≡ option_map (λ p. length (x ∷ xs) + p) r
    one_more None = refl
    one_more (Some p) = ap Some (omega arith)

    by_test : (b : Bool) (r : Option ℕ) → (r ≡ None → first_unmatched (xs ++ ys) ds ≡ option_map (λ p. length xs + p) o)
        → cond b (Some 0) (option_map suc r) ≡ None → cond b (Some 0) (option_map suc (first_unmatched (xs ++ ys) ds)) ≡ option_map
        (λ p. length (x ∷ xs) + p) o
    by_test true r h w = cc
    by_test false (Some q) h w = cc
    by_test false None h w = ap (option_map suc) (h refl) ∙ one_more o
