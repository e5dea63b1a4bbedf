-- Which declarations names select.
use Rattle.vcd_head.proofs.Cited.{◌≡◌, ◌≢◌, ℕ, zero, suc, ◌+◌, ◌<◌, ◌==◌, ◌||◌, Bool, true, false, cond, List, [], ◌∷◌, ◌++◌, length, take, drop, filter_map, flat_map, slice_get, Some, None, refl, sym, ap, subst, ◌∙◌, add-one, arith, cond-true, cond-false, eq-eqb, ne_eqb, or-false, or_parts, flat_map-append, filter_map-append, list_any-append, append_assoc, append-nil, length_push, length-take-le, take-append-drop, slice_get_within, each, each_after, Declaration, Variable, enclosing, path_of, Selected, is_among, is_selected, with_path, each_after-append, enclosing-scope, enclosing-up, enclosing-var, enclosing_below, below_other, none_any, places_after, places_at, places_below, places_split}
use Rattle.vcd_model.specs.Selection.{marked_places, selected}

-- ---- whether a name selects some variable

pub without_path : (names : List (List ℕ)) (e : List Declaration) (d : Declaration) → is_selected names e d ≡ false → with_path names e d ≡ None
without_path names e (Declaration.Scope type name) h = refl
without_path names e Declaration.Up h = refl
without_path names e (Declaration.Var v) h = cond-false (is_selected names e (Declaration.Var v)) _ None h

pub has_path : (names : List (List ℕ)) (e : List Declaration) (d : Declaration) → is_selected names e d ≡ true → (s : Selected) × (with_path names e d ≡ Some s)
has_path names e (Declaration.Scope type name) h = cc
has_path names e Declaration.Up h = cc
has_path names e (Declaration.Var v) h = (record { path = path_of e (Declaration.Var v); variable = v }, cond-true (is_selected names e (Declaration.Var v)) _ None h)

-- ---- the marked indexes, one declaration on

pub take-next : {X : Type 0} (xs : List X) (i : ℕ) (x : X) → slice_get xs i ≡ Some x → take (suc i) xs ≡ take i xs ++ x ∷ []
take-next [] i x at = cc
take-next (y ∷ xs) zero x at = let same : y ≡ x = cc in ap (λ z. z ∷ []) same
take-next (y ∷ xs) (suc i) x at = ap (λ l. y ∷ l) (take-next xs i x at)

-- the first declarations with one more, and all of them in two parts
pub one_on : (ds : List Declaration) (i : ℕ) (d : Declaration) → slice_get ds i ≡ Some d → take (i + 1) ds ≡ take i ds ++ d ∷ []
one_on ds i d at = ap (λ n. take n ds) (add-one i) ∙ take-next ds i d at

pub in_parts : (ds : List Declaration) (i : ℕ) (d : Declaration) → slice_get ds i ≡ Some d → ds ≡ take i ds ++ d ∷ drop (i + 1) ds
in_parts ds i d at =
    sym (take-append-drop (i + 1) ds) ∙ ap (λ l. l ++ drop (i + 1) ds) (one_on ds i d at) ∙ append_assoc (take i ds) (d ∷ []) (drop (i + 1) ds)

-- what is selected with one declaration more
pub selected_next : (names : List (List ℕ)) (ds : List Declaration) (i : ℕ) (d : Declaration) → slice_get ds i ≡ Some d
    → selected names (take (i + 1) ds) ≡ selected names (take i ds) ++ filter_map (λ o. o) (with_path names (take i ds) d ∷ [])
unfolding selected
selected_next names ds i d at =
    ap (λ l. filter_map (λ o. o) (each (with_path names) l)) (one_on ds i d at)
    ∙ ap (filter_map (λ o. o)) (each_after-append (with_path names) [] (take i ds) (d ∷ []))
    ∙ filter_map-append (λ o. o) (each (with_path names) (take i ds)) (with_path names (take i ds) d ∷ [])

places_of : List (List ℕ) → List Declaration → Declaration → List ℕ
places_of names e d = cond (is_selected names e d) (length e ∷ enclosing e) []

next_places : (names : List (List ℕ)) (ds : List Declaration) (i : ℕ) (d : Declaration) → slice_get ds i ≡ Some d
    → marked_places names (take (i + 1) ds) ≡ marked_places names (take i ds) ++ places_of names (take i ds) d
unfolding marked_places places_of
next_places names ds i d at =
    let f = λ (e : List Declaration) (x : Declaration). cond (is_selected names e x) (length e ∷ enclosing e) [] in
    ap (marked_places names) (one_on ds i d at) ∙ ap (flat_map (λ ps. ps)) (each_after-append f [] (take i ds) (d ∷ []))
    ∙ flat_map-append (λ ps. ps) (each_after f [] (take i ds)) (f (take i ds) d ∷ []) ∙ ap (λ l. flat_map (λ ps. ps) (each_after f [] (take i ds)) ++ l) (append-nil (f (take i ds) d))

pub marks_more : (names : List (List ℕ)) (ds : List Declaration) (i : ℕ) (d : Declaration) → slice_get ds i ≡ Some d
    → is_selected names (take i ds) d ≡ true → marked_places names (take (i + 1) ds) ≡ marked_places names (take i ds) ++ i ∷ enclosing (take i ds)
unfolding places_of
marks_more names ds i d at h =
    let few = length-take-le i ds (omega (arith, slice_get_within ds i d at)) in
    next_places names ds i d at ∙ ap (λ l. marked_places names (take i ds) ++ l)
    (cond-true (is_selected names (take i ds) d) (length (take i ds) ∷ enclosing (take i ds)) [] h ∙ ap (λ n. n ∷ enclosing (take i ds)) few)

pub marks_same : (names : List (List ℕ)) (ds : List Declaration) (i : ℕ) (d : Declaration) → slice_get ds i ≡ Some d
    → is_selected names (take i ds) d ≡ false → marked_places names (take (i + 1) ds) ≡ marked_places names (take i ds)
unfolding places_of
marks_same names ds i d at h =
    next_places names ds i d at ∙ ap (λ l. marked_places names (take i ds) ++ l)
    (cond-false (is_selected names (take i ds) d) (length (take i ds) ∷ enclosing (take i ds)) [] h)
    ∙ append-nil (marked_places names (take i ds))

-- ---- the mark of a variable

among_more : (x : ℕ) (xs : List ℕ) (i : ℕ) → i ≢ x → is_among xs i ≡ false → is_among (x ∷ xs) i ≡ false
among_more x xs i differs h = rw (ne_eqb i x differs) h

-- an index that is neither this one nor that of an enclosing scope is not marked for a declaration
not_own : (names : List (List ℕ)) (e : List Declaration) (d : Declaration) (i : ℕ) → i ≢ length e → is_among (enclosing e) i ≡ false
    → is_among (places_at names e d) i ≡ false
not_own names e d i differs around = by_test (is_selected names e d)
  where
    by_test : (b : Bool) → is_among (cond b (length e ∷ enclosing e) []) i ≡ false
    by_test true = among_more (length e) (enclosing e) i differs around
    by_test false = refl

-- an index that is none of an enclosing scope stays so
stays_none : (e : List Declaration) (d : Declaration) (i : ℕ) → i < length e → is_among (enclosing e) i ≡ false
    → is_among (enclosing (e ++ d ∷ [])) i ≡ false
stays_none e (Declaration.Scope type name) i l h =
    rw (enclosing-scope e type name) (among_more (length e) (enclosing e) i (λ q. absurd (omega arith)) h)
stays_none e Declaration.Up i l h = rw (enclosing-up e) (without_first (enclosing e) h)
  where
    without_first : (ps : List ℕ) → is_among ps i ≡ false → is_among (drop 1 ps) i ≡ false
    without_first [] n = refl
    without_first (p ∷ ps) n = (or_parts (i == p) (is_among ps i) n).1
stays_none e (Declaration.Var v) i l h = rw (enclosing-var e v) h

-- no declaration after an index that is none of an enclosing scope marks it
pub none_after : (names : List (List ℕ)) (e ds : List Declaration) (i : ℕ) → i < length e → is_among (enclosing e) i ≡ false
    → is_among (places_after names e ds) i ≡ false
none_after names e [] i l h = refl
none_after names e (d ∷ ds) i l h =
    list_any-append (λ j. i == j) (places_at names e d) (places_after names (e ++ d ∷ []) ds)
    ∙ rw (not_own names e d i (λ q. absurd (omega arith)) h, none_after names (e ++ d ∷ []) ds i (omega (arith, length_push e d)) (stays_none e d i l h)) refl

-- a declaration that is selected is marked
own_is : (names : List (List ℕ)) (e : List Declaration) (d : Declaration) → is_among (places_at names e d) (length e) ≡ is_selected names e d
own_is names e d = by_test (is_selected names e d)
  where
    by_test : (b : Bool) → is_among (cond b (length e ∷ enclosing e) []) (length e) ≡ b
    by_test true = rw (eq-eqb (length e) (length e) refl) refl
    by_test false = refl

-- the index of a variable is marked just where it is selected
pub marked_is : (names : List (List ℕ)) (ds : List Declaration) (i : ℕ) (v : Variable) → slice_get ds i ≡ Some (Declaration.Var v)
    → is_among (marked_places names ds) i ≡ is_selected names (take i ds) (Declaration.Var v)
unfolding marked_places
marked_is names ds i v at =
    let d = Declaration.Var v in
    let front = take i ds in
    let n = length front in
    let back = drop (i + 1) ds in
    let before = places_after names [] front in
    let own = places_at names front d in
    let after = places_after names (front ++ d ∷ []) back in
    let few : n ≡ i = length-take-le i ds (let l = slice_get_within ds i d at in omega arith) in
    let none_before : is_among before n ≡ false =
    none_any (λ j. n == j) before (below_other n before (places_below names n [] front (omega arith))) in
    let around : is_among (enclosing front) n ≡ false = none_any (λ j. n == j) (enclosing front) (below_other n (enclosing front) (enclosing_below front)) in
    let none_later : is_among after n ≡ false =
    none_after names (front ++ d ∷ []) back n (omega (arith, length_push front d)) (ap (λ ps. is_among ps n) (enclosing-var front v) ∙ around) in
    subst (λ k. is_among (marked_places names ds) k ≡ is_selected names front d) few
    (ap (λ l. is_among (marked_places names l) n) (in_parts ds i d at) ∙ ap (λ ps. is_among ps n) (places_split names [] front (d ∷ back))
    ∙ list_any-append (λ j. n == j) before (own ++ after) ∙ ap (λ b. b || is_among (own ++ after) n) none_before
    ∙ list_any-append (λ j. n == j) own after ∙ ap (λ b. is_among own n || b) none_later ∙ or-false (is_among own n) ∙ own_is names front d)
