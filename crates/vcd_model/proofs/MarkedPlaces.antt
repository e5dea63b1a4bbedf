-- The marked indexes are those of the selected variables, and of the scopes around them.
use Rattle.vcd_model.proofs.Cited.{◌≡◌, ℕ, ◌+◌, ◌<◌, ◌≤◌, ◌==◌, Bool, true, false, cond, ◌||◌, List, [], ◌∷◌, ◌++◌, length, map, flat_map, slice_get, Some, refl, sym, ap, ◌∙◌, subst, arith, AllByRecursion, list_any, append_assoc, length_push, flat_map-append, list_any-append, eq-eqb, ne_eqb, each_after, Declaration, Variable, enclosing, is_selected, is_among, slice_get_within}
use Rattle.vcd_model.specs.Selection.{marked_places}
use Rattle.vcd_model.proofs.BodyFacts.{all_append}
use Rattle.vcd_model.proofs.Growing.{each_after-append}
use Rattle.vcd_model.proofs.ScopeLemmas.{enclosing_below}
use Rattle.vcd_model.proofs.HeadPhrases.{IsDeclared, AreDeclared}
use Rattle.vcd_model.proofs.WrittenRows.{slice_get-more, slice_get-last, Open, IsNamed, HasOpen, has_scope, has_up, has_var, open_count}

-- the scopes that are open after one more declaration
pub opens_more : (earlier : List Declaration) (d : Declaration) (s : List Open) → HasOpen earlier s
    → IsDeclared earlier d → (t : List Open) × HasOpen (earlier ++ d ∷ []) t
opens_more earlier (Declaration.Scope type name) s is fine =
    ((length earlier, name) ∷ s, has_scope earlier s type name is)
opens_more earlier Declaration.Up [] is fine =
    absurd (let n = open_count earlier [] is in omega arith)
opens_more earlier Declaration.Up (e ∷ s) is fine = (s, has_up earlier e s is)
opens_more earlier (Declaration.Var v) s is fine = (s, has_var earlier s v is)

pub none_any : {X : Type 0} (test : X → Bool) (xs : List X)
    → AllByRecursion (λ x. test x ≡ false) xs → list_any test xs ≡ false
none_any test [] h = refl
none_any test (x ∷ xs) h = rw (h.0, none_any test xs h.1) refl

pub below_other : (n : ℕ) (places : List ℕ) → AllByRecursion (λ i. i < n) places
    → AllByRecursion (λ i. (n == i) ≡ false) places
below_other n [] h = tt
below_other n (i ∷ places) h =
    (ne_eqb n i (λ e. let l = h.0 in absurd (omega arith)), below_other n places h.1)

below_more : (n m : ℕ) (places : List ℕ) → n ≤ m → AllByRecursion (λ i. i < n) places
    → AllByRecursion (λ i. i < m) places
below_more n m [] l h = tt
below_more n m (i ∷ places) l h = ((let g = h.0 in omega arith), below_more n m places l h.1)

module _ (names : List (List ℕ)) where
  abbrev pub places_at : List Declaration → Declaration → List ℕ
  places_at earlier d = cond (is_selected names earlier d) (length earlier ∷ enclosing earlier) []

  abbrev pub places_after : List Declaration → List Declaration → List ℕ
  places_after earlier ds = flat_map (λ ps. ps) (each_after places_at earlier ds)

  pub places_split : (earlier front back : List Declaration)
      → places_after earlier (front ++ back) ≡ places_after earlier front
      ++ places_after (earlier ++ front) back
  places_split earlier front back =
      ap (flat_map (λ ps. ps)) (each_after-append places_at earlier front back)
      ∙ flat_map-append (λ (ps : List ℕ). ps) (each_after places_at earlier front)
      (each_after places_at (earlier ++ front) back)

  -- indexes that are marked for earlier declarations are before this one
  pub places_below : (n : ℕ) (earlier ds : List Declaration) → length earlier + length ds ≤ n
      → AllByRecursion (λ i. i < n) (places_after earlier ds)
  places_below n earlier [] l = tt
  places_below n earlier (d ∷ ds) l =
      all_append (λ i. i < n) (places_at earlier d) (places_after (earlier ++ d ∷ []) ds)
      (here (is_selected names earlier d))
      (places_below n (earlier ++ d ∷ []) ds (let k = length_push earlier d in omega arith))
    where
      here : (b : Bool) → AllByRecursion (λ i. i < n)
          (cond b (length earlier ∷ enclosing earlier) [])
      here true = (
        (omega arith),
        below_more (length earlier) n (enclosing earlier) (omega arith)
            (enclosing_below earlier),
      )
      here false = tt

  named_other : (earlier : List Declaration) (n : ℕ) (v : Variable) (s : List Open)
      → slice_get earlier n ≡ Some (Declaration.Var v) → AllByRecursion (IsNamed earlier) s
      → AllByRecursion (λ i. (n == i) ≡ false) (map (λ e. e.0) s)
  named_other earlier n v [] at h = tt
  named_other earlier n v (e ∷ s) at h = (
    ne_eqb n e.0 (λ same. let a : slice_get earlier n ≡ Some (Declaration.Scope h.0.0 e.1) =
        rw same h.0.1 in let b = sym at ∙ a in cc),
    named_other earlier n v s at h.1,
  )

  -- none that are marked for later ones is that of a variable
  places_other : (n : ℕ) (v : Variable) (ds earlier : List Declaration) (s : List Open)
      → HasOpen earlier s → AreDeclared earlier ds → slice_get earlier n ≡ Some (Declaration.Var v)
      → AllByRecursion (λ i. (n == i) ≡ false) (places_after earlier ds)
  places_other n v [] earlier s is are at = tt
  places_other n v (d ∷ ds) earlier s is are at =
      let more = opens_more earlier d s is are.0 in
      let opens = is.opens in
      let low = slice_get_within earlier n (Declaration.Var v) at in
      let around : AllByRecursion (λ i. (n == i) ≡ false) (enclosing earlier) =
      subst (AllByRecursion (λ i. (n == i) ≡ false)) (sym opens.are)
      (named_other earlier n v s at is.named) in
      all_append (λ i. (n == i) ≡ false) (places_at earlier d) (places_after (earlier ++ d ∷ []) ds)
      (here (is_selected names earlier d) low around)
      (places_other n v ds (earlier ++ d ∷ []) more.0 more.1 are.1
      (slice_get-more earlier (d ∷ []) n (Declaration.Var v) at))
    where
      here : (b : Bool) → n < length earlier
          → AllByRecursion (λ i. (n == i) ≡ false) (enclosing earlier)
          → AllByRecursion (λ i. (n == i) ≡ false) (cond b (length earlier ∷ enclosing earlier) [])
      here true low around = (ne_eqb n (length earlier) (λ e. absurd (omega arith)), around)
      here false low around = tt

  among_parts : (a b c : List ℕ) (i : ℕ)
      → is_among (a ++ (b ++ c)) i ≡ (is_among a i || (is_among b i || is_among c i))
  among_parts a b c i = list_any-append (λ j. i == j) a (b ++ c)
      ∙ ap (λ x. is_among a i || x) (list_any-append (λ j. i == j) b c)

  or_middle : (a b c : Bool) → b ≡ true → (a || (b || c)) ≡ true
  or_middle true b c e = refl
  or_middle false b c e = rw e refl

  among_own : (front places : List ℕ)
      → AllByRecursion (λ i. is_among (front ++ places) i ≡ true) places
  among_own front [] = tt
  among_own front (p ∷ places) = (
    rw (list_any-append, eq-eqb p p refl) (or_true (is_among front p)),
    subst (λ (l : List ℕ). AllByRecursion (λ i. is_among l i ≡ true) places)
        (append_assoc front (p ∷ []) places) (among_own (front ++ p ∷ []) places),
  )
    where
      or_true : (b : Bool) → (b || true) ≡ true
      or_true true = refl
      or_true false = refl

  -- where a variable is among declarations
  marked_split : (front back : List Declaration) (v : Variable)
      → marked_places names (front ++ Declaration.Var v ∷ back) ≡ places_after [] front
      ++ (places_at front (Declaration.Var v)
      ++ places_after (front ++ Declaration.Var v ∷ []) back)
  unfolding marked_places
  marked_split front back v = places_split [] front (Declaration.Var v ∷ back)

  pub own_mark : (front back : List Declaration) (v : Variable) (s : List Open) → HasOpen front s
      → AreDeclared front (Declaration.Var v ∷ back) → (b : Bool)
      → is_selected names front (Declaration.Var v) ≡ b
      → is_among (marked_places names (front ++ Declaration.Var v ∷ back)) (length front) ≡ b
  own_mark front back v s is are b e =
      let n = length front in
      let after = front ++ Declaration.Var v ∷ [] in
      let more = opens_more front (Declaration.Var v) s is are.0 in
      let first : is_among (places_after [] front) n ≡ false =
      none_any (λ j. n == j) (places_after [] front)
      (below_other n (places_after [] front) (places_below n [] front (omega arith))) in
      let last : is_among (places_after after back) n ≡ false =
      none_any (λ j. n == j) (places_after after back)
      (places_other n v back after more.0 more.1 are.1
      (slice_get-last front (Declaration.Var v))) in
      ap (λ l. is_among l n) (marked_split front back v)
      ∙ among_parts (places_after [] front) (places_at front (Declaration.Var v))
      (places_after after back) n
      ∙ rw (first, last, e) (by_mark b)
    where
      by_mark : (b : Bool) → (is_among (cond b (length front ∷ enclosing front) []) (length front)
          || false) ≡ b
      by_mark true = rw (eq-eqb (length front) (length front) refl) refl
      by_mark false = refl

  all_middle : (a b c ps : List ℕ) → AllByRecursion (λ i. is_among b i ≡ true) ps
      → AllByRecursion (λ i. is_among (a ++ (b ++ c)) i ≡ true) ps
  all_middle a b c [] h = tt
  all_middle a b c (p ∷ ps) h = (
    among_parts a b c p ∙ or_middle (is_among a p) (is_among b p) (is_among c p) h.0,
    all_middle
        a b c ps h.1,
  )

  pub around_marks : (front back : List Declaration) (v : Variable)
      → is_selected names front (Declaration.Var v) ≡ true
      → AllByRecursion (λ i. is_among (marked_places names (front ++ Declaration.Var v ∷ back)) i
      ≡ true) (enclosing front)
  around_marks front back v e =
      subst (λ (l : List ℕ). AllByRecursion (λ i. is_among l i ≡ true) (enclosing front))
      (sym (marked_split front back v))
      (all_middle (places_after [] front) (places_at front (Declaration.Var v))
      (places_after (front ++ Declaration.Var v ∷ []) back) (enclosing front)
      (rw e (among_own (length front ∷ []) (enclosing front))))
