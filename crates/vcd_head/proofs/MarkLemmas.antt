-- Marks that are set, one index after the other.
use Rattle.vcd_head.proofs.Cited.{◌≡◌, ◌⊎◌, ℕ, zero, suc, ◌<◌, ◌≤◌, Bool, true, false, cond, ◌&&◌, ◌||◌, ◌==◌, flat_map, List, [], ◌∷◌, ◌++◌, length, map, take, set, IfSome, get_or, Option, Some, None, inl, inr, refl, sym, ap, subst, ◌∙◌, arith, range_with_len, cases_eq, cases_lt, eq-eqb, ne_eqb, get_or-set_other, get_or-set_same, get_or_past, length-set, fill_by_all, Declaration, enclosing, parent, path_of, list_any, list_any-append, each_after, is_empty, is_among, is_selected, is_variable, selects_path, AllMarked, AreClosed, Marked, counted_from_one, around_some, around_none, parent_before, with_scopes, scopes_around}
use Rattle.vcd_model.specs.Selection.{marked_places}

-- ---- indexes in a row

pub marked_none : (marks : List ℕ) → Marked [] marks marks
marked_none marks = record { kept = refl; marks = λ i l. refl }

both_or : (a b : Bool) (x y z : ℕ) → y ≡ cond a 1 x → z ≡ cond b 1 y → z ≡ cond (a || b) 1 x
both_or true true x y z p q = q
both_or true false x y z p q = q ∙ p
both_or false true x y z p q = q
both_or false false x y z p q = q ∙ p

pub among-append : (xs ys : List ℕ) (i : ℕ) → is_among (xs ++ ys) i ≡ (is_among xs i || is_among ys i)
among-append [] ys i = refl
among-append (x ∷ xs) ys i = ap (λ b. (i == x) || b) (among-append xs ys i) ∙ or_assoc (i == x) (is_among xs i) (is_among ys i)
  where
    or_assoc : (a b c : Bool) → (a || (b || c)) ≡ ((a || b) || c)
    or_assoc true b c = refl
    or_assoc false b c = refl

pub marked_both : (xs ys old mid new : List ℕ) → Marked xs old mid → Marked ys mid new → Marked (xs ++ ys) old new
marked_both xs ys old mid new a b = record {
  kept = b.kept ∙ a.kept;
  marks = λ i l. both_or (is_among xs i) (is_among ys i) (get_or old i 0) (get_or mid i 0) (get_or new i 0) (a.marks i l)
      (b.marks i (omega (arith, a.kept))) ∙ ap (λ b. cond b 1 (get_or old i 0)) (sym (among-append xs ys i));
}

-- one index
pub marked_one : (marks : List ℕ) (p : ℕ) → p < length marks → Marked (p ∷ []) marks (set marks p 1)
marked_one marks p l = record {
  kept = length-set marks p 1;
  marks = λ i w. elim (cases_eq i p) [
    | inl e ↦ rw (eq-eqb i p e, e) (get_or-set_same marks p 1 0 l)
    | inr n ↦ rw (ne_eqb i p n) (get_or-set_other marks p i 1 0 n)
  ];
}

-- marks that were 0
pub marked_all : (positions zeros marks : List ℕ) (n : ℕ) → length zeros ≡ n → ((i : ℕ) → i < n → get_or zeros i 0 ≡ 0)
    → Marked positions zeros marks → marks ≡ map (λ i. cond (is_among positions i) 1 0) (range_with_len 0 n)
marked_all positions zeros marks n e z m =
    fill_by_all (λ i. cond (is_among positions i) 1 0) marks n 0 (m.kept ∙ e) (λ i l. m.marks i (omega arith) ∙ ap (cond (is_among positions i) 1) (z i l))

-- ---- the scopes around

-- 1 plus an index below n, or 0, is at most n
pub counted_within : (o : Option ℕ) (n : ℕ) → IfSome o (λ p. p < n) → counted_from_one o ≤ n
counted_within None n h = omega arith
counted_within (Some p) n h = h

-- what is left to be marked, after one more index
pub walk_on : (ds : List Declaration) (p : ℕ) (marks new : List ℕ) → p < length marks
    → Marked (with_scopes ds (parent (take p ds))) (set marks p 1) new → Marked (p ∷ enclosing (take p ds)) marks new
walk_on ds p marks new l m = subst (λ ps. Marked (p ∷ ps) marks new) (sym (scopes_around ds p))
    (marked_both (p ∷ []) (with_scopes ds (parent (take p ds))) marks (set marks p 1) new (marked_one marks p l) m)

-- ---- all rows

pub marked_first : (names : List (List ℕ)) (ds : List Declaration) (marks : List ℕ) → Marked (marked_places names (take 0 ds)) marks marks
unfolding marked_places
marked_first names ds marks = marked_none marks

-- ---- scopes that are marked already

-- to mark them again changes nothing
marked_again : (positions marks : List ℕ) → AllMarked positions marks → Marked positions marks marks
marked_again positions marks h = record { kept = refl; marks = λ i l. by_test (get_or marks i 0) (is_among positions i) (h i l) }
  where
    by_test : (x : ℕ) (b : Bool) → (b ≡ true → x ≡ 1) → x ≡ cond b 1 x
    by_test x true f = f refl
    by_test x false f = refl

-- a declaration that was marked before has nothing left to be marked
pub marked_before : (ds : List Declaration) (p : ℕ) (old marks : List ℕ) → length marks ≡ length old → AreClosed ds old → get_or old p 0 ≡ 1
    → ((i : ℕ) → get_or old i 0 ≡ 1 → get_or marks i 0 ≡ 1) → Marked (p ∷ enclosing (take p ds)) marks marks
marked_before ds p old marks len closed one grown = marked_again (p ∷ enclosing (take p ds)) marks (λ i l among. elim (cases_eq i p) [
  | inl e ↦ grown i (ap (λ k. get_or old k 0) e ∙ one)
  | inr n ↦ grown i (closed p one i (omega (arith, l, len)) (subst (λ b. (b || is_among (enclosing (take p ds)) i) ≡ true) (ne_eqb i p n) among))
])

none_among : (i : ℕ) → is_among [] i ≡ true → ⊥
none_among i e = cc

or_right : (a b : Bool) → b ≡ true → (a || b) ≡ true
or_right true b e = refl
or_right false b e = e

-- the scopes around a scope around a row are around the row
step_outwards : (ds : List Declaration) (row i j : ℕ) (o : Option ℕ) → parent (take row ds) ≡ o → is_among (row ∷ enclosing (take row ds)) i ≡ true
    → is_among (enclosing (take i ds)) j ≡ true
    → ((p : ℕ) → p < row → is_among (p ∷ enclosing (take p ds)) i ≡ true → is_among (enclosing (take p ds)) j ≡ true) → is_among (enclosing (take row ds)) j ≡ true
step_outwards ds row i j o e among inner outer = elim (cases_eq i row) [
  | inl same ↦ subst (λ k. is_among (enclosing (take k ds)) j ≡ true) same inner
  | inr n ↦ by_parent o e (subst (λ b. (b || is_among (enclosing (take row ds)) i) ≡ true) (ne_eqb i row n) among)
]
  where
    by_parent : (q : Option ℕ) → parent (take row ds) ≡ q → is_among (enclosing (take row ds)) i ≡ true → is_among (enclosing (take row ds)) j ≡ true
    by_parent None f a = absurd (none_among i (subst (λ ps. is_among ps i ≡ true) (around_none ds row f) a))
    by_parent (Some p) f a =
        let same = around_some ds row p f in
        subst (λ ps. is_among ps j ≡ true) (sym same)
        (or_right (j == p) (is_among (enclosing (take p ds)) j) (outer p (parent_before ds row p f) (subst (λ ps. is_among ps i ≡ true) same a)))

around_within : (ds : List Declaration) (fuel row i j : ℕ) → row ≤ fuel → is_among (row ∷ enclosing (take row ds)) i ≡ true
    → is_among (enclosing (take i ds)) j ≡ true → is_among (enclosing (take row ds)) j ≡ true
around_within ds zero row i j le among inner = step_outwards ds row i j (parent (take row ds)) refl among inner (λ p lt a. absurd (omega (arith, lt, le)))
around_within ds (suc n) row i j le among inner = step_outwards ds row i j (parent (take row ds)) refl among inner (λ p lt a. around_within ds n p i j (omega (arith, lt, le)) a inner)

-- after a row was marked, with the scopes around it
pub closed_after : (ds : List Declaration) (row : ℕ) (old new : List ℕ) → AreClosed ds old → Marked (row ∷ enclosing (take row ds)) old new → AreClosed ds new
closed_after ds row old new closed m i one j l inner = m.marks j (omega (arith, m.kept, l))
    ∙ by_test (get_or old j 0) (is_among (row ∷ enclosing (take row ds)) j) (here (is_among (row ∷ enclosing (take row ds)) i) refl)
  where
    by_test : (x : ℕ) (b : Bool) → (b ≡ true) ⊎ (x ≡ 1) → cond b 1 x ≡ 1
    by_test x true h = refl
    by_test x false (inl e) = cc
    by_test x false (inr e) = e

    within : i < length old
    within = elim (cases_lt i (length new)) [
      | inl lt ↦ omega (arith, lt, m.kept)
      | inr le ↦ absurd (omega (arith, one, get_or_past new i 0 le))
    ]

    here : (b : Bool) → is_among (row ∷ enclosing (take row ds)) i ≡ b → (is_among (row ∷ enclosing (take row ds)) j ≡ true) ⊎ (get_or old j 0 ≡ 1)
    here true e = inl (or_right (j == row) (is_among (enclosing (take row ds)) j) (around_within ds row row i j (omega arith) e inner))
    here false e = inr (closed i (sym (m.marks i within ∙ ap (λ b. cond b 1 (get_or old i 0)) e) ∙ one) j (omega (arith, m.kept, l)) inner)

-- none is marked
pub closed_zeros : (ds : List Declaration) (marks : List ℕ) → ((i : ℕ) → i < length marks → get_or marks i 0 ≡ 0) → AreClosed ds marks
closed_zeros ds marks zeros i one = elim (cases_lt i (length marks)) [
  | inl lt ↦ absurd (omega (arith, zeros i lt, one))
  | inr le ↦ absurd (omega (arith, one, get_or_past marks i 0 le))
]

-- ---- names in two groups

-- which of two lists has an index
either : (a b p x y : Bool) → (cond (a || b) p false || (x || y)) ≡ ((cond a p false || x) || (cond b p false || y))
either false false p x y = refl
either false true false x y = refl
either false true true true y = refl
either false true true false y = refl
either true false false x y = refl
either true false true x y = refl
either true true false x y = refl
either true true true x y = refl

among_cond : (b : Bool) (ps : List ℕ) (i : ℕ) → is_among (cond b ps []) i ≡ cond b (is_among ps i) false
among_cond true ps i = refl
among_cond false ps i = refl

selected_by : List (List ℕ) → List Declaration → Declaration → List ℕ
selected_by names e d = cond (is_selected names e d) (length e ∷ enclosing e) []

any_of_both : (test : List ℕ → Bool) (xs ys : List (List ℕ)) → is_empty xs ≡ false → is_empty ys ≡ false
    → (is_empty (xs ++ ys) || list_any test (xs ++ ys)) ≡ ((is_empty xs || list_any test xs) || (is_empty ys || list_any test ys))
any_of_both test [] ys a b = cc
any_of_both test (x ∷ xs) [] a b = cc
any_of_both test (x ∷ xs) (y ∷ ys) a b = list_any-append test (x ∷ xs) (y ∷ ys)

selected_both : (xs ys : List (List ℕ)) (e : List Declaration) (d : Declaration) → is_empty xs ≡ false → is_empty ys ≡ false
    → is_selected (xs ++ ys) e d ≡ (is_selected xs e d || is_selected ys e d)
selected_both xs ys e d a b = by_kind (is_variable d)
  where
    by_kind : (v : Bool) → (v && (is_empty (xs ++ ys) || list_any (selects_path (path_of e d)) (xs ++ ys))) ≡
        ((v && (is_empty xs || list_any (selects_path (path_of e d)) xs)) || (v && (is_empty ys || list_any (selects_path (path_of e d)) ys)))
    by_kind true = any_of_both (selects_path (path_of e d)) xs ys a b
    by_kind false = refl

among_after : (xs ys : List (List ℕ)) (e ds : List Declaration) (i : ℕ) → is_empty xs ≡ false → is_empty ys ≡ false
    → is_among (flat_map (λ ps. ps) (each_after (selected_by (xs ++ ys)) e ds)) i ≡
    (is_among (flat_map (λ ps. ps) (each_after (selected_by xs) e ds)) i || is_among (flat_map (λ ps. ps) (each_after (selected_by ys) e ds)) i)
unfolding selected_by
among_after xs ys e [] i a b = refl
among_after xs ys e (d ∷ ds) i a b =
    let here = length e ∷ enclosing e in
    let later = λ (names : List (List ℕ)). flat_map (λ ps. ps) (each_after (selected_by names) (e ++ d ∷ []) ds) in
    let split = λ (names : List (List ℕ)). among-append (selected_by names e d) (later names) i ∙ ap (λ q. q || is_among (later names) i) (among_cond (is_selected names e d) here i) in
    split (xs ++ ys) ∙ (λ j. cond (selected_both xs ys e d a b j) (is_among here i) false || among_after xs ys (e ++ d ∷ []) ds i a b j)
    ∙ either (is_selected xs e d) (is_selected ys e d) (is_among here i) (is_among (later xs) i) (is_among (later ys) i) ∙ sym (λ j. split xs j || split ys j)

pub marked_group : (xs ys : List (List ℕ)) (ds : List Declaration) (old mid new : List ℕ) → is_empty xs ≡ false → is_empty ys ≡ false
    → Marked (marked_places xs ds) old mid → Marked (marked_places ys ds) mid new → Marked (marked_places (xs ++ ys) ds) old new
unfolding marked_places selected_by
marked_group xs ys ds old mid new a b m n =
    let both = marked_both (marked_places xs ds) (marked_places ys ds) old mid new m n in
    record {
      kept = both.kept;
      marks = λ i l. both.marks i l ∙ ap (λ q. cond q 1 (get_or old i 0)) (among-append (marked_places xs ds) (marked_places ys ds) i ∙ sym (among_after xs ys [] ds i a b));
    }
