-- How many scopes, variables and codes there are in a head that is written.
use Rattle.vcd_laws.proofs.Cited.{◌≡◌, ℕ, ◌+◌, ◌≤◌, Bool, true, false, cond, ◌&&◌, ◌||◌, List, [], ◌∷◌, ◌++◌, length, filter, filter_map, count_by, bytes_eq, Option, Some, None, inl, inr, refl, sym, ap, ◌∙◌, subst, arith, list_any, cons_option, length-append, sum_by-cons, sum_by-append, list_any-append, bytes_eq-Decides, each_after, Declaration, Variable, IdCode, is_scope, variables_of, code_of, enclosing, first_place, written, rows_from, row_of, ups_at}
use Rattle.vcd_model.specs.Declarations.{codes_of}
use Rattle.vcd_laws.proofs.WrittenCodes.{In, from_filter}

-- ---- scopes

module _ (rename : List ℕ → List ℕ) (marked : ℕ → Bool) where
  -- a marked scope that has these declarations before it
  abbrev is_marked : List Declaration → Declaration → Bool
  is_marked earlier d = is_scope d && marked (length earlier)

  ups_open_none : (places : List ℕ) → count_by is_scope (ups_at rename marked places) ≡ 0
  ups_open_none [] = refl
  ups_open_none (i ∷ places) = by_mark (marked i) (ups_open_none places)
    where
      by_mark : (b : Bool) → count_by is_scope (ups_at rename marked places) ≡ 0
          → count_by is_scope (cond b (Declaration.Up ∷ []) [] ++ ups_at rename marked places) ≡ 0
      by_mark true more = sum_by-cons (λ d. cond (is_scope d) 1 0) Declaration.Up
          (ups_at rename marked places) ∙ (let n = more in omega arith)
      by_mark false more = more

  in_row : (earlier : List Declaration) (d : Declaration)
      → count_by is_scope (row_of rename marked earlier d) ≡ cond (is_marked earlier d) 1 0
  in_row earlier (Declaration.Scope type name) = by_mark (marked (length earlier))
    where
      by_mark : (b : Bool) → count_by is_scope (cond b (Declaration.Scope type name ∷ []) [])
          ≡ cond b 1 0
      by_mark true = refl
      by_mark false = refl
  in_row earlier (Declaration.Var v) = by_mark (marked (length earlier))
    where
      by_mark : (b : Bool) → count_by is_scope
          (cond b (Declaration.Var (record {
            type = v.type;
            size = v.size;
            code = rename v.code;
            reference = v.reference;
          }) ∷ []) []) ≡ 0
      by_mark true = refl
      by_mark false = refl
  in_row earlier Declaration.Up = ups_open_none (first_place (enclosing earlier))

  in_rows : (earlier ds : List Declaration)
      → count_by is_scope (rows_from rename marked earlier ds)
      ≡ count_by (λ b. b) (each_after is_marked earlier ds)
  in_rows earlier [] = refl
  in_rows earlier (d ∷ ds) =
      sum_by-append (λ x. cond (is_scope x) 1 0) (row_of rename marked earlier d)
      (rows_from rename marked (earlier ++ d ∷ []) ds)
      ∙ ap (λ n. n + count_by is_scope (rows_from rename marked (earlier ++ d ∷ []) ds))
      (in_row earlier d)
      ∙ ap (λ n. cond (is_marked earlier d) 1 0 + n) (in_rows (earlier ++ d ∷ []) ds)
      ∙ sym (sum_by-cons (λ b. cond b 1 0) (is_marked earlier d)
      (each_after is_marked (earlier ++ d ∷ []) ds))

  -- as many scopes are written as are marked
  pub scopes_written : (ds : List Declaration)
      → count_by is_scope (written rename marked ds)
      ≡ count_by (λ b. b) (each_after is_marked [] ds)
  scopes_written ds =
      let a = sum_by-append (λ x. cond (is_scope x) 1 0) (rows_from rename marked [] ds)
      (ups_at rename marked (enclosing ds)) in
      let b = ups_open_none (enclosing ds) in
      let c = in_rows [] ds in
      omega arith

-- ---- lists without repetition

abbrev pub AreApart : {X : Type 0} → List X → Type 0
AreApart [] = Unit {0}
AreApart (x ∷ xs) = (In x xs → ⊥) × AreApart xs

-- where an element is
record Placed {X : Type 0} (x : X) (xs : List X) : Type 0 where
  front : List X
  back : List X
  parts : xs ≡ front ++ x ∷ back

placed_in : {X : Type 0} (xs : List X) (x : X) → In x xs → Placed x xs
placed_in [] x i = absurd i
placed_in (y ∷ ys) x (inl e) = record { front = []; back = ys; parts = ap (λ z. z ∷ ys) (sym e) }
placed_in (y ∷ ys) x (inr i) = let p = placed_in ys x i in record {
  front = y ∷ p.front;
  back = p.back;
  parts = ap (λ l. y ∷ l) p.parts;
}

other_in : {X : Type 0} (front back : List X) (x y : X) → In y (front ++ x ∷ back) → (y ≡ x → ⊥)
    → In y (front ++ back)
other_in [] back x y (inl e) other = absurd (other e)
other_in [] back x y (inr i) other = i
other_in (z ∷ front) back x y (inl e) other = inl e
other_in (z ∷ front) back x y (inr i) other = inr (other_in front back x y i other)

pub apart_few : {X : Type 0} (xs ys : List X) → AreApart xs → ((x : X) → In x xs → In x ys)
    → length xs ≤ length ys
apart_few [] ys a h = omega arith
apart_few (x ∷ xs) ys a h =
    let p = placed_in ys x (h x (inl refl)) in
    let more = apart_few xs (p.front ++ p.back) a.1
    (λ y i. other_in p.front p.back x y (subst (In y) p.parts (h y (inr i)))
    (λ e. a.0 (subst (λ z. In z xs) e i))) in
    let n = ap length p.parts in
    let l = length-append p.front (x ∷ p.back) in
    let m = length-append p.front p.back in
    omega arith

-- two such lists with the same elements are equally long
pub apart_same : {X : Type 0} (xs ys : List X) → AreApart xs → AreApart ys
    → ((x : X) → In x xs → In x ys) → ((x : X) → In x ys → In x xs) → length xs ≡ length ys
apart_same xs ys a b there back = let n = apart_few xs ys a there in
    let m = apart_few ys xs b back in omega arith

pub apart_filter : {X : Type 0} (test : X → Bool) (xs : List X) → AreApart xs
    → AreApart (filter test xs)
apart_filter test [] a = tt
apart_filter test (x ∷ xs) a = by_test (test x) (apart_filter test xs a.1)
  where
    by_test : (b : Bool) → AreApart (filter test xs)
        → AreApart (cond b (x ∷ filter test xs) (filter test xs))
    by_test true more = ((λ i. a.0 (from_filter test xs x i).0), more)
    by_test false more = more

-- ---- the codes of variables are apart

abbrev new_code_of : List Variable → Variable → Option IdCode
new_code_of earlier v = cond (list_any (λ u. bytes_eq u.code v.code) earlier) None
    (Some (code_of v))

abbrev codes_after : List Variable → List Variable → List IdCode
codes_after earlier vs = filter_map (λ o. o) (each_after new_code_of earlier vs)

false_left : (a b : Bool) → (a || b) ≡ false → a ≡ false
false_left true b e = cc
false_left false b e = refl

fresh : (earlier vs : List Variable) (c : IdCode) → In c (codes_after earlier vs)
    → list_any (λ u. bytes_eq u.code c.text) earlier ≡ false
fresh earlier [] c i = absurd i
fresh earlier (v ∷ vs) c i =
    by_case (list_any (λ u. bytes_eq u.code v.code) earlier) refl i (fresh (earlier ++ v ∷ []) vs c)
  where
    later : list_any (λ u. bytes_eq u.code c.text) (earlier ++ v ∷ []) ≡ false
        → list_any (λ u. bytes_eq u.code c.text) earlier ≡ false
    later e = false_left (list_any (λ u. bytes_eq u.code c.text) earlier)
        (list_any (λ u. bytes_eq u.code c.text) (v ∷ []))
        (sym (list_any-append (λ u. bytes_eq u.code c.text) earlier (v ∷ [])) ∙ e)

    by_case : (b : Bool) → list_any (λ u. bytes_eq u.code v.code) earlier ≡ b
        → In c (cons_option (cond b None (Some (code_of v))) (codes_after (earlier ++ v ∷ []) vs))
        → (In c (codes_after (earlier ++ v ∷ []) vs)
        → list_any (λ u. bytes_eq u.code c.text) (earlier ++ v ∷ []) ≡ false)
        → list_any (λ u. bytes_eq u.code c.text) earlier ≡ false
    by_case true e j more = later (more j)
    by_case false e (inl same) more =
        subst (λ (d : IdCode). list_any (λ (u : Variable). bytes_eq u.code d.text) earlier ≡ false)
        (sym same) e
    by_case false e (inr j) more = later (more j)

codes_apart_after : (earlier vs : List Variable) → AreApart (codes_after earlier vs)
codes_apart_after earlier [] = tt
codes_apart_after earlier (v ∷ vs) =
    by_case (list_any (λ u. bytes_eq u.code v.code) earlier)
    (codes_apart_after (earlier ++ v ∷ []) vs)
  where
    itself : In (code_of v) (codes_after (earlier ++ v ∷ []) vs) → ⊥
    itself i =
        let f = fresh (earlier ++ v ∷ []) vs (code_of v) i in
        let g = list_any-append (λ (u : Variable). bytes_eq u.code v.code) earlier (v ∷ []) in
        let same : bytes_eq v.code v.code ≡ true = (bytes_eq-Decides v.code v.code).1 refl in
        let h : (list_any (λ (u : Variable). bytes_eq u.code v.code) earlier ||
        (bytes_eq v.code v.code || false)) ≡ false = sym g ∙ f in
        or_true (list_any (λ (u : Variable). bytes_eq u.code v.code) earlier) (rw same at h)
      where
        or_true : (b : Bool) → (b || true) ≡ false → ⊥
        or_true true e = cc
        or_true false e = cc

    by_case : (b : Bool) → AreApart (codes_after (earlier ++ v ∷ []) vs)
        → AreApart (cons_option (cond b None (Some (code_of v)))
        (codes_after (earlier ++ v ∷ []) vs))
    by_case true more = more
    by_case false more = (itself, more)

pub codes_apart : (ds : List Declaration) → AreApart (codes_of ds)
unfolding codes_of
codes_apart ds = codes_apart_after [] (variables_of ds)
