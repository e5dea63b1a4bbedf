-- The codes that variables carry, if those with one code agree.
use Rattle.vcd_laws.proofs.Cited.{◌≡◌, ℕ, suc, ◌==◌, Bool, true, false, cond, ◌&&◌, ◌||◌, List, [], ◌∷◌, ◌++◌, map, filter, filter_map, find, bytes_eq, Option, Some, None, Contains, ◌⊎◌, inl, inr, refl, sym, ap, ◌∙◌, subst, arith, AllByRecursion, list_any, cons_option, append_assoc, append-nil, filter_map-append, list_any-append, and_parts, eqb-true, bytes_eq-Decides, each_after, Declaration, Variable, IdCode, variable_of, variables_of, code_of, has_text, same_flag, declared_code, all_front, all_back, AreCodes, at_contained, AreDeclared}
use Rattle.vcd_model.specs.Declarations.{codes_of}
use Rattle.vcd_laws.proofs.WrittenDeclared.{fits, AllFit, all_true}

-- ---- elements

abbrev pub In : {X : Type 0} → X → List X → Type 0
In x [] = ⊥
In x (y ∷ ys) = (x ≡ y) ⊎ In x ys

in_all : {X : Type 0} (front xs : List X) → AllByRecursion (λ x. In x (front ++ xs)) xs
in_all front [] = tt
in_all front (x ∷ xs) = (
  in_middle front,
  subst (λ (l : List _). AllByRecursion (λ y. In y l) xs)
      (append_assoc front (x ∷ []) xs) (in_all (front ++ x ∷ []) xs),
)
  where
    in_middle : (l : List _) → In x (l ++ x ∷ xs)
    in_middle [] = inl refl
    in_middle (y ∷ l) = inr (in_middle l)

pub from_contained : {X : Type 0} (xs : List X) (x : X) → Contains xs x → In x xs
from_contained xs x c = at_contained (λ y. In y xs) xs x (in_all [] xs) c

pub to_contained : {X : Type 0} (xs : List X) (x : X) → In x xs → Contains xs x
to_contained [] x i = absurd i
to_contained (y ∷ ys) x (inl e) = (0, (omega arith), sym e)
to_contained (y ∷ ys) x (inr i) = let c = to_contained ys x i in
    (suc c.0, (let h = c.1 in omega arith), c.2)

pub in_left : {X : Type 0} (xs ys : List X) (x : X) → In x xs → In x (xs ++ ys)
in_left [] ys x i = absurd i
in_left (y ∷ xs) ys x (inl e) = inl e
in_left (y ∷ xs) ys x (inr i) = inr (in_left xs ys x i)

pub in_right : {X : Type 0} (xs ys : List X) (x : X) → In x ys → In x (xs ++ ys)
in_right [] ys x i = i
in_right (y ∷ xs) ys x i = inr (in_right xs ys x i)

pub in_map : {X Y : Type 0} (f : X → Y) (xs : List X) (x : X) → In x xs → In (f x) (map f xs)
in_map f [] x i = absurd i
in_map f (y ∷ ys) x (inl e) = inl (ap f e)
in_map f (y ∷ ys) x (inr i) = inr (in_map f ys x i)

pub from_map : {X Y : Type 0} (f : X → Y) (xs : List X) (y : Y) → In y (map f xs)
    → (x : X) × In x xs × (y ≡ f x)
from_map f [] y i = absurd i
from_map f (x ∷ xs) y (inl e) = (x, inl refl, e)
from_map f (x ∷ xs) y (inr i) = let h = from_map f xs y i in (h.0, inr h.1, h.2)

pub from_filter : {X : Type 0} (test : X → Bool) (xs : List X) (x : X) → In x (filter test xs)
    → In x xs × (test x ≡ true)
from_filter test [] x i = absurd i
from_filter test (y ∷ ys) x i = by_test (test y) refl i (from_filter test ys x)
  where
    by_test : (b : Bool) → test y ≡ b → In x (cond b (y ∷ filter test ys) (filter test ys))
        → (In x (filter test ys) → In x ys × (test x ≡ true)) → In x (y ∷ ys) × (test x ≡ true)
    by_test true e (inl same) more = (inl same, ap test same ∙ e)
    by_test true e (inr j) more = let h = more j in (inr h.0, h.1)
    by_test false e j more = let h = more j in (inr h.0, h.1)

pub to_filter : {X : Type 0} (test : X → Bool) (xs : List X) (x : X) → In x xs → test x ≡ true
    → In x (filter test xs)
to_filter test [] x i e = absurd i
to_filter test (y ∷ ys) x (inl same) e = rw (sym same, e) (inl refl)
to_filter test (y ∷ ys) x (inr i) e = by_test (test y) (to_filter test ys x i e)
  where
    by_test : (b : Bool) → In x (filter test ys)
        → In x (cond b (y ∷ filter test ys) (filter test ys))
    by_test true j = inr j
    by_test false j = j

pub any_of : {X : Type 0} (test : X → Bool) (xs : List X) (x : X) → In x xs → test x ≡ true
    → list_any test xs ≡ true
any_of test [] x i e = absurd i
any_of test (y ∷ ys) x (inl same) e = rw (sym same, e) refl
any_of test (y ∷ ys) x (inr i) e = rw (any_of test ys x i e) (or_true (test y))
  where
    or_true : (b : Bool) → (b || true) ≡ true
    or_true true = refl
    or_true false = refl

pub from_any : {X : Type 0} (test : X → Bool) (xs : List X) → list_any test xs ≡ true
    → (x : X) × In x xs × (test x ≡ true)
from_any {X = X} test [] e = cc
from_any {X = X} test (x ∷ xs) e = by_test (test x) refl e (from_any test xs)
  where
    by_test : (b : Bool) → test x ≡ b → (b || list_any test xs) ≡ true
        → (list_any test xs ≡ true → (y : X) × In y xs × (test y ≡ true))
        → (y : X) × In y (x ∷ xs) × (test y ≡ true)
    by_test true f g more = (x, inl refl, f)
    by_test false f g more = let h = more g in (h.0, inr h.1, h.2)

pub from_find : {X : Type 0} (test : X → Bool) (xs : List X) (x : X) → find test xs ≡ Some x
    → In x xs × (test x ≡ true)
from_find test [] x e = cc
from_find test (y ∷ ys) x e = by_test (test y) refl e (from_find test ys x)
  where
    by_test : (b : Bool) → test y ≡ b → cond b (Some y) (find test ys) ≡ Some x
        → (find test ys ≡ Some x → In x ys × (test x ≡ true)) → In x (y ∷ ys) × (test x ≡ true)
    by_test true f g more = let same : x ≡ y = cc in (inl same, (ap test same ∙ f))
    by_test false f g more = let h = more g in (inr h.0, h.1)

-- ---- variables that agree

abbrev pub Agreeing : List Variable → List Variable → Type 0
Agreeing earlier [] = Unit {0}
Agreeing earlier (v ∷ vs) = AllFit v earlier × Agreeing (earlier ++ v ∷ []) vs

pub declared_agree : (earlier ds : List Declaration) → AreDeclared earlier ds
    → Agreeing (variables_of earlier) (variables_of ds)
declared_agree earlier [] are = tt
declared_agree earlier (Declaration.Scope type name ∷ ds) are =
    subst (λ (l : List Variable). Agreeing l (variables_of ds))
    (filter_map-append variable_of earlier (Declaration.Scope type name ∷ [])
    ∙ append-nil (variables_of earlier)) (declared_agree
    (earlier ++ Declaration.Scope type name ∷ []) ds are.1)
declared_agree earlier (Declaration.Up ∷ ds) are =
    subst (λ (l : List Variable). Agreeing l (variables_of ds))
    (filter_map-append variable_of earlier (Declaration.Up ∷ [])
    ∙ append-nil (variables_of earlier)) (declared_agree (earlier ++ Declaration.Up ∷ []) ds are.1)
declared_agree earlier (Declaration.Var v ∷ ds) are =
    let good = are.0 in (
      all_true (fits v) (variables_of earlier) good.agreed,
      subst
          (λ (l : List Variable). Agreeing l (variables_of ds))
          (filter_map-append variable_of earlier (Declaration.Var v ∷ []))
          (declared_agree (earlier ++ Declaration.Var v ∷ []) ds are.1),
    )

agreeing_in : (earlier vs : List Variable) (v : Variable) → Agreeing earlier vs → In v vs
    → AllFit v earlier
agreeing_in earlier [] v a i = absurd i
agreeing_in earlier (u ∷ us) v a (inl e) = subst (λ (x : Variable). AllFit x earlier) (sym e) a.0
agreeing_in earlier (u ∷ us) v a (inr i) =
    all_front (λ x. fits v x ≡ true) earlier (u ∷ []) (agreeing_in (earlier ++ u ∷ []) us v a.1 i)

flags_same : (a b : Bool) → same_flag a b ≡ true → a ≡ b
flags_same true true e = refl
flags_same true false e = cc
flags_same false true e = cc
flags_same false false e = refl

same_code_of : (u v : Variable) → bytes_eq u.code v.code ≡ true → fits v u ≡ true
    → code_of u ≡ code_of v
same_code_of u v e f =
    let text : u.code ≡ v.code = (bytes_eq-Decides u.code v.code).0 e in
    let g : ((u.size == v.size) && same_flag (code_of u).event (code_of v).event) ≡ true =
    rw e at f in
    let a = and_parts (u.size == v.size) (same_flag (code_of u).event (code_of v).event) g in
    let size : u.size ≡ v.size = eqb-true u.size v.size a.0 in
    let event : (code_of u).event ≡ (code_of v).event =
    flags_same (code_of u).event (code_of v).event a.1 in
    rw (text, size, event) refl

-- ---- the codes of these variables

abbrev new_code_of : List Variable → Variable → Option IdCode
new_code_of earlier v = cond (list_any (λ u. bytes_eq u.code v.code) earlier) None
    (Some (code_of v))

abbrev codes_after : List Variable → List Variable → List IdCode
codes_after earlier vs = filter_map (λ o. o) (each_after new_code_of earlier vs)

from_codes : (earlier vs : List Variable) (c : IdCode) → In c (codes_after earlier vs)
    → (v : Variable) × In v vs × (c ≡ code_of v)
from_codes earlier [] c i = absurd i
from_codes earlier (v ∷ vs) c i =
    by_case (list_any (λ u. bytes_eq u.code v.code) earlier) i (from_codes (earlier ++ v ∷ []) vs c)
  where
    by_case : (b : Bool) → In c (cons_option (cond b None (Some (code_of v)))
        (codes_after (earlier ++ v ∷ []) vs))
        → (In c (codes_after (earlier ++ v ∷ []) vs) → (u : Variable) × In u vs × (c ≡ code_of u))
        → (u : Variable) × In u (v ∷ vs) × (c ≡ code_of u)
    by_case true j more = let h = more j in (h.0, inr h.1, h.2)
    by_case false (inl e) more = (v, inl refl, e)
    by_case false (inr j) more = let h = more j in (h.0, inr h.1, h.2)

cons_in : (o : Option IdCode) (cs : List IdCode) (c : IdCode) → In c cs → In c (cons_option o cs)
cons_in None cs c i = i
cons_in (Some d) cs c i = inr i

to_codes : (earlier vs : List Variable) (v : Variable) → Agreeing earlier vs → In v vs
    → list_any (λ u. bytes_eq u.code v.code) earlier ≡ false
    → In (code_of v) (codes_after earlier vs)
to_codes earlier [] v a i fresh = absurd i
to_codes earlier (u ∷ us) v a (inl e) fresh =
    let g : list_any (λ x. bytes_eq x.code u.code) earlier ≡ false =
    subst (λ (x : Variable). list_any (λ y. bytes_eq y.code x.code) earlier ≡ false) e fresh in
    rw g (inl (ap code_of e))
to_codes earlier (u ∷ us) v a (inr i) fresh =
    by_code (bytes_eq u.code v.code) refl (to_codes (earlier ++ u ∷ []) us v a.1 i)
  where
    by_code : (b : Bool) → bytes_eq u.code v.code ≡ b
        → (list_any (λ x. bytes_eq x.code v.code) (earlier ++ u ∷ []) ≡ false
        → In (code_of v) (codes_after (earlier ++ u ∷ []) us))
        → In (code_of v) (codes_after earlier (u ∷ us))
    by_code true e more =
        let text : u.code ≡ v.code = (bytes_eq-Decides u.code v.code).0 e in
        let all = all_back (λ x. fits v x ≡ true) earlier (u ∷ [])
        (agreeing_in (earlier ++ u ∷ []) us v a.1 i) in
        let same = same_code_of u v e all.0 in
        let g : list_any (λ x. bytes_eq x.code u.code) earlier ≡ false = rw text fresh in
        rw g (inl (sym same))
    by_code false e more = cons_in (new_code_of earlier u) (codes_after (earlier ++ u ∷ []) us)
        (code_of v) (more (rw (list_any-append, fresh, e) refl))

pub from_codes_of : (ds : List Declaration) (c : IdCode) → In c (codes_of ds)
    → (v : Variable) × In v (variables_of ds) × (c ≡ code_of v)
unfolding codes_of
from_codes_of ds c i = from_codes [] (variables_of ds) c i

pub to_codes_of : (ds : List Declaration) (v : Variable) → AreDeclared [] ds
    → In v (variables_of ds) → In (code_of v) (codes_of ds)
unfolding codes_of
to_codes_of ds v are i = to_codes [] (variables_of ds) v (declared_agree [] ds are) i refl

-- ---- codes that are found by their texts

pub found_in : (codes : List IdCode) (c : IdCode) → AreCodes codes → In c codes
    → declared_code codes c.text ≡ Some c
found_in codes c are i =
    at_contained (λ (d : IdCode). declared_code codes d.text ≡ Some d) codes c are.found
    (to_contained codes c i)

-- two lists with the same codes find the same
pub found_same : (xs ys : List IdCode) → AllByRecursion (λ c. declared_code xs c.text ≡ Some c) xs
    → AllByRecursion (λ c. declared_code ys c.text ≡ Some c) ys → ((c : IdCode) → In c xs → In c ys)
    → ((c : IdCode) → In c ys → In c xs) → (text : List ℕ)
    → declared_code xs text ≡ declared_code ys text
found_same xs ys fa fb there back text =
    by_found (declared_code xs text) (declared_code ys text) refl refl
  where
    at : (cs : List IdCode) (c : IdCode) → AllByRecursion (λ d. declared_code cs d.text ≡ Some d) cs
        → In c cs → has_text text c ≡ true → declared_code cs text ≡ Some c
    at cs c f i e = ap (declared_code cs) ((bytes_eq-Decides text c.text).0 e)
        ∙ at_contained (λ (d : IdCode). declared_code cs d.text ≡ Some d) cs c f
        (to_contained cs c i)

    by_found : (o p : Option IdCode) → declared_code xs text ≡ o → declared_code ys text ≡ p → o ≡ p
    by_found None None e f = refl
    by_found (Some c) p e f = let h = from_find (has_text text) xs c e in
        sym (at ys c fb (there c h.0) h.1) ∙ f
    by_found None (Some d) e f = let h = from_find (has_text text) ys d f in sym e
        ∙ at xs d fa (back d h.0) h.1
