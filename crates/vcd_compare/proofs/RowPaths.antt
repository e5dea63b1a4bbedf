-- The path of a row is that of the scope around it, a dot, and its name.
use Rattle.vcd_compare.proofs.Cited.{IfErr, ◌≡◌, ℕ, suc, ◌<◌, ◌≤◌, false, true, List, [], ◌∷◌, ◌++◌, length, take, get_or, slice_get, Option, Some, None, nat_lt, Result, Ok, Err, refl, sym, ap, subst, ◌∙◌, arith, length-append, IfOk, AllZip, ltb-true, ltb-false, get_or_from_slice_get, same_Some, Declaration, enclosing, name_of, parent, path_of, Header, innermost, slice_get-take, counted_from_one, all_zip_push, slice_get-front, slice_get-seam, around_some, parent_before, front, scopes_text, front_is, front_next, path_is, Names, AreNumbersOf, EntersNames, EntersTexts, EntersPath, HasTexts, IsNumberOf, joined, AreNumbered, IsAround, IsScopeNumber, Paths}
use Rattle.std.proofs.lemmas.List.{append_assoc}
use Rattle.vcd_compare.proofs.PairSteps.{zip_weaker}
use Rattle.vcd_compare.proofs.PathTexts.{joined_number, number_within}

-- ---- paths

path_inside : (ds : List Declaration) (i p : ℕ) (d e : Declaration) → parent (take i ds) ≡ Some p → slice_get ds p ≡ Some e
    → path_of (take i ds) d ≡ path_of (take p ds) e ++ 46 ∷ name_of d
path_inside ds i p d e q at =
    let scopes : scopes_text (take i ds) ≡ scopes_text (take p ds) ++ (name_of e ++ 46 ∷ []) = front_is ds i ∙ ap (λ o. front ds (counted_from_one o)) q ∙ front_next ds p e at in
    path_is (take i ds) d ∙ ap (λ l. l ++ name_of d) scopes ∙ ap (λ l. l ++ name_of d) (sym (append_assoc (scopes_text (take p ds)) (name_of e) (46 ∷ [])))
    ∙ append_assoc (scopes_text (take p ds) ++ name_of e) (46 ∷ []) (name_of d) ∙ ap (λ l. l ++ 46 ∷ name_of d) (sym (path_is (take p ds) e))

path_outside : (ds : List Declaration) (i : ℕ) (d : Declaration) → parent (take i ds) ≡ None → path_of (take i ds) d ≡ name_of d
path_outside ds i d q = path_is (take i ds) d ∙ ap (λ l. l ++ name_of d) (front_is ds i ∙ ap (λ o. front ds (counted_from_one o)) q)

-- ---- the scope around

module _ (h : Header) (texts : List (List ℕ)) (row : ℕ) where
  pub around_none : parent (take row h.declarations) ≡ None → IsAround h texts row 0
  around_none e = subst (λ o. IsScopeNumber h texts o 0) (sym e) refl

  pub around_at : (numbers : List ℕ) (p n : ℕ) → AreNumbered h texts numbers row → parent (take row h.declarations) ≡ Some p → n ≡ get_or numbers p 0 → IsAround h texts row n
  around_at numbers p n are e is =
      let ds = h.declarations in
      let inner = innermost (take row ds) p (enclosing (take p ds)) (around_some ds row p e) in
      let before = parent_before ds row p e in
      let scope = Declaration.Scope inner.type inner.name in
      let at : slice_get ds p ≡ Some scope = sym (slice_get-take ds row p before) ∙ inner.at in
      let number = are.each p scope before at in
      subst (λ o. IsScopeNumber h texts o n) (sym e) (
        scope,
        at,
        subst (λ m. IsNumberOf texts m (path_of (take p ds) scope))
            (sym (is ∙ get_or_from_slice_get numbers p number.0 0 number.1)) number.2,
      )

  -- the name there makes the path of the row
  pub around_joined : (n : ℕ) (d : Declaration) → IsAround h texts row n → (n ≤ length texts) × (joined texts n (name_of d) ≡ path_of (take row h.declarations) d)
  around_joined n d a = by_parent (parent (take row h.declarations)) refl a
    where
      by_parent : (o : Option ℕ) → parent (take row h.declarations) ≡ o
          → IsScopeNumber h texts o n
          → (n ≤ length texts) × (joined texts n (name_of d) ≡ path_of (take row h.declarations) d)
      by_parent None q z = (omega (arith, z), ap (λ m. joined texts m (name_of d)) z ∙ sym (path_outside h.declarations row d q))
      by_parent (Some p) q s = (
        number_within texts n (path_of (take p h.declarations) s.0) s.2,
        joined_number texts n (path_of (take p h.declarations) s.0) (name_of d) s.2 ∙ sym (path_inside h.declarations row p d s.0 q s.1),
      )

-- ---- one row more

-- texts that are added change nothing
pub numbers_stay : (texts more : List (List ℕ)) (n : ℕ) (t : List ℕ) → IsNumberOf texts n t → IsNumberOf (texts ++ more) n t
numbers_stay texts more n t is = (is.0, is.1, slice_get-front texts more is.0 t is.2)

row_more : (h : Header) (texts more : List (List ℕ)) (numbers : List ℕ) (row n : ℕ) (d : Declaration) → slice_get h.declarations row ≡ Some d
    → AreNumbered h texts numbers row → IsNumberOf (texts ++ more) n (path_of (take row h.declarations) d)
    → AreNumbered h (texts ++ more) (numbers ++ n ∷ []) (suc row)
row_more h texts more numbers row n d there are is = record {
  len = let l = are.len in let m = length-append numbers (n ∷ []) in omega (arith, l, m);
  each = λ i e l at. by_index i e l at (nat_lt i row) refl;
}
  where
    by_index : (i : ℕ) (e : Declaration) → i < suc row → slice_get h.declarations i ≡ Some e → (b : _) → nat_lt i row ≡ b
        → (m : ℕ) × (slice_get (numbers ++ n ∷ []) i ≡ Some m) × IsNumberOf (texts ++ more) m (path_of (take i h.declarations) e)
    by_index i e l at true q =
        let old = are.each i e (ltb-true i row q) at in
        (old.0, slice_get-front numbers (n ∷ []) i old.0 old.1, numbers_stay texts more old.0 (path_of (take i h.declarations) e) old.2)
    by_index i e l at false q =
        let past = ltb-false i row q in
        let same : i ≡ row = omega (arith, l, past) in
        let last : i ≡ length numbers = let len = are.len in omega (arith, same, len) in
        let one : d ≡ e = same_Some d e (sym there ∙ ap (slice_get h.declarations) (sym same) ∙ at) in (
          n,
          ap (slice_get (numbers ++ n ∷ [])) last ∙ slice_get-seam numbers n [],
          subst (λ j. IsNumberOf (texts ++ more) n (path_of (take j h.declarations) e)) (sym same) (subst (λ x. IsNumberOf (texts ++ more) n (path_of (take row h.declarations) x)) one is),
        )

-- these rows are numbered, after these texts
abbrev pub NumbersSome : Header → List (List ℕ) → Paths → List ℕ → ℕ → Type 0
NumbersSome h texts paths numbers row = (more : List (List ℕ)) × HasTexts paths (texts ++ more) × AreNumbered h (texts ++ more) numbers row

-- a row more
pub some_row : (h : Header) (texts : List (List ℕ)) (old new : Paths) (numbers : List ℕ) (row n : ℕ) (d : Declaration)
    → slice_get h.declarations row ≡ Some d → (s : NumbersSome h texts old numbers row)
    → EntersPath (texts ++ s.0) new (path_of (take row h.declarations) d) n
    → NumbersSome h texts new (numbers ++ n ∷ []) (suc row)
some_row h texts old new numbers row n d at s p =
    let same : (texts ++ s.0) ++ p.0 ≡ texts ++ (s.0 ++ p.0) = append_assoc texts s.0 p.0 in (
      s.0 ++ p.0,
      subst (HasTexts new) same p.1,
      subst (λ ts. AreNumbered h ts (numbers ++ n ∷ []) (suc row)) same
          (row_more h (texts ++ s.0) p.0 numbers row n d at s.2 p.2),
    )

-- what is said of a result says something else too
pub ok_then : {X E : Type 0} (r : Result X E) (P Q : X → Type 0) → ((x : X) → P x → Q x) → IfOk r P → IfOk r Q
ok_then (Ok x) P Q f p = f x p
ok_then (Err e) P Q f p = tt

pub err_then : {X E : Type 0} (r : Result X E) (P Q : E → Type 0) → ((e : E) → P e → Q e) → IfErr r P → IfErr r Q
err_then (Ok x) P Q f p = tt
err_then (Err e) P Q f p = f e p

-- ---- names and other texts

pub names_more : (texts : List (List ℕ)) (old mid new : Paths) (ns : List Names) (numbers : List (ℕ × ℕ)) (n : Names) (one other : ℕ)
    (e : EntersNames texts old ns numbers) (a : EntersPath (texts ++ e.0) mid n.0 one) → EntersPath ((texts ++ e.0) ++ a.0) new n.1 other
    → EntersNames texts new (ns ++ n ∷ []) (numbers ++ (one, other) ∷ [])
names_more texts old mid new ns numbers n one other e a b =
    let more = a.0 ++ b.0 in
    let same : ((texts ++ e.0) ++ a.0) ++ b.0 ≡ texts ++ (e.0 ++ more) = append_assoc (texts ++ e.0) a.0 b.0 ∙ append_assoc texts e.0 more in
    let stay : (texts ++ e.0) ++ more ≡ texts ++ (e.0 ++ more) = append_assoc texts e.0 more in
    let before = zip_weaker (AreNumbersOf (texts ++ e.0)) (AreNumbersOf (texts ++ (e.0 ++ more))) numbers ns
    (λ m k is. subst (λ ts. AreNumbersOf ts m k) stay (
      numbers_stay (texts ++ e.0) more m.0 k.0 is.0,
      numbers_stay (texts ++ e.0) more m.1 k.1 is.1,
    )) e.2 in
    let last : AreNumbersOf (texts ++ (e.0 ++ more)) (one, other) n = subst (λ ts. AreNumbersOf ts (one, other) n) same (numbers_stay ((texts ++ e.0) ++ a.0) b.0 one n.0 a.2, b.2) in
    (e.0 ++ more, subst (HasTexts new) same b.1, all_zip_push (AreNumbersOf (texts ++ (e.0 ++ more))) numbers ns (one, other) n before last)

pub texts_more : (texts : List (List ℕ)) (old new : Paths) (ts : List (List ℕ)) (numbers : List ℕ) (t : List ℕ) (number : ℕ)
    (e : EntersTexts texts old ts numbers) → EntersPath (texts ++ e.0) new t number → EntersTexts texts new (ts ++ t ∷ []) (numbers ++ number ∷ [])
texts_more texts old new ts numbers t number e a =
    let same : (texts ++ e.0) ++ a.0 ≡ texts ++ (e.0 ++ a.0) = append_assoc texts e.0 a.0 in
    let before = zip_weaker (IsNumberOf (texts ++ e.0)) (IsNumberOf (texts ++ (e.0 ++ a.0))) numbers ts (λ m k is. subst (λ l. IsNumberOf l m k) same (numbers_stay (texts ++ e.0) a.0 m k is)) e.2 in
    let last = subst (λ l. IsNumberOf l number t) same a.2 in
    (e.0 ++ a.0, subst (HasTexts new) same a.1, all_zip_push (IsNumberOf (texts ++ (e.0 ++ a.0))) numbers ts number t before last)

-- the numbers stay those of the names once more texts are entered
pub zip_stays : (texts more : List (List ℕ)) (numbers : List (ℕ × ℕ)) (ns : List Names) → AllZip (AreNumbersOf texts) numbers ns → AllZip (AreNumbersOf (texts ++ more)) numbers ns
zip_stays texts more numbers ns = zip_weaker (AreNumbersOf texts) (AreNumbersOf (texts ++ more)) numbers ns (λ m k is. (numbers_stay texts more m.0 k.0 is.0, numbers_stay texts more m.1 k.1 is.1))

-- and those of other texts
pub texts_stay : (texts more : List (List ℕ)) (numbers : List ℕ) (ts : List (List ℕ)) → AllZip (IsNumberOf texts) numbers ts → AllZip (IsNumberOf (texts ++ more)) numbers ts
texts_stay texts more numbers ts = zip_weaker (IsNumberOf texts) (IsNumberOf (texts ++ more)) numbers ts (λ m t is. numbers_stay texts more m t is)
