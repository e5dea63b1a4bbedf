-- The scope around a declaration: what a row says of it, and the scopes around it.
use Rattle.vcd_view.proofs.Cited.{◌≡◌, ℕ, zero, suc, ◌<◌, ◌≤◌, List, [], ◌∷◌, take, slice_get, Option, Some, None, refl, sym, ap, ◌∙◌, arith, length-take, Declaration, enclosing, parent, Header, innermost, Row, HeadShown, Views, counted_from_one}
use Rattle.vcd_view.proofs.RowLemmas.{row_at}

pub take-take : {X : Type 0} (p i : ℕ) (xs : List X) → p ≤ i → take p (take i xs) ≡ take p xs
take-take zero i xs h = refl
take-take (suc p) zero xs h = absurd (omega arith)
take-take (suc p) (suc i) [] h = refl
take-take (suc p) (suc i) (x ∷ xs) h = ap (λ l. x ∷ l) (take-take p i xs (omega arith))

-- ---- what a row says

counted_none : (o : Option ℕ) → 0 ≡ counted_from_one o → o ≡ None
counted_none None e = refl
counted_none (Some p) e = cc

counted_some : (o : Option ℕ) (p : ℕ) → suc p ≡ counted_from_one o → o ≡ Some p
counted_some None p e = cc
counted_some (Some q) p e = cc

pub parent_of_row : (s : HeadShown) (h : Header) (i : ℕ) (r : Row) → Views s h → slice_get s.rows i ≡ Some r → r.parent ≡ counted_from_one (parent (take i h.declarations))
parent_of_row s h i r v at = (row_at s h i r v at).2.parent_is

pub says_none : (s : HeadShown) (h : Header) (i : ℕ) (r : Row) → Views s h → slice_get s.rows i ≡ Some r → r.parent ≡ 0 → parent (take i h.declarations) ≡ None
says_none s h i r v at e = counted_none (parent (take i h.declarations)) (sym e ∙ parent_of_row s h i r v at)

pub says_some : (s : HeadShown) (h : Header) (i p : ℕ) (r : Row) → Views s h → slice_get s.rows i ≡ Some r → r.parent ≡ suc p → parent (take i h.declarations) ≡ Some p
says_some s h i p r v at e = counted_some (parent (take i h.declarations)) p (sym e ∙ parent_of_row s h i r v at)

-- ---- from a declaration to its enclosing scope

-- a row and the scopes around it, if there is one
abbrev pub with_scopes : List Declaration → Option ℕ → List ℕ
with_scopes ds None = []
with_scopes ds (Some p) = p ∷ enclosing (take p ds)

-- the scopes around a declaration are its enclosing scope and those around that
pub scopes_around : (ds : List Declaration) (i : ℕ) → enclosing (take i ds) ≡ with_scopes ds (parent (take i ds))
scopes_around ds i = by_list (enclosing (take i ds)) refl
  where
    by_list : (ps : List ℕ) → enclosing (take i ds) ≡ ps → enclosing (take i ds) ≡ with_scopes ds (parent (take i ds))
    by_list [] e = rw (e, with_scopes, parent) refl
    by_list (p ∷ ps) e =
        let inner = innermost (take i ds) p ps e in
        let cut : take p (take i ds) ≡ take p ds = take-take p i ds (omega (arith, inner.before, length-take i ds)) in
        rw (e, with_scopes, parent) (ap (λ l. p ∷ l) (sym inner.outer ∙ ap enclosing cut))

pub around_some : (ds : List Declaration) (i p : ℕ) → parent (take i ds) ≡ Some p → enclosing (take i ds) ≡ p ∷ enclosing (take p ds)
around_some ds i p e = scopes_around ds i ∙ ap (with_scopes ds) e

pub around_none : (ds : List Declaration) (i : ℕ) → parent (take i ds) ≡ None → enclosing (take i ds) ≡ []
around_none ds i e = scopes_around ds i ∙ ap (with_scopes ds) e

-- it is declared earlier
pub parent_before : (ds : List Declaration) (i p : ℕ) → parent (take i ds) ≡ Some p → p < i
parent_before ds i p e = let inner = innermost (take i ds) p (enclosing (take p ds)) (around_some ds i p e) in omega (arith, inner.before, length-take i ds)
