-- The scopes that are still open after the last declaration, and the lines that close them.
use Rattle.vcd_head.proofs.Cited.{◌≡◌, ℕ, zero, suc, ◌<◌, Bool, cond, List, [], ◌∷◌, ◌++◌, length, take, drop, slice_get, IfSome, Option, Some, None, refl, sym, ap, subst, ◌∙◌, arith, Appends, take-length, flat_map-append, append_assoc, length-take-le, Declaration, parent, Header, up_line, up_lines_at, enclosing-scope, enclosing-up, enclosing-var, AppendsSome, appends-none, appends-twice, appends-first, appends-some, Row, HeadShown, IsRow, Views, around_none, around_some, parent_before, scopes_around, with_scopes, rows_len, row_at}
use Rattle.vcd_model.specs.Declarations.{enclosing}
use Rattle.vcd_view.specs.declared.view.Kind.TheVariants as kind

-- ---- the innermost scope after the last row

-- the first of some scopes
first : List ℕ → Option ℕ
first ps = elim ps [ [] ↦ None | p ∷ rest ↦ Some p ]

same_parent : (ds : List Declaration) (ps : List ℕ) → enclosing ds ≡ ps → parent ds ≡ first ps
unfolding first
same_parent ds ps e = ap first e

parent_as : (ds es : List Declaration) → enclosing ds ≡ enclosing es → parent ds ≡ parent es
unfolding first
parent_as ds es e = ap first e

take-whole : {X : Type 0} (xs : List X) (i : ℕ) (x : X) → slice_get xs i ≡ Some x → length xs ≡ suc i → xs ≡ take i xs ++ x ∷ []
take-whole [] i x at e = cc
take-whole (y ∷ []) zero x at e = cc
take-whole (y ∷ z ∷ xs) zero x at e = absurd (omega arith)
take-whole (y ∷ xs) (suc i) x at e = ap (λ l. y ∷ l) (take-whole xs i x at (omega arith))

-- the last row, and what it declares
pub record IsLast (s : HeadShown) (h : Header) (position : ℕ) (r : Row) : Type 0 where
  pub last : Declaration
  pub split : h.declarations ≡ take position h.declarations ++ last ∷ []
  pub is_row : IsRow s.text h.codes (take position h.declarations) r last
  pub front : length (take position h.declarations) ≡ position
  pub within : position < length h.declarations

pub last_row : (s : HeadShown) (h : Header) (position : ℕ) (r : Row) → Views s h → length s.rows ≡ suc position → slice_get s.rows position ≡ Some r → IsLast s h position r
last_row s h position r v l at =
    let m = row_at s h position r v at in
    let count = rows_len s.text h.codes [] s.rows h.declarations v.rows in
    record {
      last = m.0;
      split = take-whole h.declarations position m.0 m.1
          (omega (arith, count));
      is_row = m.2;
      front = length-take-le position h.declarations (omega (arith, count));
      within = omega (arith, count);
    }

pub open_after_scope : (s : HeadShown) (h : Header) (position : ℕ) (r : Row) → IsLast s h position r → r.kind ≡ kind.Scope → Some position ≡ parent h.declarations
unfolding first
open_after_scope s h position r l k = by_kind l.last l.split l.is_row
  where
    by_kind : (d : Declaration) → h.declarations ≡ take position h.declarations ++ d ∷ [] → IsRow s.text h.codes (take position h.declarations) r d → Some position ≡ parent h.declarations
    by_kind (Declaration.Scope type name) e row =
        sym (same_parent h.declarations (length (take position h.declarations) ∷ enclosing (take position h.declarations)) (ap enclosing e
        ∙ enclosing-scope (take position h.declarations) type name) ∙ ap Some l.front)
    by_kind Declaration.Up e row = let other = row.own.0 in cc
    by_kind (Declaration.Var v) e row = let other = row.own.0 in cc

pub open_after_var : (s : HeadShown) (h : Header) (position : ℕ) (r : Row) → IsLast s h position r → r.kind ≡ kind.Var → parent (take position h.declarations) ≡ parent h.declarations
open_after_var s h position r l k = by_kind l.last l.split l.is_row
  where
    by_kind : (d : Declaration) → h.declarations ≡ take position h.declarations ++ d ∷ [] → IsRow s.text h.codes (take position h.declarations) r d
        → parent (take position h.declarations) ≡ parent h.declarations
    by_kind (Declaration.Scope type name) e row = let other = row.own.0 in cc
    by_kind Declaration.Up e row = let other = row.own.0 in cc
    by_kind (Declaration.Var v) e row = sym (parent_as h.declarations (take position h.declarations) (ap enclosing e ∙ enclosing-var (take position h.declarations) v))

-- an `$upscope` closes the scope that encloses it
closed : (s : HeadShown) (h : Header) (position : ℕ) (r : Row) → IsLast s h position r → r.kind ≡ kind.Up → enclosing h.declarations ≡ drop 1 (enclosing (take position h.declarations))
closed s h position r l k = by_kind l.last l.split l.is_row
  where
    by_kind : (d : Declaration) → h.declarations ≡ take position h.declarations ++ d ∷ [] → IsRow s.text h.codes (take position h.declarations) r d
        → enclosing h.declarations ≡ drop 1 (enclosing (take position h.declarations))
    by_kind (Declaration.Scope type name) e row = let other = row.own.0 in cc
    by_kind Declaration.Up e row = ap enclosing e ∙ enclosing-up (take position h.declarations)
    by_kind (Declaration.Var v) e row = let other = row.own.0 in cc

pub open_after_up : (s : HeadShown) (h : Header) (position p : ℕ) (r : Row) → IsLast s h position r → r.kind ≡ kind.Up
    → parent (take position h.declarations) ≡ Some p → parent (take p h.declarations) ≡ parent h.declarations
open_after_up s h position p r l k e = sym (parent_as h.declarations (take p h.declarations) (closed s h position r l k ∙ ap (drop 1) (around_some h.declarations position p e)))

pub open_after_last_up : (s : HeadShown) (h : Header) (position : ℕ) (r : Row) → IsLast s h position r → r.kind ≡ kind.Up
    → parent (take position h.declarations) ≡ None → None ≡ parent h.declarations
unfolding first
open_after_last_up s h position r l k e = sym (same_parent h.declarations [] (closed s h position r l k ∙ ap (drop 1) (around_none h.declarations position e)))

pub none_open : (s : HeadShown) (h : Header) → Views s h → length s.rows ≡ 0 → None ≡ parent h.declarations
unfolding enclosing
none_open s h v e = by_list h.declarations (sym (rows_len s.text h.codes [] s.rows h.declarations v.rows) ∙ e)
  where
    by_list : (ds : List Declaration) → length ds ≡ 0 → None ≡ parent ds
    by_list [] q = refl
    by_list (d ∷ ds) q = absurd (omega arith)

-- ---- scopes that are still open

-- the lines of the inner ones are written, and the next one is this
pub record Closes (m : ℕ → Bool) (ds : List Declaration) (next : Option ℕ) (old new : Option (List ℕ)) : Type 0 where
  pub inner : List ℕ
  pub split : enclosing ds ≡ inner ++ with_scopes ds next
  pub within : IfSome next (λ p. p < length ds)
  pub written : Appends old new (up_lines_at m inner)

pub closes_none : (m : ℕ → Bool) (ds : List Declaration) (next : Option ℕ) (old : Option (List ℕ)) → next ≡ parent ds → Closes m ds next old old
closes_none m ds next old e =
    let whole : take (length ds) ds ≡ ds = take-length ds in
    let split : enclosing ds ≡ with_scopes ds (parent ds) = subst (λ (l : List Declaration). enclosing l ≡ with_scopes ds (parent l)) whole (scopes_around ds (length ds)) in
    record {
      inner = [];
      split = split ∙ ap (with_scopes ds) (sym e);
      within = by_next next (e ∙ ap parent (sym whole));
      written = appends-none old;
    }
  where
    by_next : (o : Option ℕ) → o ≡ parent (take (length ds) ds) → IfSome o (λ p. p < length ds)
    by_next None q = tt
    by_next (Some p) q = parent_before ds (length ds) p (sym q)

pub closes_next : (m : ℕ → Bool) (ds : List Declaration) (scope : ℕ) (next : Option ℕ) (old mid new : Option (List ℕ))
    → Closes m ds (Some scope) old mid → Appends mid new (up_lines_at m (scope ∷ [])) → next ≡ parent (take scope ds) → Closes m ds next old new
closes_next m ds scope next old mid new c line e = record {
  inner = c.inner ++ scope ∷ [];
  split = c.split ∙ sym (append_assoc c.inner (scope ∷ []) (enclosing (take scope ds))) ∙ ap (λ l. (c.inner ++ scope ∷ []) ++ l) (scopes_around ds scope ∙ ap (with_scopes ds) (sym e));
  within = by_next next e;
  written = subst (Appends old new) (sym (flat_map-append (λ i. cond (m i) up_line []) c.inner (scope ∷ [])))
      (appends-twice old mid new (up_lines_at m c.inner) (up_lines_at m (scope ∷ [])) c.written line);
}
  where
    by_next : (o : Option ℕ) → o ≡ parent (take scope ds) → IfSome o (λ p. p < length ds)
    by_next None q = tt
    by_next (Some p) q = let before = parent_before ds scope p (sym q) in omega (arith, c.within)

-- a line that was not wholly written
pub closes_some : (m : ℕ → Bool) (ds : List Declaration) (scope : ℕ) (old mid new : Option (List ℕ)) → Closes m ds (Some scope) old mid
    → AppendsSome mid new (up_lines_at m (scope ∷ [])) → AppendsSome old new (up_lines_at m (enclosing ds))
closes_some m ds scope old mid new c line =
    let f = λ (i : ℕ). cond (m i) up_line [] in
    let outer = enclosing (take scope ds) in
    let whole : up_lines_at m (enclosing ds) ≡ (up_lines_at m c.inner ++ up_lines_at m (scope ∷ [])) ++ up_lines_at m outer =
    ap (up_lines_at m) (c.split ∙ sym (append_assoc c.inner (scope ∷ []) outer)) ∙ flat_map-append f (c.inner ++ scope ∷ []) outer
    ∙ ap (λ l. l ++ up_lines_at m outer) (flat_map-append f c.inner (scope ∷ [])) in
    subst (AppendsSome old new) (sym whole) (appends-first old new _ (up_lines_at m outer) (appends-some old mid new (up_lines_at m c.inner) (up_lines_at m (scope ∷ [])) c.written line))
