-- A draft carries one phrase more.
use Rattle.vcd_head.proofs.Cited.{◌≡◌, ℕ, ◌<◌, ◌≤◌, Bool, true, false, cond, List, [], ◌∷◌, ◌++◌, length, Option, Some, None, unwrap_or, refl, sym, ap, subst, ◌∙◌, option_to_list, map-append, lt-ltb, le-ltb, ltb-true, Input, first_failed, start_checks, HeaderPhrase, declarations_of, Placed, phrases_of, Ghosts, Feed, Draft, Reads, IsBarred, MayStart, keyword_for, IsDraftOf, DraftsUpTo, TooDeep, NoScope, Kind, rows_len}
use Rattle.vcd_view.specs.declared.view.Kind.TheVariants as kind
use Rattle.vcd_head.proofs.DraftLemmas.{open_is}

pub carried : {X : Type 0} {g : Ghosts X} (most : ℕ) (i : Input) (d : Draft) (f : Feed X g) (placed : List (Placed HeaderPhrase))
    (p : Placed HeaderPhrase) → Reads most i (placed ++ p ∷ []) [] f → IsDraftOf most d (phrases_of placed ++ p.phrase ∷ []) → DraftsUpTo most i d f
carried most i d f placed p r h = record { placed = placed ++ p ∷ []; reads = r; holds = subst (IsDraftOf most d) (sym (map-append (λ (q : Placed HeaderPhrase). q.phrase) placed (p ∷ []))) h }

-- ---- the checks of a keyword

rows_are : (most : ℕ) (d : Draft) (ps : List HeaderPhrase) → IsDraftOf most d ps → length d.rows.items ≡ length (declarations_of ps)
rows_are most d ps h = rows_len d.text.items _ [] d.rows.items (declarations_of ps) h.declares.rows

pub too_many : (most : ℕ) (d : Draft) (ps : List HeaderPhrase) (k : Kind) → IsDraftOf most d ps → most ≤ length d.rows.items
    → first_failed (start_checks most (declarations_of ps) (keyword_for k)) ≡ Some 11
too_many most d ps kind.Scope h n = rw (sym (rows_are most d ps h), le-ltb (length d.rows.items) most n) refl
too_many most d ps kind.Up h n = rw (sym (rows_are most d ps h), le-ltb (length d.rows.items) most n) refl
too_many most d ps kind.Var h n = rw (sym (rows_are most d ps h), le-ltb (length d.rows.items) most n) refl

module _ (most : ℕ) (d : Draft) (ps : List HeaderPhrase) (h : IsDraftOf most d ps) (n : length d.rows.items < most) where
  pub scope_may : length d.scopes.items < 1000 → MayStart most ps kind.Scope
  scope_may k = rw (sym (rows_are most d ps h), lt-ltb (length d.rows.items) most n, sym (open_is most d (declarations_of ps) h.declares), lt-ltb (length d.scopes.items) 1000 k) refl

  pub too_deep : 1000 ≤ length d.scopes.items → IsBarred most ps kind.Scope TooDeep
  too_deep k = rw (sym (rows_are most d ps h), lt-ltb (length d.rows.items) most n, sym (open_is most d (declarations_of ps) h.declares), le-ltb (length d.scopes.items) 1000 k) refl

  pub up_may : 0 < length d.scopes.items → MayStart most ps kind.Up
  up_may k = rw (sym (rows_are most d ps h), lt-ltb (length d.rows.items) most n, sym (open_is most d (declarations_of ps) h.declares), lt-ltb 0 (length d.scopes.items) k) refl

  pub no_scope : length d.scopes.items ≤ 0 → IsBarred most ps kind.Up NoScope
  no_scope k = rw (sym (rows_are most d ps h), lt-ltb (length d.rows.items) most n, sym (open_is most d (declarations_of ps) h.declares), le-ltb 0 (length d.scopes.items) k) refl

  pub var_may : MayStart most ps kind.Var
  var_may = rw (sym (rows_are most d ps h), lt-ltb (length d.rows.items) most n) refl

-- ---- what is allowed

first_passes : (b : Bool) (o : Option ℕ) (n : ℕ) → cond b o (Some n) ≡ None → b ≡ true
first_passes true o n e = refl
first_passes false o n e = cc

second_passes : (a b : Bool) (n m : ℕ) → cond a (cond b None (Some m)) (Some n) ≡ None → b ≡ true
second_passes true true n m e = refl
second_passes true false n m e = cc
second_passes false b n m e = cc

-- there is room for one more
pub room : (most : ℕ) (ps : List HeaderPhrase) (k : Kind) → MayStart most ps k → length (declarations_of ps) < most
room most ps kind.Scope e = ltb-true _ _ (first_passes _ _ _ e)
room most ps kind.Up e = ltb-true _ _ (first_passes _ _ _ e)
room most ps kind.Var e = ltb-true _ _ (first_passes _ _ _ e)

-- a scope is open
pub some_open : (most : ℕ) (d : Draft) (ps : List HeaderPhrase) → IsDraftOf most d ps → MayStart most ps kind.Up → 0 < length d.scopes.items
some_open most d ps h e = subst (λ n. 0 < n) (sym (open_is most d (declarations_of ps) h.declares)) (ltb-true _ _ (second_passes _ _ _ _ e))

-- the innermost is closed
pub popped : (old new : List ℕ) (r : Option ℕ) (closed x : ℕ) → old ≡ new ++ option_to_list r → closed ≡ unwrap_or r 0 → r ≡ Some x → old ≡ new ++ closed ∷ []
popped old new r closed x items e is = items ∙ ap (λ o. new ++ option_to_list o) is ∙ ap (λ y. new ++ y ∷ []) (sym (e ∙ ap (λ o. unwrap_or o 0) is))

-- a test that fails gives the fault
pub failed_test : (b : Bool) (n : ℕ) → b ≡ false → cond b None (Some n) ≡ Some n
failed_test b n e = rw e refl

-- a test that passes gives none
pub passed_test : (b : Bool) (n : ℕ) → b ≡ true → cond b None (Some n) ≡ None
passed_test b n e = rw e refl

-- `$end` ends the phrase
pub whole_test : {X : Type 0} (b : Bool) (x : X) → b ≡ true → cond b (Some x) None ≡ Some x
whole_test b x e = rw e refl
