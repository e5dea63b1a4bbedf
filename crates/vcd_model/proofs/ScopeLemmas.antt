-- The enclosing scopes are a stack: what a declaration does to those that the declarations before
-- it leave open.
use Rattle.vcd_model.proofs.Cited.{◌≡◌, ℕ, zero, suc, ◌+◌, ◌<◌, ◌≤◌, true, false, cond, List, [], ◌∷◌, ◌++◌, length, reverse, count_by, take, drop, slice_get, Some, refl, sym, ap, subst, ◌∙◌, arith, eq-eqb, ne_eqb, take-append_seam, append_assoc, reverse-append, reverse-reverse, length-reverse, length-append, AllByRecursion, sum_by-cons, sum_by-append, Declaration, Variable, is_scope, is_up, is_balanced, open_scopes, enclosing_back}
use Rattle.vcd_model.specs.Declarations.{enclosing}

-- the enclosing scopes, looking back over these declarations if `closed` more scopes are closed
-- than opened in between
walk : ℕ → List Declaration → List ℕ
walk closed [] = []
walk zero (Declaration.Scope type name ∷ back) = length back ∷ walk zero back
walk (suc closed) (Declaration.Scope type name ∷ back) = walk closed back
walk closed (Declaration.Up ∷ back) = walk (suc closed) back
walk closed (Declaration.Var v ∷ back) = walk closed back

scopes_with : (d : Declaration) (ds : List Declaration) → count_by is_scope (d ∷ ds) ≡ cond (is_scope d) 1 0 + count_by is_scope ds
scopes_with d ds = sum_by-cons (λ x. cond (is_scope x) 1 0) d ds

ups_with : (d : Declaration) (ds : List Declaration) → count_by is_up (d ∷ ds) ≡ cond (is_up d) 1 0 + count_by is_up ds
ups_with d ds = sum_by-cons (λ x. cond (is_up x) 1 0) d ds

balanced : (between : List Declaration) → count_by is_up between ≡ count_by is_scope between → is_balanced between ≡ true
balanced between e = eq-eqb (count_by is_scope between) (count_by is_up between) (sym e)

unbalanced : (between : List Declaration) (closed : ℕ) → count_by is_up between ≡ count_by is_scope between + suc closed → is_balanced between ≡ false
unbalanced between closed e = ne_eqb (count_by is_scope between) (count_by is_up between) (λ same. absurd (omega arith))

back_is : (between back : List Declaration) (closed : ℕ) → count_by is_up between ≡ count_by is_scope between + closed → enclosing_back between back ≡ walk closed back
unfolding walk
back_is between [] closed e = refl
back_is between (Declaration.Scope type name ∷ back) zero e =
    let b = balanced between (omega arith) in
    rw (b, enclosing_back) (ap (λ ps. length back ∷ ps) (back_is [] back zero refl))
back_is between (Declaration.Scope type name ∷ back) (suc closed) e =
    let b = unbalanced between closed e in
    let s = scopes_with (Declaration.Scope type name) between in
    let u = ups_with (Declaration.Scope type name) between in
    rw (b, enclosing_back) (back_is (Declaration.Scope type name ∷ between) back closed (omega arith))
back_is between (Declaration.Up ∷ back) closed e =
    let s = scopes_with Declaration.Up between in
    let u = ups_with Declaration.Up between in
    back_is (Declaration.Up ∷ between) back (suc closed) (omega arith)
back_is between (Declaration.Var v ∷ back) closed e =
    let s = scopes_with (Declaration.Var v) between in
    let u = ups_with (Declaration.Var v) between in
    back_is (Declaration.Var v ∷ between) back closed (omega arith)

-- one more scope closed takes the innermost away
walk-suc : (closed : ℕ) (back : List Declaration) → walk (suc closed) back ≡ drop 1 (walk closed back)
unfolding walk
walk-suc closed [] = refl
walk-suc zero (Declaration.Scope type name ∷ back) = refl
walk-suc (suc closed) (Declaration.Scope type name ∷ back) = walk-suc closed back
walk-suc closed (Declaration.Up ∷ back) = walk-suc (suc closed) back
walk-suc closed (Declaration.Var v ∷ back) = walk-suc closed back

enclosing_is : (ds : List Declaration) → enclosing ds ≡ walk zero (reverse ds)
unfolding enclosing
enclosing_is ds = back_is [] (reverse ds) zero refl

walk_after : (ds : List Declaration) (d : Declaration) → enclosing (ds ++ d ∷ []) ≡ walk zero (d ∷ reverse ds)
walk_after ds d = enclosing_is (ds ++ d ∷ []) ∙ ap (walk zero) (reverse-append ds (d ∷ []))

-- a scope that is opened is the innermost
pub enclosing-scope : (ds : List Declaration) (type name : List ℕ) → enclosing (ds ++ Declaration.Scope type name ∷ []) ≡ length ds ∷ enclosing ds
unfolding walk
enclosing-scope ds type name = walk_after ds (Declaration.Scope type name) ∙ ap (λ n. n ∷ walk zero (reverse ds)) (length-reverse ds) ∙ ap (λ ps. length ds ∷ ps) (sym (enclosing_is ds))

-- `$upscope` closes the innermost
pub enclosing-up : (ds : List Declaration) → enclosing (ds ++ Declaration.Up ∷ []) ≡ drop 1 (enclosing ds)
unfolding walk
enclosing-up ds = walk_after ds Declaration.Up ∙ walk-suc zero (reverse ds) ∙ ap (drop 1) (sym (enclosing_is ds))

-- a variable changes nothing
pub enclosing-var : (ds : List Declaration) (v : Variable) → enclosing (ds ++ Declaration.Var v ∷ []) ≡ enclosing ds
unfolding walk
enclosing-var ds v = walk_after ds (Declaration.Var v) ∙ sym (enclosing_is ds)

-- ---- the open scopes as a state that goes forward

-- these indexes, innermost first, are those of the scopes that the declarations leave open, and no
-- more were closed than opened
pub record LeavesOpen (ds : List Declaration) (scopes : List ℕ) : Type 0 where
  pub are : enclosing ds ≡ scopes
  pub count : count_by is_scope ds ≡ count_by is_up ds + length scopes

scopes_after : (ds : List Declaration) (d : Declaration) → count_by is_scope (ds ++ d ∷ []) ≡ count_by is_scope ds + cond (is_scope d) 1 0
scopes_after ds d = let both = sum_by-append (λ x. cond (is_scope x) 1 0) ds (d ∷ []) in let one = scopes_with d [] in omega arith

ups_after : (ds : List Declaration) (d : Declaration) → count_by is_up (ds ++ d ∷ []) ≡ count_by is_up ds + cond (is_up d) 1 0
ups_after ds d = let both = sum_by-append (λ x. cond (is_up x) 1 0) ds (d ∷ []) in let one = ups_with d [] in omega arith

pub none_open : LeavesOpen [] []
unfolding enclosing
none_open = record { are = refl; count = refl }

pub scope_open : (ds : List Declaration) (scopes : List ℕ) (type name : List ℕ) → LeavesOpen ds scopes → LeavesOpen (ds ++ Declaration.Scope type name ∷ []) (length ds ∷ scopes)
scope_open ds scopes type name is =
    let s = scopes_after ds (Declaration.Scope type name) in
    let u = ups_after ds (Declaration.Scope type name) in
    let n = is.count in
    record { are = enclosing-scope ds type name ∙ ap (λ ps. length ds ∷ ps) is.are; count = omega arith }

pub up_open : (ds : List Declaration) (p : ℕ) (scopes : List ℕ) → LeavesOpen ds (p ∷ scopes) → LeavesOpen (ds ++ Declaration.Up ∷ []) scopes
up_open ds p scopes is =
    let s = scopes_after ds Declaration.Up in
    let u = ups_after ds Declaration.Up in
    let n = is.count in
    record { are = enclosing-up ds ∙ ap (drop 1) is.are; count = omega arith }

pub var_open : (ds : List Declaration) (scopes : List ℕ) (v : Variable) → LeavesOpen ds scopes → LeavesOpen (ds ++ Declaration.Var v ∷ []) scopes
var_open ds scopes v is =
    let s = scopes_after ds (Declaration.Var v) in
    let u = ups_after ds (Declaration.Var v) in
    let n = is.count in
    record { are = enclosing-var ds v ∙ is.are; count = omega arith }

-- as many scopes are open as the checks count
pub open_scopes_is : (ds : List Declaration) (scopes : List ℕ) → LeavesOpen ds scopes → open_scopes ds ≡ length scopes
open_scopes_is ds scopes is = let n = is.count in omega arith

-- ---- the innermost scope, and those around it

-- the index is that of a scope, and these are the indexes of the scopes around it
pub record IsInnermost (ds : List Declaration) (p : ℕ) (around : List ℕ) : Type 0 where
  pub before : p < length ds
  pub type : List ℕ
  pub name : List ℕ
  pub at : slice_get ds p ≡ Some (Declaration.Scope type name)
  pub outer : enclosing (take p ds) ≡ around

-- a walk back stops at the nearest scope that is open, and continues from it
record Stops (back : List Declaration) (p : ℕ) (around : List ℕ) : Type 0 where
  nearer : List Declaration
  type : List ℕ
  name : List ℕ
  farther : List Declaration
  parts : back ≡ nearer ++ Declaration.Scope type name ∷ farther
  place : p ≡ length farther
  rest : walk zero farther ≡ around

farther_on : (d : Declaration) (back : List Declaration) (p : ℕ) (around : List ℕ) → Stops back p around → Stops (d ∷ back) p around
farther_on d back p around s = record { nearer = d ∷ s.nearer; type = s.type; name = s.name; farther = s.farther; parts = ap (λ l. d ∷ l) s.parts; place = s.place; rest = s.rest }

stops : (closed : ℕ) (back : List Declaration) (p : ℕ) (around : List ℕ) → walk closed back ≡ p ∷ around → Stops back p around
unfolding walk
stops closed [] p around e = cc
stops zero (Declaration.Scope type name ∷ back) p around e = record { nearer = []; type = type; name = name; farther = back; parts = refl; place = cc; rest = cc }
stops (suc closed) (Declaration.Scope type name ∷ back) p around e = farther_on (Declaration.Scope type name) back p around (stops closed back p around e)
stops closed (Declaration.Up ∷ back) p around e = farther_on Declaration.Up back p around (stops (suc closed) back p around e)
stops closed (Declaration.Var v ∷ back) p around e = farther_on (Declaration.Var v) back p around (stops closed back p around e)

slice_get-seam : {X : Type 0} (xs : List X) (x : X) (ys : List X) → slice_get (xs ++ x ∷ ys) (length xs) ≡ Some x
slice_get-seam [] x ys = refl
slice_get-seam (y ∷ xs) x ys = slice_get-seam xs x ys

pub innermost : (ds : List Declaration) (p : ℕ) (around : List ℕ) → enclosing ds ≡ p ∷ around → IsInnermost ds p around
innermost ds p around e =
    let s = stops zero (reverse ds) p around (sym (enclosing_is ds) ∙ e) in
    let scope = Declaration.Scope s.type s.name in
    let front = reverse s.farther in
    let parts : ds ≡ front ++ scope ∷ reverse s.nearer =
    sym (reverse-reverse ds) ∙ ap reverse s.parts ∙ reverse-append s.nearer (scope ∷ s.farther)
    ∙ ap (λ l. l ++ reverse s.nearer) (reverse-append (scope ∷ []) s.farther) ∙ append_assoc front (scope ∷ []) (reverse s.nearer) in
    let place : p ≡ length front = s.place ∙ sym (length-reverse s.farther) in
    let cut : take p ds ≡ front = ap (take p) parts ∙ ap (λ n. take n (front ++ scope ∷ reverse s.nearer)) place ∙ take-append_seam front (scope ∷ reverse s.nearer) in
    record {
      before = omega (arith, place, ap length parts, length-append front (scope ∷ reverse s.nearer));
      type = s.type;
      name = s.name;
      at = ap (λ l. slice_get l p) parts ∙ ap (slice_get (front ++ scope ∷ reverse s.nearer)) place ∙ slice_get-seam front scope (reverse s.nearer);
      outer = ap enclosing cut ∙ enclosing_is front ∙ ap (walk zero) (reverse-reverse s.farther) ∙ s.rest;
    }

-- the indexes of enclosing scopes are before the declaration
below : (closed : ℕ) (back : List Declaration) (n : ℕ) → length back ≤ n → AllByRecursion (λ i. i < n) (walk closed back)
unfolding walk
below closed [] n h = tt
below zero (Declaration.Scope type name ∷ back) n h = (omega arith, below zero back n (omega arith))
below (suc closed) (Declaration.Scope type name ∷ back) n h = below closed back n (omega arith)
below closed (Declaration.Up ∷ back) n h = below (suc closed) back n (omega arith)
below closed (Declaration.Var v ∷ back) n h = below closed back n (omega arith)

pub enclosing_below : (ds : List Declaration) → AllByRecursion (λ i. i < length ds) (enclosing ds)
enclosing_below ds = subst (AllByRecursion (λ i. i < length ds)) (sym (enclosing_is ds)) (below zero (reverse ds) (length ds) (omega (arith, length-reverse ds)))

pub slice_get-take : {X : Type 0} (xs : List X) (n i : ℕ) → i < n → slice_get (take n xs) i ≡ slice_get xs i
slice_get-take xs zero i h = absurd (omega arith)
slice_get-take [] (suc n) i h = refl
slice_get-take (x ∷ xs) (suc n) zero h = refl
slice_get-take (x ∷ xs) (suc n) (suc i) h = slice_get-take xs n i (omega arith)
