-- The text of a path, scope by scope.
use Rattle.vcd_head.proofs.Cited.{◌≡◌, ℕ, zero, suc, ◌<◌, List, [], ◌∷◌, ◌++◌, length, reverse, take, slice_get, flat_map, Option, Some, refl, sym, ap, subst, ◌∙◌, arith, Appends, join_with_byte, append_assoc, append-nil, Declaration, enclosing, name_of, names_at, Header, slice_get-take, AppendsSome, appends-none, appends-twice, appends-first, appends-some, Enclosing, names_text, GivesNext, LeavesScopes}
use Rattle.vcd_model.specs.Declarations.{path_of}
use Rattle.vcd_head.specs.Paths.{scopes_text}

joined : (names : List (List ℕ)) (last : List ℕ) → join_with_byte 46 (names ++ last ∷ []) ≡ flat_map (λ name. name ++ 46 ∷ []) names ++ last
joined [] last = refl
joined (n ∷ []) last = sym (ap (λ l. l ++ last) (append-nil (n ++ 46 ∷ [])) ∙ append_assoc n (46 ∷ []) last)
joined (n ∷ m ∷ names) last =
    ap (λ l. n ++ 46 ∷ l) (joined (m ∷ names) last) ∙ sym (append_assoc n (46 ∷ []) (flat_map (λ name. name ++ 46 ∷ []) (m ∷ names) ++ last))
    ∙ sym (append_assoc (n ++ 46 ∷ []) (flat_map (λ name. name ++ 46 ∷ []) (m ∷ names)) last)

-- a path is the text of the scopes and a name
pub path_is : (e : List Declaration) (d : Declaration) → path_of e d ≡ scopes_text e ++ name_of d
unfolding path_of scopes_text
path_is e d = joined (names_at e (reverse (enclosing e))) (name_of d)

-- ---- one scope after the other

-- a scope among those around a declaration
pub record IsScopeAt (h : Header) (row scope : ℕ) : Type 0 where
  pub declared : Declaration
  pub at : slice_get h.declarations scope ≡ Some declared
  pub text : (others : List ℕ) → names_text (take row h.declarations) (scope ∷ others) ≡ name_of declared ++ 46 ∷ names_text (take row h.declarations) others

declared_at : (ds : List Declaration) (i : ℕ) → i < length ds → (d : Declaration) × (slice_get ds i ≡ Some d)
declared_at [] i h = absurd (omega arith)
declared_at (d ∷ ds) zero h = (d, refl)
declared_at (d ∷ ds) (suc i) h = declared_at ds i (omega arith)

names_next : (ds : List Declaration) (scope : ℕ) (d : Declaration) (others : List ℕ) → slice_get ds scope ≡ Some d
    → names_text ds (scope ∷ others) ≡ name_of d ++ 46 ∷ names_text ds others
names_next ds scope d others at = rw at (append_assoc (name_of d) (46 ∷ []) (names_text ds others))

pub scope_at : (h : Header) (row scope : ℕ) → scope < row → row < length h.declarations → IsScopeAt h row scope
scope_at h row scope l m =
    let d = declared_at h.declarations scope (omega arith) in
    record { declared = d.0; at = d.1; text = λ others. names_next (take row h.declarations) scope d.0 others (slice_get-take h.declarations row scope l ∙ d.1) }

-- the names of some scopes are written, and those of the others are left
pub record HasNames (h : Header) (row : ℕ) (e : Enclosing) (old new : Option (List ℕ)) : Type 0 where
  pub written : List ℕ
  pub rest : List ℕ
  pub split : scopes_text (take row h.declarations) ≡ written ++ names_text (take row h.declarations) rest
  pub puts : Appends old new written
  pub leaves : LeavesScopes h row rest e

pub names_first : (h : Header) (row : ℕ) (e : Enclosing) (old : Option (List ℕ)) → LeavesScopes h row (reverse (enclosing (take row h.declarations))) e → HasNames h row e old old
unfolding scopes_text
names_first h row e old l = record { written = []; rest = reverse (enclosing (take row h.declarations)); split = refl; puts = appends-none old; leaves = l }

-- the next scope, as it is given
pub record NameNext (h : Header) (row scope : ℕ) (e : Enclosing) (old new : Option (List ℕ)) : Type 0 where
  pub is : IsScopeAt h row scope
  pub written : List ℕ
  pub others : List ℕ
  pub split : scopes_text (take row h.declarations) ≡ (written ++ name_of is.declared) ++ 46 ∷ names_text (take row h.declarations) others
  pub puts : Appends old new written
  pub leaves : LeavesScopes h row others e

pub name_next : (h : Header) (row scope : ℕ) (e e2 : Enclosing) (old new : Option (List ℕ)) (n : HasNames h row e old new)
    → GivesNext h row n.rest e2 (Some scope) → NameNext h row scope e2 old new
name_next h row scope e e2 old new n g =
    let is = scope_at h row scope g.2 n.leaves.within in
    let ds = take row h.declarations in
    record {
      is = is;
      written = n.written;
      others = g.0;
      split = n.split ∙ ap (λ l. n.written ++ names_text ds l) g.1 ∙ ap (λ l. n.written ++ l) (is.text g.0) ∙ sym (append_assoc n.written (name_of is.declared) (46 ∷ names_text ds g.0));
      puts = n.puts;
      leaves = g.3;
    }

-- its name and the point are written
pub names_more : (h : Header) (row scope : ℕ) (e : Enclosing) (old new mid last : Option (List ℕ)) (n : NameNext h row scope e old new)
    → Appends new mid (name_of n.is.declared) → Appends mid last (46 ∷ []) → HasNames h row e old last
names_more h row scope e old new mid last n name point = record {
  written = (n.written ++ name_of n.is.declared) ++ 46 ∷ [];
  rest = n.others;
  split = n.split ∙ sym (append_assoc (n.written ++ name_of n.is.declared) (46 ∷ []) (names_text (take row h.declarations) n.others));
  puts = appends-twice old mid last (n.written ++ name_of n.is.declared) (46 ∷ []) (appends-twice old new mid n.written (name_of n.is.declared) n.puts name) point;
  leaves = n.leaves;
}

-- some first bytes of its name
pub names_some : (h : Header) (row scope : ℕ) (e : Enclosing) (old new last : Option (List ℕ)) (n : NameNext h row scope e old new)
    → AppendsSome new last (name_of n.is.declared) → AppendsSome old last (scopes_text (take row h.declarations))
names_some h row scope e old new last n name =
    subst (AppendsSome old last) (sym n.split) (appends-first old last (n.written ++ name_of n.is.declared) _ (appends-some old new last n.written (name_of n.is.declared) n.puts name))

-- and some of the point
pub point_some : (h : Header) (row scope : ℕ) (e : Enclosing) (old new mid last : Option (List ℕ)) (n : NameNext h row scope e old new)
    → Appends new mid (name_of n.is.declared) → AppendsSome mid last (46 ∷ []) → AppendsSome old last (scopes_text (take row h.declarations))
point_some h row scope e old new mid last n name point =
    let front = n.written ++ name_of n.is.declared in
    let rest = names_text (take row h.declarations) n.others in
    subst (AppendsSome old last) (sym (n.split ∙ sym (append_assoc front (46 ∷ []) rest)))
    (appends-first old last (front ++ 46 ∷ []) rest (appends-some old mid last front (46 ∷ []) (appends-twice old new mid n.written (name_of n.is.declared) n.puts name) point))
