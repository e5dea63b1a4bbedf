-- Names and the front of a path.
use Rattle.vcd_head.proofs.Cited.{◌≡◌, ◌≢◌, ℕ, true, false, ◌&&◌, List, [], ◌∷◌, ◌++◌, ◌==◌, ◌+◌, length, drop, take, reverse, nat_eq, Some, inl, inr, refl, sym, ap, ◌∙◌, suc, add-one, eq-eqb, ne_eqb, eqb-true, cases_eq, and_parts, and_from, false_from_ne_true, append_assoc, append-nil, starts_with, Declaration, enclosing, name_of, path_of, Header, selects_path, Enclosing, names_text, Match, selects_after, GivesNext, LeavesScopes}
use Rattle.vcd_head.specs.Paths.{scopes_text}
use Rattle.vcd_head.proofs.PathLemmas.{IsScopeAt, path_is, scope_at}
use mathlib.Core.Logic.{◌⊎◌}

-- byte by byte
pub selects-byte : (x y : ℕ) (path name : List ℕ) → selects_path (x ∷ path) (y ∷ name) ≡ (nat_eq x y && selects_path path name)
selects-byte x y path name =
    elim (cases_eq x y) [ inl e ↦ rw (eq-eqb x y e, eq-eqb y x (sym e)) refl | inr n ↦ rw (ne_eqb x y n, ne_eqb y x (λ e. n (sym e))) refl ]

-- the byte and what is after it
pub selects_behind_byte : (x y : ℕ) (path name : List ℕ) → selects_path (x ∷ path) (y ∷ name) ≡ true → (x ≡ y) × (selects_path path name ≡ true)
selects_behind_byte x y path name h =
    let both = and_parts (nat_eq x y) (selects_path path name) (sym (selects-byte x y path name) ∙ h) in
    (eqb-true x y both.0, both.1)

selects_from_byte : (x y : ℕ) (path name : List ℕ) → x ≡ y → selects_path path name ≡ true → selects_path (x ∷ path) (y ∷ name) ≡ true
selects_from_byte x y path name e h = selects-byte x y path name ∙ and_from (nat_eq x y) (selects_path path name) (eq-eqb x y e) h

-- what path and name both begin with decides nothing
pub selects-front : (front path name : List ℕ) → selects_path (front ++ path) (front ++ name) ≡ selects_path path name
selects-front [] path name = refl
selects-front (x ∷ front) path name =
    selects-byte x x (front ++ path) (front ++ name) ∙ ap (λ b. b && selects_path (front ++ path) (front ++ name)) (eq-eqb x x refl) ∙ selects-front front path name

-- a path that is selected begins with the name
pub selected_begins : (path name : List ℕ) → selects_path path name ≡ true → (rest : List ℕ) × (path ≡ name ++ rest)
selected_begins path [] h = (path, refl)
selected_begins [] (y ∷ name) h = cc
selected_begins (x ∷ path) (y ∷ name) h =
    let both = selects_behind_byte x y path name h in
    let behind = selected_begins path name both.1 in
    (behind.0, cc)

-- a path that begins with a selected one and a point is selected
pub selects-longer : (path name text : List ℕ) → selects_path path name ≡ true → selects_path (path ++ 46 ∷ text) name ≡ true
selects-longer [] [] text h = refl
selects-longer [] (y ∷ name) text h = cc
selects-longer (x ∷ path) [] text h = h
selects-longer (x ∷ path) (y ∷ name) text h =
    let both = selects_behind_byte x y path name h in
    selects_from_byte x y (path ++ 46 ∷ text) name both.0 (selects-longer path name text both.1)

-- a path is selected by its front up to a point, or the name continues after that point
pub selects_split : (path name text : List ℕ) → selects_path (path ++ 46 ∷ text) name ≡ true → (selects_path path name ≡ true) ⊎ ((rest : List ℕ) × (name ≡ path ++ 46 ∷ rest))
selects_split [] [] text h = inl refl
selects_split [] (y ∷ name) text h = let both = selects_behind_byte 46 y text name h in inr (name, ap (λ b. b ∷ name) (sym both.0))
selects_split (x ∷ path) [] text h = inl h
selects_split (x ∷ path) (y ∷ name) text h =
    let both = selects_behind_byte x y (path ++ 46 ∷ text) name h in
    elim (selects_split path name text both.1) [
      | inl is ↦ inl (selects_from_byte x y path name both.0 is)
      | inr more ↦ inr (more.0, let e = more.1 in let s = both.0 in cc)
    ]

-- ---- the answers of the code

-- the path is the name and this rest
pub rest_decides : (path name rest : List ℕ) → path ≡ name ++ rest → selects_path path name ≡ selects_path rest []
rest_decides path name rest e = rw e (ap (selects_path (name ++ rest)) (sym (append-nil name)) ∙ selects-front name rest [])

pub point_behind : (rest : List ℕ) → (length rest == 0) ≡ false → starts_with nat_eq rest (46 ∷ []) ≡ selects_path rest []
point_behind [] h = cc
point_behind (x ∷ rest) h = refl

pub other_front : (path name : List ℕ) → ((rest : List ℕ) → path ≢ name ++ rest) → selects_path path name ≡ false
other_front path name n = false_from_ne_true (selects_path path name) (λ h. let b = selected_begins path name h in n b.0 b.1)

pub name_goes_on : (component name rest text : List ℕ) → name ≡ component ++ 46 ∷ rest → selects_path (component ++ 46 ∷ text) name ≡ selects_path text rest
name_goes_on component name rest text e = rw e (selects-front component (46 ∷ text) (46 ∷ rest) ∙ selects-front (46 ∷ []) text rest)

pub component_differs : (component name text : List ℕ) → selects_path component name ≡ false → ((rest : List ℕ) → name ≢ component ++ 46 ∷ rest)
    → selects_path (component ++ 46 ∷ text) name ≡ false
component_differs component name text not n =
    false_from_ne_true (selects_path (component ++ 46 ∷ text) name) (λ h. elim (selects_split component name text h) [ inl is ↦ cc | inr more ↦ n more.0 more.1 ])

-- what comes after a component and a point
pub behind_component : (component name rest : List ℕ) → name ≡ component ++ 46 ∷ rest → rest ≡ drop (length component + 1) name
behind_component component name rest e = sym (ap (drop (length component + 1)) e ∙ ap (λ n. drop n (component ++ 46 ∷ rest)) (add-one (length component)) ∙ passed component)
  where
    passed : (component : List ℕ) → drop (suc (length component)) (component ++ 46 ∷ rest) ≡ rest
    passed [] = refl
    passed (x ∷ component) = passed component

-- ---- one scope after the other

-- the outer scopes are matched: what is left of the name decides by the scopes that are left and
-- the declaration's own name
pub record HasMatched (h : Header) (row : ℕ) (d : Declaration) (e : Enclosing) (name left : List ℕ) : Type 0 where
  pub rest : List ℕ
  pub leaves : LeavesScopes h row rest e
  pub decides : selects_path (path_of (take row h.declarations) d) name ≡ selects_path (names_text (take row h.declarations) rest ++ name_of d) left

pub match_first : (h : Header) (row : ℕ) (d : Declaration) (e : Enclosing) (name left : List ℕ) → left ≡ name
    → LeavesScopes h row (reverse (enclosing (take row h.declarations))) e → HasMatched h row d e name left
unfolding scopes_text
match_first h row d e name left same l = record {
  rest = reverse (enclosing (take row h.declarations));
  leaves = l;
  decides = rw (same, path_is (take row h.declarations) d) refl;
}

-- the next scope, with the text of what is left after it
pub record MatchNext (h : Header) (row scope : ℕ) (d : Declaration) (e : Enclosing) (name left : List ℕ) : Type 0 where
  pub is : IsScopeAt h row scope
  pub others : List ℕ
  pub leaves : LeavesScopes h row others e
  pub decides : selects_path (path_of (take row h.declarations) d) name ≡ selects_path (name_of is.declared ++ 46 ∷ (names_text (take row h.declarations) others ++ name_of d)) left

pub match_next : (h : Header) (row scope : ℕ) (d : Declaration) (e e2 : Enclosing) (name left : List ℕ) (m : HasMatched h row d e name left)
    → GivesNext h row m.rest e2 (Some scope) → MatchNext h row scope d e2 name left
match_next h row scope d e e2 name left m g =
    let is = scope_at h row scope g.2 m.leaves.within in
    let ds = take row h.declarations in
    record {
      is = is;
      others = g.0;
      leaves = g.3;
      decides = m.decides
          ∙ ap (λ l. selects_path (l ++ name_of d) left) (ap (names_text ds) g.1 ∙ is.text g.0)
          ∙ ap (λ l. selects_path l left) (append_assoc (name_of is.declared) (46 ∷ names_text ds g.0) (name_of d));
    }

-- what its name says of the path
pub match_component : (h : Header) (row scope : ℕ) (d : Declaration) (e : Enclosing) (name left bytes : List ℕ) (m : Match)
    (n : MatchNext h row scope d e name left) → bytes ≡ name_of n.is.declared
    → ((text : List ℕ) → selects_after m text ≡ selects_path (bytes ++ 46 ∷ text) left)
    → selects_path (path_of (take row h.declarations) d) name ≡ selects_after m (names_text (take row h.declarations) n.others ++ name_of d)
match_component h row scope d e name left bytes m n same says =
    let after = names_text (take row h.declarations) n.others ++ name_of d in
    n.decides ∙ ap (λ l. selects_path (l ++ 46 ∷ after) left) (sym same) ∙ sym (says after)

pub match_all : (h : Header) (row : ℕ) (d : Declaration) (e : Enclosing) (name left : List ℕ) (m : HasMatched h row d e name left) → m.rest ≡ []
    → selects_path (path_of (take row h.declarations) d) name ≡ selects_path (name_of d) left
match_all h row d e name left m none = m.decides ∙ ap (λ l. selects_path (names_text (take row h.declarations) l ++ name_of d) left) none
