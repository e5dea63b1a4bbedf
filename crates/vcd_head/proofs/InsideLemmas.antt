-- The names that continue inside open scopes.
use Rattle.vcd_head.proofs.Cited.{◌≡◌, ◌≢◌, ◌⊎◌, ℕ, zero, suc, ◌+◌, ◌-◌, ◌<◌, ◌≤◌, Bool, true, false, ◌||◌, ◌==◌, List, [], ◌∷◌, ◌++◌, length, map, take, drop, get_or, set, slice_range, reverse, slice_get, Option, Some, None, option_map, inl, inr, refl, sym, ap, subst, ◌∙◌, arith, AllByRecursion, ne_eqb, flat_map-append, append_assoc, append-nil, reverse-append, length-drop, length-take, length-take-le, take-append-drop, take-append-add, filter_map-append, none-some, same_Some, slice_get_within, is_empty, Declaration, IdCode, Variable, enclosing, name_of, names_at, parent, Header, is_selected, is_variable, selects_path, enclosing_below, slice_get-take, Inside, Open, NameRun, AreOpen, HasEntered, front, GivesNext, LeavesScopes, Enclosing, Matched, Matches, AreSame, Notes, SelectsAll, text_at, names_text, Follows, IsDecided, Row, HeadShown, IsRow, Views, counted_from_one, row_of, rows_len, all_push, all_weaker, there, around_none, around_some, parent_before}
use Rattle.vcd_head.proofs.RunSteps.{notes_behind, notes_both}
use Rattle.vcd_head.specs.Paths.{scopes_text}
use Rattle.vcd_view.specs.declared.view.Kind.TheVariants as kind
use Rattle.vcd_head.proofs.MatchLemmas.{or_true}
use Rattle.vcd_head.proofs.RunLemmas.{text_is}

-- ---- lists

-- what is read after a write
pub set_at : {X : Type 0} (xs : List X) (p k : ℕ) (y x : X) → slice_get (set xs p y) k ≡ Some x → ((k ≡ p) × (y ≡ x)) ⊎ ((k ≢ p) × (slice_get xs k ≡ Some x))
set_at [] p k y x at = absurd (none-some x at)
set_at (z ∷ xs) zero zero y x at = inl (refl, same_Some y x at)
set_at (z ∷ xs) zero (suc k) y x at = inr (λ e. omega (arith, e), at)
set_at (z ∷ xs) (suc p) zero y x at = inr (λ e. omega (arith, e), at)
set_at (z ∷ xs) (suc p) (suc k) y x at = elim (set_at xs p k y x at) [ inl e ↦ inl (ap suc e.0, e.1) | inr o ↦ inr (λ e. o.0 (omega (arith, e)), o.1) ]

pub all_take : {X : Type 0} (P : X → Type 0) (n : ℕ) (xs : List X) → AllByRecursion P xs → AllByRecursion P (take n xs)
all_take P zero xs h = tt
all_take P (suc n) [] h = tt
all_take P (suc n) (x ∷ xs) h = (h.0, all_take P n xs h.1)

pub all_reverse : {X : Type 0} (P : X → Type 0) (xs : List X) → AllByRecursion P xs → AllByRecursion P (reverse xs)
all_reverse P [] h = tt
all_reverse P (x ∷ xs) h = subst (AllByRecursion P) (sym (reverse-append (x ∷ []) xs)) (all_push P (reverse xs) x (all_reverse P xs h.1) h.0)

pub get_mapped : {X Y : Type 0} (f : X → Y) (xs : List X) (i : ℕ) (x : X) → slice_get xs i ≡ Some x → slice_get (map f xs) i ≡ Some (f x)
get_mapped f [] i x e = absurd (none-some x e)
get_mapped f (y ∷ xs) zero x e = ap (option_map f) e
get_mapped f (y ∷ xs) (suc i) x e = get_mapped f xs i x e

-- ---- the front of a path

names_append : (ds : List Declaration) (ps qs : List ℕ) → names_text ds (ps ++ qs) ≡ names_text ds ps ++ names_text ds qs
names_append ds ps qs =
    ap (flat_map-text) (filter_map-append (λ i. option_map name_of (slice_get ds i)) ps qs) ∙ flat_map-append (λ name. name ++ 46 ∷ []) (names_at ds ps) (names_at ds qs)
  where
    flat_map-text : List (List ℕ) → List ℕ
    flat_map-text names = Rattle.std.specs.Prelude.flat_map (λ name. name ++ 46 ∷ []) names

one_taken : (ds : List Declaration) (n q : ℕ) → q < n → names_text (take n ds) (q ∷ []) ≡ names_text ds (q ∷ [])
one_taken ds n q l = rw (slice_get-take ds n q l) refl

names_taken : (ds : List Declaration) (n : ℕ) (ps : List ℕ) → AllByRecursion (λ p. p < n) ps → names_text (take n ds) (reverse ps) ≡ names_text ds (reverse ps)
names_taken ds n [] h = refl
names_taken ds n (p ∷ ps) h =
    ap (names_text (take n ds)) (reverse-append (p ∷ []) ps) ∙ names_append (take n ds) (reverse ps) (p ∷ []) ∙ (λ j. names_taken ds n ps h.1 j ++ one_taken ds n p h.0 j)
    ∙ sym (names_append ds (reverse ps) (p ∷ [])) ∙ sym (ap (names_text ds) (reverse-append (p ∷ []) ps))

-- the scopes around a declaration, among all declarations
scopes_are : (ds : List Declaration) (i : ℕ) → scopes_text (take i ds) ≡ names_text ds (reverse (enclosing (take i ds)))
unfolding scopes_text
scopes_are ds i = names_taken ds i (enclosing (take i ds)) (all_weaker (λ x. x < length (take i ds)) (λ x. x < i) (enclosing (take i ds))
    (λ x l. omega (arith, length-take i ds)) (enclosing_below (take i ds)))

-- they are what paths begin with in the scope around
pub front_is : (ds : List Declaration) (i : ℕ) → scopes_text (take i ds) ≡ front ds (counted_from_one (parent (take i ds)))
front_is ds i = scopes_are ds i ∙ by_parent (parent (take i ds)) refl
  where
    by_parent : (o : Option ℕ) → parent (take i ds) ≡ o → names_text ds (reverse (enclosing (take i ds))) ≡ front ds (counted_from_one o)
    by_parent None e = ap (λ ps. names_text ds (reverse ps)) (around_none ds i e)
    by_parent (Some p) e = ap (λ ps. names_text ds (reverse ps)) (around_some ds i p e)

-- inside the scope of a row
pub front_next : (ds : List Declaration) (i : ℕ) (d : Declaration) → slice_get ds i ≡ Some d → front ds (suc i) ≡ scopes_text (take i ds) ++ (name_of d ++ 46 ∷ [])
front_next ds i d at =
    ap (names_text ds) (reverse-append (i ∷ []) (enclosing (take i ds))) ∙ names_append ds (reverse (enclosing (take i ds))) (i ∷ []) ∙ (λ j. sym (scopes_are ds i) j ++ one_name j)
  where
    one_name : names_text ds (i ∷ []) ≡ name_of d ++ 46 ∷ []
    one_name = rw at (append-nil (name_of d ++ 46 ∷ []))

-- ---- rows

pub no_variable : (text : List ℕ) (cs : List IdCode) (e : List Declaration) (r : Row) (d : Declaration) → IsRow text cs e r d → (r.kind ≡ kind.Var → ⊥) → is_variable d ≡ false
no_variable text cs e r (Declaration.Scope type name) row n = refl
no_variable text cs e r Declaration.Up row n = refl
no_variable text cs e r (Declaration.Var v) row n = absurd (n row.own.0)

pub some_variable : (text : List ℕ) (cs : List IdCode) (e : List Declaration) (r : Row) (d : Declaration) → IsRow text cs e r d → r.kind ≡ kind.Var → is_variable d ≡ true
some_variable text cs e r (Declaration.Scope type name) row k = let own = row.own.0 in cc
some_variable text cs e r Declaration.Up row k = let own = row.own.0 in cc
some_variable text cs e r (Declaration.Var v) row k = refl

pub declares_none : (s : HeadShown) (h : Header) (i : ℕ) (r : Row) (d : Declaration) → Views s h → slice_get s.rows i ≡ Some r
    → slice_get h.declarations i ≡ Some d → (r.kind ≡ kind.Var → ⊥) → is_variable d ≡ false
declares_none s h i r d v row at n = no_variable s.text h.codes (take i h.declarations) r d (row_of s h i r d v row at) n

pub declares_one : (s : HeadShown) (h : Header) (i : ℕ) (r : Row) (d : Declaration) → Views s h → slice_get s.rows i ≡ Some r
    → slice_get h.declarations i ≡ Some d → r.kind ≡ kind.Var → is_variable d ≡ true
declares_one s h i r d v row at k = some_variable s.text h.codes (take i h.declarations) r d (row_of s h i r d v row at) k

pub declared_there : (s : HeadShown) (h : Header) (i : ℕ) (r : Row) → Views s h → slice_get s.rows i ≡ Some r → (d : Declaration) × (slice_get h.declarations i ≡ Some d)
declared_there s h i r v row = there h.declarations i (omega (arith, rows_len s.text h.codes [] s.rows h.declarations v.rows, slice_get_within s.rows i r row))

pub none_selects : (names : List (List ℕ)) (e : List Declaration) (d : Declaration) → is_variable d ≡ false → is_selected names e d ≡ false
none_selects names e d h = rw h refl

pub the_variable : (d : Declaration) → is_variable d ≡ true → (v : Variable) × (d ≡ Declaration.Var v)
the_variable (Declaration.Scope type name) h = cc
the_variable Declaration.Up h = cc
the_variable (Declaration.Var v) h = (v, refl)

pub is_empty-map : {X Y : Type 0} (f : X → Y) (xs : List X) → is_empty (map f xs) ≡ (length xs == 0)
is_empty-map f [] = refl
is_empty-map f (x ∷ xs) = sym (ne_eqb (length (x ∷ xs)) 0 (λ e. omega (arith, e)))

-- ---- flags that were set

-- what is held stays right where flags are set and none is cleared
pub follows_kept : (names : List (List ℕ)) (order : List ℕ) (old new : List Bool) (front : List ℕ) (r : NameRun)
    → ((p : ℕ) (name : List ℕ) → slice_get names p ≡ Some name → get_or old p false ≡ true → get_or new p false ≡ true) → AreSame names new
    → Follows names order old front r → Follows names order new front r
follows_kept names order old new front r grows same f = record {
  up = f.up;
  within = f.within;
  front_len = f.front_len;
  inside = f.inside;
  outside = λ i l o. decided i l (f.outside i l o);
  whole = f.whole;
  same = same;
  order_is = f.order_is;
}
  where
    decided : (i : ℕ) → i < length names → IsDecided names order old front r.whole i → IsDecided names order new front r.whole i
    decided i l (inl d) = inl (d.0, grows (get_or order i 0) (text_at names order i) (text_is names order f.order_is i l) d.1, d.2)
    decided i l (inr none) = inr none

pub open_kept : (h : Header) (names : List (List ℕ)) (order : List ℕ) (old new : List Bool) (o : Open)
    → ((p : ℕ) (name : List ℕ) → slice_get names p ≡ Some name → get_or old p false ≡ true → get_or new p false ≡ true) → AreSame names new
    → AreOpen h names order old o
    → AreOpen h names order new o
open_kept h names order old new o grows same are = record { held = λ k s l at. follows_kept names order old new (front h.declarations s.scope) s.run grows same (are.held k s l at); same = same }

pub notes_grow : (names : List (List ℕ)) (front : List ℕ) (old new : List Bool) → Notes names front old new → (p : ℕ) (name : List ℕ)
    → slice_get names p ≡ Some name → get_or old p false ≡ true → get_or new p false ≡ true
notes_grow names front old new n p name at e = elim (n p name at) [ inl same ↦ same ∙ e | inr more ↦ more.0 ]

pub matched_grow : (test : List ℕ → Bool) (names : List (List ℕ)) (old new : List Bool) → Matched test names old new → (p : ℕ) (name : List ℕ)
    → slice_get names p ≡ Some name → get_or old p false ≡ true → get_or new p false ≡ true
matched_grow test names old new m p name at e = m p name at ∙ ap (λ b. b || test name) e

pub matched_same : (test : List ℕ → Bool) (names : List (List ℕ)) (old new : List Bool) → Matched test names old new → AreSame names old → AreSame names new
matched_same test names old new m same p q name a b = m p name a ∙ ap (λ k. k || test name) (same p q name a b) ∙ sym (m q name b)

pub open_matched : (test : List ℕ → Bool) (h : Header) (names : List (List ℕ)) (order : List ℕ) (old new : List Bool) (o : Open)
    → Matched test names old new → AreOpen h names order old o → AreOpen h names order new o
open_matched test h names order old new o m are = open_kept h names order old new o (matched_grow test names old new m) (matched_same test names old new m are.same) are

-- what is held of one scope more
pub held_more : (h : Header) (names : List (List ℕ)) (order : List ℕ) (flags : List Bool) (inside : List Inside) (entered next : ℕ) (inner : Inside) → next ≡ entered + 1
    → ((k : ℕ) (s : Inside) → k ≤ entered → slice_get inside k ≡ Some s → Follows names order flags (front h.declarations s.scope) s.run)
    → Follows names order flags (front h.declarations inner.scope) inner.run
    → (k : ℕ) (s : Inside) → k ≤ next → slice_get (set inside next inner) k ≡ Some s → Follows names order flags (front h.declarations s.scope) s.run
held_more h names order flags inside entered next inner e held new k s l at = elim (set_at inside next k inner s at) [
  | inl is ↦ subst (λ (x : Inside). Follows names order flags (front h.declarations x.scope) x.run) is.1 new
  | inr other ↦ held k s (omega (arith, l, e, other.0)) other.1
]

-- ---- scopes around a row

-- what a path begins with inside this scope, the scopes around the row continue with
abbrev pub IsAround : List Declaration → ℕ → ℕ → Type 0
IsAround ds row scope = (more : List ℕ) × (scopes_text (take row ds) ≡ front ds (suc scope) ++ more)

around_step : (ds : List Declaration) (row : ℕ) → row ≤ length ds → ((p : ℕ) → p < row → AllByRecursion (IsAround ds p) (enclosing (take p ds)))
    → AllByRecursion (IsAround ds row) (enclosing (take row ds))
around_step ds row within outer = by_parent (parent (take row ds)) refl
  where
    by_parent : (o : Option ℕ) → parent (take row ds) ≡ o → AllByRecursion (IsAround ds row) (enclosing (take row ds))
    by_parent None e = subst (AllByRecursion (IsAround ds row)) (sym (around_none ds row e)) tt
    by_parent (Some p) e =
        let before = parent_before ds row p e in
        let d = there ds p (omega (arith, before, within)) in
        let name = name_of d.0 ++ 46 ∷ [] in
        let here : scopes_text (take row ds) ≡ front ds (suc p) = front_is ds row ∙ ap (λ o. front ds (counted_from_one o)) e in
        subst (AllByRecursion (IsAround ds row)) (sym (around_some ds row p e)) (
          ([], here ∙ sym (append-nil (front ds (suc p)))),
          all_weaker (IsAround ds p) (IsAround ds row) (enclosing (take p ds))
              (λ s m. (m.0 ++ name, here ∙ front_next ds p d.0 d.1 ∙ ap (λ l. l ++ name) m.1 ∙ append_assoc (front ds (suc s)) m.0 name))
              (outer p before),
        )

around_up_to : (ds : List Declaration) (n row : ℕ) → row ≤ n → row ≤ length ds → AllByRecursion (IsAround ds row) (enclosing (take row ds))
around_up_to ds zero row l within = around_step ds row within (λ p b. absurd (omega (arith, b, l)))
around_up_to ds (suc n) row l within = around_step ds row within (λ p b. around_up_to ds n p (omega (arith, b, l)) (omega (arith, b, within)))

pub around_all : (ds : List Declaration) (row : ℕ) → row ≤ length ds → AllByRecursion (IsAround ds row) (enclosing (take row ds))
around_all ds row l = around_up_to ds row row (omega arith) l

-- of the scopes around a row these are left to be entered
pub record LeftAround (h : Header) (row : ℕ) (e : Enclosing) : Type 0 where
  pub rest : List ℕ
  pub leaves : LeavesScopes h row rest e
  pub each : AllByRecursion (IsAround h.declarations row) rest

pub left_first : (h : Header) (row most : ℕ) (e : Enclosing) → LeavesScopes h row (reverse (take most (enclosing (take row h.declarations)))) e → LeftAround h row e
left_first h row most e leaves = record {
  rest = reverse (take most (enclosing (take row h.declarations)));
  leaves = leaves;
  each = all_reverse (IsAround h.declarations row) (take most (enclosing (take row h.declarations)))
      (all_take (IsAround h.declarations row) most (enclosing (take row h.declarations))
      (around_all h.declarations row (omega (arith, leaves.within))));
}

-- the next one of them
pub record NextAround (h : Header) (row scope : ℕ) (e : Enclosing) : Type 0 where
  pub left : LeftAround h row e
  pub within : scope < length h.declarations
  pub more : IsAround h.declarations row scope

pub left_next : (h : Header) (row : ℕ) (e next : Enclosing) (scope : ℕ) (l : LeftAround h row e) → GivesNext h row l.rest next (Some scope) → NextAround h row scope next
left_next h row e next scope l g =
    let both = subst (AllByRecursion (IsAround h.declarations row)) g.1 l.each in
    record { left = record { rest = g.0; leaves = g.3; each = both.1 }; within = omega (arith, g.2, l.leaves.within); more = both.0 }

-- one scope more is entered
pub entered_next : (h : Header) (names : List (List ℕ)) (order path : List ℕ) (old mid new : List Bool) (o p : Open) (scope : ℕ)
    (more : (rest : List ℕ) × (path ≡ front h.declarations (suc scope) ++ rest)) → HasEntered h names order path old mid o
    → HasEntered h names order (front h.declarations (suc scope)) mid new p → HasEntered h names order path old new p
entered_next h names order path old mid new o p scope more a b = record {
  open_scopes = b.open_scopes;
  notes = notes_both names path old mid new a.notes (subst (λ l. Notes names l mid new) (sym more.1) (notes_behind names (front h.declarations (suc scope)) more.0 mid new b.notes));
}

-- the flags that were set by the scopes around are of names that select what is in them
pub notes_then_match : (names : List (List ℕ)) (front own path : List ℕ) (old mid new : List Bool) (some : Bool) → path ≡ front ++ own
    → Notes names front old mid → Matches (selects_path path) names mid new some → Matches (selects_path path) names old new some
notes_then_match names front own path old mid new some e n m = record {
  flags = λ p name at. m.flags p name at ∙ by_note p name (n p name at);
  any = m.any;
}
  where
    by_note : (p : ℕ) (name : List ℕ) → (get_or mid p false ≡ get_or old p false) ⊎ ((get_or mid p false ≡ true) × SelectsAll front name)
        → (get_or mid p false || selects_path path name) ≡ (get_or old p false || selects_path path name)
    by_note p name (inl same) = ap (λ b. b || selects_path path name) same
    by_note p name (inr more) = ap (λ b. b || selects_path path name) more.0 ∙ sym (or_true (get_or old p false) (selects_path path name) (ap (λ l. selects_path l name) e ∙ more.1 own))

-- ---- names in groups

pub take_group : {X : Type 0} (a b : ℕ) (xs : List X) → a ≤ b → b ≤ length xs → take b xs ≡ take a xs ++ slice_range xs a b
take_group a b xs l m =
    let here : b ≡ length (take a xs) + (b - a) = omega (arith, length-take-le a xs (omega arith)) in
    ap (λ n. take n xs) here ∙ ap (take (length (take a xs) + (b - a))) (sym (take-append-drop a xs)) ∙ take-append-add (take a xs) (drop a xs) (b - a)

not_empty : {X Y : Type 0} (f : X → Y) (xs : List X) → 0 < length xs → is_empty (map f xs) ≡ false
not_empty f xs l = is_empty-map f xs ∙ ne_eqb (length xs) 0 (λ e. omega (arith, e))

pub some_taken : {X Y : Type 0} (f : X → Y) (a : ℕ) (xs : List X) → 0 < a → a ≤ length xs → is_empty (map f (take a xs)) ≡ false
some_taken f a xs s l = not_empty f (take a xs) (omega (arith, length-take-le a xs l))

pub some_grouped : {X Y : Type 0} (f : X → Y) (a b : ℕ) (xs : List X) → a < b → b ≤ length xs → is_empty (map f (slice_range xs a b)) ≡ false
some_grouped f a b xs s l = not_empty f (slice_range xs a b) (omega (arith, length-drop a xs, length-take-le (b - a) (drop a xs) (omega (arith, length-drop a xs))))
