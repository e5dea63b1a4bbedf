-- The lines of the selected variables, row by row.
use Rattle.vcd_engine.proofs.Cited.{◌≡◌, ◌≢◌, ℕ, ◌+◌, refl, Bool, true, false, cond, List, [], ◌∷◌, ◌++◌, length, take, drop, slice_get, flat_map, filter_map, Option, Some, None, sym, ap, subst, ◌∙◌, Appends, take-length, take-append-drop, filter_map-append, flat_map-append, each, each_after, Declaration, Variable, path_of, Header, Selected, is_selected, with_path, each_after-append, AppendsSome, appends-first, appends-some, is_marked, marks_of, HeadShown, IsRow, Views, Row, rows_len, row_at, marked_is, marks_are, selected_next}
use Rattle.std.proofs.lemmas.List.{append-nil}
use Rattle.vcd_model.specs.Selection.{selected}
use Rattle.vcd_view.specs.declared.view.Kind.TheVariants as kind

-- a variable that is declared at an index, with its path
abbrev pub declared_at : List Declaration → ℕ → Variable → Selected
declared_at ds i x = record { path = path_of (take i ds) (Declaration.Var x); variable = x }

-- what is selected of the first declarations, and of the others
selected_front : (names : List (List ℕ)) (ds : List Declaration) (n : ℕ) → (more : List Selected) × (selected names ds ≡ selected names (take n ds) ++ more)
unfolding selected
selected_front names ds n =
    let front = each_after (with_path names) [] (take n ds) in
    let back = each_after (with_path names) (take n ds) (drop n ds) in (
      filter_map (λ o. o) back,
      ap (λ l. filter_map (λ o. o) (each (with_path names) l)) (sym (take-append-drop n ds))
          ∙ ap (filter_map (λ o. o)) (each_after-append (with_path names) [] (take n ds) (drop n ds)) ∙ filter_map-append (λ o. o) front back,
    )

-- the lines of the first rows
abbrev pub rows_before : (Selected → List ℕ) → List (List ℕ) → List Declaration → ℕ → List ℕ
rows_before line names ds i = flat_map line (selected names (take i ds))

module _ (line : Selected → List ℕ) (names : List (List ℕ)) where
  -- before the first row there is none
  pub rows_none : (ds : List Declaration) → rows_before line names ds 0 ≡ []
  unfolding selected
  rows_none ds = refl

  rows_next : (ds : List Declaration) (i : ℕ) (d : Declaration) (o : Option Selected) → slice_get ds i ≡ Some d → with_path names (take i ds) d ≡ o
      → rows_before line names ds (i + 1) ≡ rows_before line names ds i ++ flat_map line (filter_map (λ p. p) (o ∷ []))
  rows_next ds i d o at e =
      ap (flat_map line) (selected_next names ds i d at ∙ ap (λ p. selected names (take i ds) ++ filter_map (λ q. q) (p ∷ [])) e)
      ∙ flat_map-append line (selected names (take i ds)) (filter_map (λ p. p) (o ∷ []))

  -- a declaration that is not selected adds none
  rows_same : (ds : List Declaration) (i : ℕ) (d : Declaration) → slice_get ds i ≡ Some d → with_path names (take i ds) d ≡ None
      → rows_before line names ds (i + 1) ≡ rows_before line names ds i
  rows_same ds i d at none = rows_next ds i d None at none ∙ append-nil (rows_before line names ds i)

  module _ (s : HeadShown) (h : Header) (i : ℕ) (marks : List ℕ) (views : Views s h) (marked : marks ≡ marks_of names h.declarations) where
    -- a row that is no variable's
    pub rows_other : (r : Row) → slice_get s.rows i ≡ Some r → r.kind ≢ kind.Var → rows_before line names h.declarations (i + 1) ≡ rows_before line names h.declarations i
    rows_other r at other = by_kind (row_at s h i r views at)
      where
        by_kind : (d : Declaration) × (slice_get h.declarations i ≡ Some d) × IsRow s.text h.codes (take i h.declarations) r d
            → rows_before line names h.declarations (i + 1) ≡ rows_before line names h.declarations i
        by_kind (Declaration.Scope type name, is, row) = rows_same h.declarations i (Declaration.Scope type name) is refl
        by_kind (Declaration.Up, is, row) = rows_same h.declarations i Declaration.Up is refl
        by_kind (Declaration.Var v, is, row) = absurd (other row.own.0)

    -- the mark of a variable says whether it is selected
    mark_is : (x : Variable) (b : Bool) → slice_get h.declarations i ≡ Some (Declaration.Var x) → is_marked marks i ≡ b → is_selected names (take i h.declarations) (Declaration.Var x) ≡ b
    mark_is x b declared e = sym (marked_is names h.declarations i x declared) ∙ sym (ap (λ f. f i) (marks_are names h.declarations)) ∙ sym (ap (λ m. is_marked m i) marked) ∙ e

    pub rows_unmarked : (x : Variable) → slice_get h.declarations i ≡ Some (Declaration.Var x) → is_marked marks i ≡ false
        → rows_before line names h.declarations (i + 1) ≡ rows_before line names h.declarations i
    rows_unmarked x declared e = rows_same h.declarations i (Declaration.Var x) declared (ap (λ b. cond b (Some (declared_at h.declarations i x)) None) (mark_is x false declared e))

    pub rows_marked : (x : Variable) → slice_get h.declarations i ≡ Some (Declaration.Var x) → is_marked marks i ≡ true
        → rows_before line names h.declarations (i + 1) ≡ rows_before line names h.declarations i ++ line (declared_at h.declarations i x)
    rows_marked x declared e =
        rows_next h.declarations i (Declaration.Var x) (Some (declared_at h.declarations i x)) declared (ap (λ b. cond b (Some (declared_at h.declarations i x)) None) (mark_is x true declared e))
        ∙ ap (λ l. rows_before line names h.declarations i ++ l) (append-nil (line (declared_at h.declarations i x)))

    -- the lines up to one that was not wholly written
    pub rows_some : (old mid new : Option (List ℕ)) (x : Variable) → slice_get h.declarations i ≡ Some (Declaration.Var x) → is_marked marks i ≡ true
        → Appends old mid (rows_before line names h.declarations i) → AppendsSome mid new (line (declared_at h.declarations i x))
        → AppendsSome old new (flat_map line (selected names h.declarations))
    rows_some old mid new x declared e front part =
        let m = selected_front names h.declarations (i + 1) in
        let whole : flat_map line (selected names h.declarations) ≡ (rows_before line names h.declarations i ++ line (declared_at h.declarations i x)) ++ flat_map line m.0 =
        ap (flat_map line) m.1 ∙ flat_map-append line (selected names (take (i + 1) h.declarations)) m.0 ∙ ap (λ l. l ++ flat_map line m.0) (rows_marked x declared e) in
        subst (AppendsSome old new) (sym whole) (appends-first old new _ (flat_map line m.0) (appends-some old mid new _ _ front part))

    -- the lines of all rows
    pub rows_all : i ≡ length s.rows → rows_before line names h.declarations i ≡ flat_map line (selected names h.declarations)
    rows_all end = ap (rows_before line names h.declarations) (end ∙ rows_len s.text h.codes [] s.rows h.declarations views.rows)
        ∙ ap (λ l. flat_map line (selected names l)) (take-length h.declarations)
