-- The flags of codes, set row by row.
use Rattle.vcd_head.proofs.Cited.{◌≡◌, ◌≢◌, ℕ, ◌+◌, ◌<◌, ◌≤◌, ◌==◌, ◌&&◌, ◌||◌, Bool, true, false, cond, List, [], ◌∷◌, inl, inr, length, take, min, set, get_or, filter_map, bytes_eq, slice_get, unwrap_or, Some, None, refl, sym, ap, ◌∙◌, arith, cases_eq, cases_lt, eq-eqb, ne_eqb, or-false, and-false, take_all, length-map-range_with_len, get_or-set_other, get_or-set_same, get_or_past, list_any-append, same_Some, slice_get-get_or, slice_get_within, unwrap_or-slice_get, bytes_eq-Decides, AllZip-long, Declaration, Variable, IdCode, code_of, path_of, Header, Selected, is_among, is_selected, with_path, is_marked, HeadShown, IsCode, IsIndex, IsRow, Views, Row, row_at, rows_len, same_place, the_type, sameb, marked_places}
use Rattle.vcd_model.specs.Selection.{selected, selects_code}
use Rattle.vcd_head.specs.Marks.{marks_of}
use Rattle.vcd_head.proofs.MarkedHead.{marks_are}
use Rattle.vcd_head.proofs.SelectionLemmas.{marked_is, selected_next}
use Rattle.vcd_view.specs.declared.view.Kind.TheVariants as kind

-- ---- codes of equal text have one index

-- an index is that of a code just where the texts are equal
place_test : (ks : List IdCode) (index : List ℕ) (p q : ℕ) (k j : IdCode) → IsIndex ks index → slice_get ks p ≡ Some k → slice_get ks q ≡ Some j
    → (p == q) ≡ bytes_eq j.text k.text
place_test ks index p q k j h a b = by_test (bytes_eq j.text k.text) refl
  where
    by_test : (e : Bool) → bytes_eq j.text k.text ≡ e → (p == q) ≡ e
    by_test true e = eq-eqb p q (same_place ks index p q k j h a b (sym ((bytes_eq-Decides j.text k.text).0 e)))
    by_test false e = ne_eqb p q (λ same.
        let one : j ≡ k = same_Some j k (sym b ∙ ap (slice_get ks) (sym same) ∙ a) in
        let equal = (bytes_eq-Decides j.text k.text).1 (ap (λ (c : IdCode). c.text) one) in
        cc)

-- ---- one declaration more

-- which codes are selected with one declaration more
code_next : (names : List (List ℕ)) (ds : List Declaration) (i : ℕ) (d : Declaration) (c : IdCode) → slice_get ds i ≡ Some d
    → selects_code (selected names (take (i + 1) ds)) c ≡
    (selects_code (selected names (take i ds)) c || selects_code (filter_map (λ o. o) (with_path names (take i ds) d ∷ [])) c)
code_next names ds i d c at =
    ap (λ vs. selects_code vs c) (selected_next names ds i d at)
    ∙ list_any-append (λ s. bytes_eq s.variable.code c.text) (selected names (take i ds)) (filter_map (λ o. o) (with_path names (take i ds) d ∷ []))

-- a variable that is selected has the code
own_code : (names : List (List ℕ)) (earlier : List Declaration) (v : Variable) (c : IdCode)
    → selects_code (filter_map (λ o. o) (with_path names earlier (Declaration.Var v) ∷ [])) c ≡
    (is_selected names earlier (Declaration.Var v) && bytes_eq v.code c.text)
own_code names earlier v c = by_test (is_selected names earlier (Declaration.Var v))
  where
    one : Selected
    one = record { path = path_of earlier (Declaration.Var v); variable = v }

    by_test : (b : Bool) → selects_code (filter_map (λ o. o) (cond b (Some one) None ∷ [])) c ≡ (b && bytes_eq v.code c.text)
    by_test true = or-false (bytes_eq v.code c.text)
    by_test false = refl

-- ---- one row more

-- the row is a variable's, it is marked, and its code has this index
abbrev flags_it : Row → ℕ → ℕ → Bool
flags_it r m place = sameb the_type r.kind kind.Var && (m == 1) && (place == r.code)

-- a mark is 1 just where the variable is selected
mark_test : (names : List (List ℕ)) (ds : List Declaration) (i m : ℕ) (v : Variable) → slice_get ds i ≡ Some (Declaration.Var v)
    → slice_get (marks_of names ds) i ≡ Some m → (m == 1) ≡ is_selected names (take i ds) (Declaration.Var v)
mark_test names ds i m v declared at =
    ap (λ o. unwrap_or o 0 == 1) (sym at) ∙ ap (λ f. f i) (marks_are names ds) ∙ marked_is names ds i v declared

-- which codes are selected with one row more
selects_next : (s : HeadShown) (h : Header) (names : List (List ℕ)) (i : ℕ) (r : Row) (m place : ℕ) (c : IdCode) → Views s h
    → slice_get s.rows i ≡ Some r → slice_get (marks_of names h.declarations) i ≡ Some m → slice_get h.codes place ≡ Some c
    → selects_code (selected names (take (i + 1) h.declarations)) c ≡ (selects_code (selected names (take i h.declarations)) c || flags_it r m place)
selects_next s h names i r m place c views at mark code = by_kind (row_at s h i r views at)
  where
    front : List Declaration
    front = take i h.declarations

    by_kind : (d : Declaration) × (slice_get h.declarations i ≡ Some d) × IsRow s.text h.codes front r d
        → selects_code (selected names (take (i + 1) h.declarations)) c ≡ (selects_code (selected names front) c || flags_it r m place)
    by_kind (Declaration.Scope type name, is, row) = code_next names h.declarations i (Declaration.Scope type name) c is ∙ rw row.own.0 refl
    by_kind (Declaration.Up, is, row) = code_next names h.declarations i Declaration.Up c is ∙ rw row.own.0 refl
    by_kind (Declaration.Var v, is, row) =
        let marked : (m == 1) ≡ is_selected names front (Declaration.Var v) = mark_test names h.declarations i m v is mark in
        let placed : (place == r.code) ≡ bytes_eq v.code c.text = place_test h.codes s.index place r.code c (code_of v) views.index code row.own.2 in
        code_next names h.declarations i (Declaration.Var v) c is
        ∙ ap (λ b. selects_code (selected names front) c || b) (own_code names front v c ∙ rw (row.own.0, marked, placed) refl)

-- ---- a turn of the loop

-- the flags are 1 for the codes of the marked variables of the first rows
abbrev pub HaveFlags : HeadShown → List ℕ → List ℕ → ℕ → Type 0
HaveFlags s marks flags i =
    (h : Header) (names : List (List ℕ)) → Views s h → marks ≡ marks_of names h.declarations → (place : ℕ) (c : IdCode)
    → slice_get h.codes place ≡ Some c → is_marked flags place ≡ selects_code (selected names (take i h.declarations)) c

-- the row and the mark at an index
pub record AreAt (rows : List Row) (marks : List ℕ) (i : ℕ) (r : Row) (m : ℕ) : Type 0 where
  row : slice_get rows i ≡ Some r
  mark : slice_get marks i ≡ Some m

-- what was read from both lists in turn
pub are_at : (rows : List Row) (marks : List ℕ) (i : ℕ) (r : Row) (m : ℕ) → (i < length rows) × (i < length marks)
    × ((d : Row) → r ≡ get_or rows i d) × ((d : ℕ) → m ≡ get_or marks i d) → AreAt rows marks i r m
are_at rows marks i r m t = record {
  row = slice_get-get_or rows i r t.0 ∙ ap Some (sym (t.2 r));
  mark = slice_get-get_or marks i m t.1 ∙ ap Some (sym (t.3 m));
}

-- before the first row all flags are 0
pub flagged_none : (s : HeadShown) (marks flags : List ℕ) → ((i : ℕ) → i < length flags → get_or flags i 0 ≡ 0) → HaveFlags s marks flags 0
unfolding selected
flagged_none s marks flags zeros h names views is place c code = ap (λ x. x == 1) (unwrap_or-slice_get flags place 0 ∙ zero_there)
  where
    zero_there : get_or flags place 0 ≡ 0
    zero_there = elim (cases_lt place (length flags)) [
      | inl lt ↦ zeros place lt
      | inr le ↦ get_or_past flags place 0 le
    ]

-- after the last row they are those of the selected variables
pub flagged_all : (s : HeadShown) (marks flags : List ℕ) (i : ℕ) (h : Header) (names : List (List ℕ)) (place : ℕ) (c : IdCode)
    → i ≡ min (length s.rows) (length marks) → HaveFlags s marks flags i → Views s h → marks ≡ marks_of names h.declarations
    → slice_get h.codes place ≡ Some c → is_marked flags place ≡ selects_code (selected names h.declarations) c
unfolding marks_of
flagged_all s marks flags i h names place c end so_far views is code =
    let rows = rows_len s.text h.codes [] s.rows h.declarations views.rows in
    let mark : ℕ → ℕ = λ (j : ℕ). cond (is_among (marked_places names h.declarations) j) 1 0 in
    let few : length marks ≡ length h.declarations = ap length is ∙ length-map-range_with_len mark 0 (length h.declarations) in
    so_far h names views is place c code ∙ ap (λ ds. selects_code (selected names ds) c) (take_all i h.declarations (omega arith))

-- one flag is set
flag_set : (flags : List ℕ) (p i : ℕ) → p < length flags → is_marked (set flags p 1) i ≡ ((i == p) || is_marked flags i)
flag_set flags p i l = ap (λ x. x == 1) (unwrap_or-slice_get (set flags p 1) i 0) ∙ elim (cases_eq i p) [
  | inl e ↦ rw (eq-eqb i p e, e) (ap (λ x. x == 1) (get_or-set_same flags p 1 0 l))
  | inr n ↦ rw (ne_eqb i p n) (ap (λ x. x == 1) (get_or-set_other flags p i 1 0 n ∙ sym (unwrap_or-slice_get flags i 0)))
]

or_turned : (x y : Bool) → (x || y) ≡ (y || x)
or_turned true true = refl
or_turned true false = refl
or_turned false true = refl
or_turned false false = refl

module _ (s : HeadShown) (marks flags : List ℕ) (i : ℕ) (r : Row) (m : ℕ) (so_far : HaveFlags s marks flags i) (there : AreAt s.rows marks i r m) where
  -- a flag is 1 that was, or that the row sets
  next : (new : List ℕ) → ((place : ℕ) → is_marked new place ≡ (flags_it r m place || is_marked flags place)) → HaveFlags s marks new (i + 1)
  next new e h names views is place c code =
      e place ∙ ap (λ b. flags_it r m place || b) (so_far h names views is place c code)
      ∙ or_turned (flags_it r m place) (selects_code (selected names (take i h.declarations)) c)
      ∙ sym (selects_next s h names i r m place c views there.row (ap (λ l. slice_get l i) (sym is) ∙ there.mark) code)

  -- a marked variable: the flag of its code is set
  pub flagged_next : sameb the_type r.kind kind.Var ≡ true → m ≡ 1 → r.code < length flags → HaveFlags s marks (set flags r.code 1) (i + 1)
  flagged_next var one few = next (set flags r.code 1) (λ place. flag_set flags r.code place few ∙ rw (var, one) refl)

  -- no variable: no flag is set
  pub flagged_other : sameb the_type r.kind kind.Var ≡ false → HaveFlags s marks flags (i + 1)
  flagged_other other = next flags (λ place. rw other refl)

  -- no mark: no flag is set
  pub flagged_unmarked : m ≢ 1 → HaveFlags s marks flags (i + 1)
  flagged_unmarked differs = next flags (λ place. rw (ne_eqb m 1 differs, and-false (sameb the_type r.kind kind.Var)) refl)

  -- the code of a variable's row is among the codes
  pub flagged_outside : sameb the_type r.kind kind.Var ≡ true → length s.codes ≤ r.code → HaveFlags s marks flags (i + 1)
  flagged_outside var outside h names views is place c code = absurd (by_kind (row_at s h i r views there.row))
    where
      by_kind : (d : Declaration) × (slice_get h.declarations i ≡ Some d) × IsRow s.text h.codes (take i h.declarations) r d → ⊥
      by_kind (Declaration.Scope type name, declared, row) = let e = rw row.own.0 at var in cc
      by_kind (Declaration.Up, declared, row) = let e = rw row.own.0 at var in cc
      by_kind (Declaration.Var v, declared, row) =
          omega (arith, AllZip-long (IsCode s.text) s.codes h.codes views.codes, slice_get_within h.codes r.code (code_of v) row.own.2)
