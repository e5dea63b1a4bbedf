-- Marks that lead on: what one more row gives, and the lines up to where a mark leads.
use Rattle.vcd_engine.proofs.Cited.{◌≡◌, ◌≢◌, ℕ, zero, suc, ◌+◌, ◌-◌, ◌<◌, ◌≤◌, ◌==◌, ◌⊎◌, Bool, true, false, not, ◌&&◌, List, ◌++◌, length, take, set, get_or, slice_get, flat_map, Some, inl, inr, refl, sym, ap, subst, ◌∙◌, arith, MatchBool, option_map, unwrap_or, cases_eq, eqb-true, ne_eqb, get_or-set_other, get_or-set_same, length-set, take_all, unwrap_or-slice_get, Declaration, Header, BodyItem, sample_lines, selected, is_marked, marks_of, parts, IsViewOf, HeadView, Row, HaveNoLine, IsSelectedAt, LeadOn, Leads, rows_on}
use Rattle.std.proofs.lemmas.List.{append-nil}
use Rattle.vcd_view.specs.declared.view.Kind.TheVariants as kind
use Rattle.vcd_engine.proofs.SampleLines.{event_is, line_at, lines_are, no_line}
use Rattle.vcd_engine.proofs.SelectedLines.{rows_before, rows_marked, rows_other, rows_unmarked}
use Rattle.vcd_engine.proofs.Variables.{is_declared}

-- ---- rows without a line

module _ (names : List (List ℕ)) (ds : List Declaration) where
  -- the lines of the first rows
  abbrev lines_to : List BodyItem → ℕ → ℕ → List ℕ
  lines_to items time n = sample_lines (selected names (take n ds)) items time

  pub no_rows : (i : ℕ) → HaveNoLine names ds i 0
  no_rows i k l items time = let none : i + k ≡ i = omega (arith, l) in ap (lines_to items time) none

  -- one, and those right after it
  pub one_more : (i n : ℕ) → HaveNoLine names ds i 1 → HaveNoLine names ds (i + 1) n → HaveNoLine names ds i (n + 1)
  one_more i n one more zero l items time = let none : i + 0 ≡ i = omega arith in ap (lines_to items time) none
  one_more i n one more (suc k) l items time =
      let same : i + suc k ≡ (i + 1) + k = omega arith in
      ap (lines_to items time) same ∙ more k (omega (arith, l)) items time ∙ one 1 (omega arith) items time

  pub fewer_rows : (i m n : ℕ) → m ≤ n → HaveNoLine names ds i n → HaveNoLine names ds i m
  fewer_rows i m n l none k w = none k (omega (arith, l, w))

  -- the same by their lines
  pub rows_on_same : (items : List BodyItem) (time i n to : ℕ) → HaveNoLine names ds i n → i ≤ to → to ≤ i + n
      → rows_before (line_at items time) names ds to ≡ rows_before (line_at items time) names ds i
  rows_on_same items time i n to none low high =
      let k = to - i in
      let at : to ≡ i + k = omega (arith, low) in
      ap (rows_before (line_at items time) names ds) at ∙ lines_are items time (selected names (take (i + k) ds))
      ∙ none k (omega (arith, low, high)) items time ∙ sym (lines_are items time (selected names (take i ds)))

-- ---- a row

module _ (v : HeadView) (h : Header) (names : List (List ℕ)) (i mark : ℕ) (r : Row) (views : IsViewOf v h) (at : slice_get v.rows.now i ≡ Some r)
    (is : get_or (marks_of names h.declarations) i 0 ≡ mark) where
  marked_by : (b : Bool) → (mark == 1) ≡ b → is_marked (marks_of names h.declarations) i ≡ b
  marked_by b e = ap (λ m. m == 1) (unwrap_or-slice_get (marks_of names h.declarations) i 0 ∙ is) ∙ e

  none_by : ((items : List BodyItem) (time : ℕ) → rows_before (line_at items time) names h.declarations (i + 1) ≡ rows_before
      (line_at items time) names h.declarations i) → HaveNoLine names h.declarations i 1
  none_by same zero l items time = let none : i + 0 ≡ i = omega arith in ap (lines_to names h.declarations items time) none
  none_by same (suc k) l items time =
      let one : i + suc k ≡ i + 1 = omega (arith, l) in
      ap (lines_to names h.declarations items time) one
      ∙ sym (lines_are items time (selected names (take (i + 1) h.declarations))) ∙ same items time ∙ lines_are items time (selected names (take i h.declarations))

  -- one that is no variable's has no line
  pub other_has_none : (r.kind ≡ kind.Scope) ⊎ (r.kind ≡ kind.Up) → HaveNoLine names h.declarations i 1
  other_has_none other = none_by (λ items time. rows_other (line_at items time) names (parts v) h i (marks_of names h.declarations) views refl r at
      (λ var. elim other [ inl e ↦ cc | inr e ↦ cc ]))

  -- a variable's has one where it is marked and no event's
  pub variable_has : r.kind ≡ kind.Var → (marked event : Bool) → (mark == 1) ≡ marked → event ≡ unwrap_or (option_map (λ c. c.event) (slice_get h.codes r.code)) false
      → MatchBool (marked && not event) (IsSelectedAt names h.declarations i) (HaveNoLine names h.declarations i 1)
  variable_has var false event m e =
      let d = is_declared (parts v) h i views (r, at, var) in
      none_by (λ items time. rows_unmarked (line_at items time) names (parts v) h i (marks_of names h.declarations) views refl d.0 d.1 (marked_by false m))
  variable_has var true false m e =
      let d = is_declared (parts v) h i views (r, at, var) in
      record { variable = d.0; declared = d.1; marked = marked_by true m }
  variable_has var true true m e =
      let d = is_declared (parts v) h i views (r, at, var) in
      none_by (λ items time.
      let event = event_is v h i r d.0 items time views at d.1 true e in
      rows_marked (line_at items time) names (parts v) h i (marks_of names h.declarations) views refl d.0 d.1 (marked_by true m)
      ∙ ap (λ l. rows_before (line_at items time) names h.declarations i ++ l) (no_line v h i r d.0 items time views at d.1 event)
      ∙ append-nil (rows_before (line_at items time) names h.declarations i))

-- the mark of a selected variable is 1
pub mark_of_shown : (names : List (List ℕ)) (ds : List Declaration) (i : ℕ) → IsSelectedAt names ds i → get_or (marks_of names ds) i 0 ≡ 1
mark_of_shown names ds i shown = sym (unwrap_or-slice_get (marks_of names ds) i 0) ∙ eqb-true (unwrap_or (slice_get (marks_of names ds) i) 0) 1 shown.marked

-- ---- marks from the last one on

-- those from an index on lead on, and this many rows from there have no line
pub record LeadFrom (names : List (List ℕ)) (ds : List Declaration) (marks : List ℕ) (from without : ℕ) : Type 0 where
  pub each : (i : ℕ) → from ≤ i → i < length marks → Leads names ds i (get_or marks i 0)
  pub none : HaveNoLine names ds from without

module _ (names : List (List ℕ)) (ds : List Declaration) (marks : List ℕ) (i without : ℕ) (within : i < length marks) (so_far : LeadFrom names ds marks (i + 1) without) where
  -- one row more that has a line
  pub leads_shown : IsSelectedAt names ds i → get_or marks i 0 ≡ 1 → LeadFrom names ds marks i 0
  leads_shown shown one = record {
    each = λ j low high. elim (cases_eq j i) [
      | inl e ↦ rw (e, one) shown
      | inr n ↦ so_far.each j (omega (arith, low, n)) high
    ];
    none = no_rows names ds i;
  }

  -- one that has none, whose mark passes some of those
  pub leads_past : HaveNoLine names ds i 1 → (mark : ℕ) → mark ≢ 1 → rows_on mark ≤ without + 1 → LeadFrom names ds (set marks i mark) i (without + 1)
  leads_past one mark other few = record {
    each = λ j low high. elim (cases_eq j i) [
      | inl e ↦ rw (e, get_or-set_same marks i mark 0 within, ne_eqb mark 1 other) (fewer_rows names ds i (rows_on mark) (without + 1) few (one_more names ds i without one so_far.none))
      | inr n ↦ rw (get_or-set_other marks i j mark 0 n) (so_far.each j (omega (arith, low, n)) (omega (arith, high, length-set marks i mark)))
    ];
    none = one_more names ds i without one so_far.none;
  }

-- ---- the lines up to where a mark leads

module _ (names : List (List ℕ)) (h : Header) (marks : List ℕ) (lead : LeadOn names h.declarations marks) (i : ℕ) (within : i < length marks) where
  -- a mark of 1 is of a variable that is selected
  pub leads_shown_at : get_or marks i 0 ≡ 1 → IsSelectedAt names h.declarations i
  leads_shown_at one = subst (Leads names h.declarations i) one (lead.each i within)

  -- any other leads past rows that add no line
  pub leads_same : (items : List BodyItem) (time to : ℕ) → get_or marks i 0 ≢ 1 → i ≤ to → to ≤ i + rows_on (get_or marks i 0)
      → rows_before (line_at items time) names h.declarations to ≡ rows_before (line_at items time) names h.declarations i
  leads_same items time to other low high = rows_on_same names h.declarations items time i (rows_on (get_or marks i 0)) to none low high
    where
      none : HaveNoLine names h.declarations i (rows_on (get_or marks i 0))
      none = subst (λ b. MatchBool b (IsSelectedAt names h.declarations i) (HaveNoLine names h.declarations i (rows_on (get_or marks i 0)))) (ne_eqb (get_or marks i 0) 1 other) (lead.each i within)

-- the lines of all rows, where the marks end
pub lines_all : (names : List (List ℕ)) (h : Header) (marks : List ℕ) → LeadOn names h.declarations marks → (items : List BodyItem) (time to : ℕ)
    → length marks ≤ to → rows_before (line_at items time) names h.declarations to ≡ sample_lines (selected names h.declarations) items time
lines_all names h marks lead items time to past =
    ap (λ ds. flat_map (line_at items time) (selected names ds)) (take_all to h.declarations (omega (arith, past, lead.len))) ∙ lines_are items time (selected names h.declarations)
