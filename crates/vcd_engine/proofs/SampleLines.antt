-- The lines of a time of a sample, row by row.
use Rattle.vcd_engine.proofs.Cited.{◌≡◌, ℕ, Bool, true, false, List, [], ◌∷◌, ◌++◌, take, slice_get, flat_map, decimal, Some, refl, sym, ap, ◌∙◌, option_map, option_and_then, unwrap_or, Declaration, Variable, code_of, path_of, words, Header, final_value, BodyItem, is_settled, sample_lines, shown, Selected, value_now, parts, IsViewOf, HeadView, Row, row_of, codes_shown, held_at, value_in, value_at_size, Table, shown_are, AreHeld}
use Rattle.std.proofs.lemmas.List.{append_assoc, append-nil}
use Rattle.vcd_engine.proofs.SelectedLines.{declared_at}

-- ---- a line

-- the words of a line, as they are written
abbrev pub line_text : (time path value : List ℕ) → List ℕ
line_text time path value = ((((time ++ 32 ∷ []) ++ path) ++ 32 ∷ []) ++ value) ++ 10 ∷ []

line_is : (time path value : List ℕ) → line_text time path value ≡ words (time ∷ path ∷ value ∷ [])
line_is time path value =
    ap (λ l. l ++ 10 ∷ [])
    (append_assoc ((time ++ 32 ∷ []) ++ path) (32 ∷ []) value ∙ append_assoc (time ++ 32 ∷ []) path (32 ∷ value) ∙ append_assoc time (32 ∷ []) (path ++ 32 ∷ value))

module _ (v : HeadView) (h : Header) (i : ℕ) (r : Row) (x : Variable) (items : List BodyItem) (time : ℕ) (views : IsViewOf v h)
    (at : slice_get v.rows.now i ≡ Some r) (declared : slice_get h.declarations i ≡ Some (Declaration.Var x)) where
  code_there : slice_get h.codes r.code ≡ Some (code_of x)
  code_there = (row_of (parts v) h i r (Declaration.Var x) views at declared).own.2

  -- the row says whether it is an event
  pub event_is : (b : Bool) → b ≡ unwrap_or (option_map (λ c. c.event) (slice_get h.codes r.code)) false → (code_of x).event ≡ b
  event_is b e = sym (e ∙ ap (λ o. unwrap_or (option_map (λ c. c.event) o) false) code_there)

  -- an event has no line
  pub no_line : (code_of x).event ≡ true → sample_lines (declared_at h.declarations i x ∷ []) items time ≡ []
  no_line e = rw e refl

  -- the value that the table holds is that of the variable
  value_is : (t : Table) → AreHeld t h items → (code_of x).event ≡ false → value_in (codes_shown v) t r.code ≡ final_value items (code_of x)
  value_is t held e =
      ap (λ cs. value_in cs t r.code) (shown_are v h views)
      ∙ ap (option_and_then (λ c. value_at_size c.size (held_at t r.code))) code_there
      ∙ held.values.each r.code (code_of x) code_there e

  -- what is written for any other is its line
  pub line_of : (t : Table) → AreHeld t h items → is_settled items time ≡ false → (code_of x).event ≡ false
      → line_text (decimal time) (path_of (take i h.declarations) (Declaration.Var x)) (shown (value_in (codes_shown v) t r.code)) ≡ sample_lines (declared_at h.declarations i x ∷ []) items time
  line_of t held late e =
      let value = value_is t held e ∙ sym (value_now items (code_of x) time late) in
      rw e (line_is (decimal time) (path_of (take i h.declarations) (Declaration.Var x)) (shown (value_in (codes_shown v) t r.code))
      ∙ ap (λ o. words (decimal time ∷ path_of (take i h.declarations) (Declaration.Var x) ∷ shown o ∷ [])) value ∙ sym (append-nil _))

-- ---- the lines of all variables

-- that of one
abbrev pub line_at : List BodyItem → ℕ → Selected → List ℕ
line_at items time v = sample_lines (v ∷ []) items time

pub lines_are : (items : List BodyItem) (time : ℕ) (vs : List Selected) → flat_map (line_at items time) vs ≡ sample_lines vs items time
lines_are items time [] = refl
lines_are items time (v ∷ vs) = rw (lines_are items time vs) (ap (λ l. l ++ sample_lines vs items time) (append-nil _))
