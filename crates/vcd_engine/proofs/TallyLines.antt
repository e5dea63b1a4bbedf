-- The row of a variable in the report of `edges`.
use Rattle.vcd_engine.proofs.Cited.{◌≡◌, ℕ, List, [], ◌∷◌, ◌++◌, take, get_or, slice_get, decimal, flat_map, refl, Some, ap, ◌∙◌, append_assoc, Declaration, Variable, code_of, path_of, counts_for, edges_line, words, Header, BodyItem, selected, parts, IsViewOf, HeadView, Row, row_of, counts_at, Table, AreTallied}
use Rattle.vcd_model.specs.Edges.{edges_close}
use Rattle.vcd_engine.proofs.SelectedLines.{declared_at}

-- a path and three counters, as they are written
abbrev pub row_text : List ℕ → List ℕ → List ℕ
row_text path ns = (((path ++ 32 ∷ decimal (get_or ns 0 0)) ++ 32 ∷ decimal (get_or ns 1 0)) ++ 32 ∷ decimal (get_or ns 2 0)) ++ 10 ∷ []

text_is : (path a b c : List ℕ) → (((path ++ 32 ∷ a) ++ 32 ∷ b) ++ 32 ∷ c) ++ 10 ∷ [] ≡ words (path ∷ a ∷ b ∷ c ∷ [])
text_is path a b c = ap (λ l. l ++ 10 ∷ []) (append_assoc (path ++ 32 ∷ a) (32 ∷ b) (32 ∷ c) ∙ append_assoc path (32 ∷ a) (32 ∷ (b ++ 32 ∷ c)))

-- what is written of a variable's row is its line
pub row_is : (v : HeadView) (h : Header) (t : Table) (items : List BodyItem) (i : ℕ) (r : Row) (x : Variable) (ns : List ℕ) → IsViewOf v h
    → AreTallied t h items → slice_get v.rows.now i ≡ Some r → slice_get h.declarations i ≡ Some (Declaration.Var x) → ns ≡ counts_at t r.code
    → row_text (path_of (take i h.declarations) (Declaration.Var x)) ns ≡ edges_line items (declared_at h.declarations i x)
row_is v h t items i r x ns views tallied at declared is =
    let path = path_of (take i h.declarations) (Declaration.Var x) in
    let code = (row_of (parts v) h i r (Declaration.Var x) views at declared).own.2 in
    let n = counts_for items (code_of x) in
    ap (row_text path) (is ∙ tallied.counted r.code (code_of x) code) ∙ text_is path (decimal n.changes) (decimal n.rises) (decimal n.falls)

-- the rows of all selected variables are the report
pub rows_are : (h : Header) (names : List (List ℕ)) (items : List BodyItem) → flat_map (edges_line items) (selected names h.declarations) ≡ edges_close h names items
unfolding edges_close
rows_are h names items = refl
