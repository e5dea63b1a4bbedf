-- The text of `list`, line by line.
use Rattle.vcd_engine.proofs.Cited.{◌≡◌, ◌≢◌, ℕ, ◌+◌, List, [], ◌∷◌, ◌++◌, length, take, drop, slice_get, flat_map, filter_map, add-one, decimal, Option, Some, None, refl, sym, ap, subst, ◌∙◌, Appends, take-length, take-append-drop, filter_map-append, slice_get_within, flat_map-append, each_after, list_line, Declaration, Variable, code_of, path_of, Header, with_path, each_after-append, AppendsSome, appends-first, appends-some, Code, Row, HeadShown, IsCode, IsRow, Views, code_text, rows_len, row_at, row_of_variable, there, take-next, own_text}
use Rattle.std.proofs.lemmas.List.{append_assoc, append-nil}
use Rattle.vcd_model.specs.CheckAndList.{list_text}
use Rattle.vcd_model.specs.Selection.{selected}
use Rattle.vcd_view.specs.declared.view.Kind.TheVariants as kind

-- the line of a variable that has these declarations before it
abbrev pub line_after : List Declaration → Variable → List ℕ
line_after earlier v = list_line (record { path = path_of earlier (Declaration.Var v); variable = v })

-- ---- a line

line_is : (path type size code : List ℕ) → ((((path ++ 32 ∷ type) ++ 32 ∷ []) ++ size) ++ 32 ∷ code) ++ 10 ∷ [] ≡ (path ++ 32 ∷ (type ++ 32 ∷ (size ++ 32 ∷ code))) ++ 10 ∷ []
line_is path type size code =
    ap (λ l. l ++ 10 ∷ [])
    (append_assoc ((path ++ 32 ∷ type) ++ 32 ∷ []) size (32 ∷ code) ∙ append_assoc (path ++ 32 ∷ type) (32 ∷ []) (size ++ 32 ∷ code)
    ∙ append_assoc path (32 ∷ type) (32 ∷ (size ++ 32 ∷ code)))

-- the texts that are written for a row make its line
pub line_of_row : (s : HeadShown) (h : Header) (i : ℕ) (r : Row) (c : Code) (v : Variable) (type bytes : List ℕ) → Views s h
    → slice_get s.rows i ≡ Some r → slice_get s.codes r.code ≡ Some c → slice_get h.declarations i ≡ Some (Declaration.Var v)
    → type ≡ v.type → bytes ≡ code_text h.codes r.code
    → ((((path_of (take i h.declarations) (Declaration.Var v) ++ 32 ∷ type) ++ 32 ∷ []) ++ decimal c.size) ++ 32 ∷ bytes) ++ 10 ∷ [] ≡ line_after (take i h.declarations) v
line_of_row s h i r c v type bytes views at there declared types codes =
    let row = row_of_variable s h i r v views at declared in
    let known = row.code_there in
    let same : row.code ≡ c = cc in
    let code = subst (λ (y : Code). IsCode s.text y (code_of v)) same row.code_is in
    let n : c.size ≡ v.size = code.size_is in
    let b : bytes ≡ v.code = codes ∙ own_text s h i r v views at declared in
    rw (types, n, b) (line_is (path_of (take i h.declarations) (Declaration.Var v)) v.type (decimal v.size) v.code)

-- a variable's row is there, and its code
pub row_there : (s : HeadShown) (h : Header) (i : ℕ) (v : Variable) → Views s h → slice_get h.declarations i ≡ Some (Declaration.Var v) → slice_get s.rows i ≢ None
row_there s h i v views declared none = let r = there s h i views (slice_get_within h.declarations i (Declaration.Var v) declared) in cc

-- ---- the lines

-- the lines of some declarations that have others before them
abbrev pub lines_after : List Declaration → List Declaration → List ℕ
lines_after earlier ds = flat_map list_line (filter_map (λ o. o) (each_after (with_path []) earlier ds))

-- the lines of the first declarations, and of those after
pub lines-append : (xs ys : List Declaration) → lines_after [] (xs ++ ys) ≡ lines_after [] xs ++ lines_after xs ys
lines-append xs ys =
    let front = each_after (with_path []) [] xs in
    let back = each_after (with_path []) xs ys in
    ap (λ l. flat_map list_line (filter_map (λ o. o) l)) (each_after-append (with_path []) [] xs ys)
    ∙ ap (flat_map list_line) (filter_map-append (λ o. o) front back)
    ∙ flat_map-append list_line (filter_map (λ o. o) front) (filter_map (λ o. o) back)

pub text_is_lines : (h : Header) → list_text h ≡ lines_after [] h.declarations
unfolding list_text selected
text_is_lines h = refl

pub next : {X : Type 0} (ds : List X) (i : ℕ) (d : X) → slice_get ds i ≡ Some d → take (i + 1) ds ≡ take i ds ++ d ∷ []
next ds i d at = ap (λ n. take n ds) (add-one i) ∙ take-next ds i d at

pub lines-variable : (ds : List Declaration) (i : ℕ) (v : Variable) → slice_get ds i ≡ Some (Declaration.Var v)
    → lines_after [] (take (i + 1) ds) ≡ lines_after [] (take i ds) ++ line_after (take i ds) v
lines-variable ds i v at = ap (lines_after []) (next ds i (Declaration.Var v) at) ∙ lines-append (take i ds) (Declaration.Var v ∷ [])
    ∙ ap (λ l. lines_after [] (take i ds) ++ l) (append-nil (line_after (take i ds) v))

lines-other : (ds : List Declaration) (i : ℕ) (d : Declaration) → slice_get ds i ≡ Some d → with_path [] (take i ds) d ≡ None
    → lines_after [] (take (i + 1) ds) ≡ lines_after [] (take i ds)
lines-other ds i d at none =
    ap (lines_after []) (next ds i d at) ∙ lines-append (take i ds) (d ∷ [])
    ∙ ap (λ o. lines_after [] (take i ds) ++ flat_map list_line (filter_map (λ p. p) (o ∷ []))) none ∙ append-nil (lines_after [] (take i ds))

-- a row that is not a variable's adds no line
pub lines-pass : (s : HeadShown) (h : Header) (i : ℕ) (r : Row) → Views s h → slice_get s.rows i ≡ Some r → r.kind ≢ kind.Var
    → lines_after [] (take (i + 1) h.declarations) ≡ lines_after [] (take i h.declarations)
lines-pass s h i r views at other = by_kind (row_at s h i r views at)
  where
    by_kind : (d : Declaration) × (slice_get h.declarations i ≡ Some d) × IsRow s.text h.codes (take i h.declarations) r d
        → lines_after [] (take (i + 1) h.declarations) ≡ lines_after [] (take i h.declarations)
    by_kind (Declaration.Scope type name, is, row) = lines-other h.declarations i (Declaration.Scope type name) is refl
    by_kind (Declaration.Up, is, row) = lines-other h.declarations i Declaration.Up is refl
    by_kind (Declaration.Var v, is, row) = absurd (other row.own.0)

-- a line that was not wholly written, after those before it
pub listed-some : (old mid new : Option (List ℕ)) (h : Header) (i : ℕ) (v : Variable) → slice_get h.declarations i ≡ Some (Declaration.Var v)
    → Appends old mid (lines_after [] (take i h.declarations)) → AppendsSome mid new (line_after (take i h.declarations) v)
    → AppendsSome old new (list_text h)
listed-some old mid new h i v at front line =
    let ds = h.declarations in
    let rest = lines_after (take (i + 1) ds) (drop (i + 1) ds) in
    let whole : list_text h ≡ (lines_after [] (take i ds) ++ line_after (take i ds) v) ++ rest =
    text_is_lines h ∙ ap (lines_after []) (sym (take-append-drop (i + 1) ds)) ∙ lines-append (take (i + 1) ds) (drop (i + 1) ds) ∙ ap (λ l. l ++ rest) (lines-variable ds i v at) in
    subst (AppendsSome old new) (sym whole) (appends-first old new (lines_after [] (take i ds) ++ line_after (take i ds) v) rest
    (appends-some old mid new (lines_after [] (take i ds)) (line_after (take i ds) v) front line))

-- all rows were passed
pub listed-all : (s : HeadShown) (h : Header) (i : ℕ) → Views s h → i ≡ length s.rows → lines_after [] (take i h.declarations) ≡ list_text h
listed-all s h i views end =
    ap (λ n. lines_after [] (take n h.declarations)) (end ∙ rows_len s.text h.codes [] s.rows h.declarations views.rows)
    ∙ ap (lines_after []) (take-length h.declarations) ∙ sym (text_is_lines h)
