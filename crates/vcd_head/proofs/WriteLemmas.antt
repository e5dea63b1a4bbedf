-- The lines of a written header, by its rows.
use Rattle.vcd_head.proofs.Cited.{◌≡◌, ◌≢◌, ℕ, ◌+◌, ◌<◌, Bool, true, false, List, [], ◌∷◌, ◌++◌, length, take, drop, slice_get, get_or, flat_map, add-one, decimal, codes, Option, Some, None, option_map, unwrap_or, refl, sym, ap, subst, ◌∙◌, arith, concat, join_with_byte, Appends, take-length, flat_map-append, append_assoc, append-nil, take-append-drop, take_more, length-take-le, concat-append, slice_get_within, each, each_after, Declaration, IdCode, Variable, code_of, parent, Header, row_line, scope_line, var_line, up_lines_at, first_place, each_after-append, AppendsSome, appends-first, appends-some, Code, Row, HeadShown, IsCode, IsRow, Views, code_text, rows_len, row_at, row_of, row_of_variable, around_some, around_none}
use Rattle.vcd_view.specs.declared.view.Kind.TheVariants as kind
use Rattle.vcd_view.proofs.RowLemmas.{there}
use Rattle.vcd_head.proofs.SelectionLemmas.{take-next}

-- ---- a line

pub scope_text : (type name kind word : List ℕ) → kind ≡ type → word ≡ name → codes "$scope " ++ (kind ++ (32 ∷ (word ++ codes " $end\n"))) ≡ scope_line type name
scope_text type name kind word t n = rw (t, n) (simp append_assoc)

-- one more word after some
join-last : (ws : List (List ℕ)) (w : List ℕ) → ws ≢ [] → join_with_byte 32 (ws ++ w ∷ []) ≡ join_with_byte 32 ws ++ 32 ∷ w
join-last [] w h = absurd (h refl)
join-last (x ∷ []) w h = refl
join-last (x ∷ y ∷ ws) w h = ap (λ l. x ++ 32 ∷ l) (join-last (y ∷ ws) w (λ e. cc)) ∙ sym (append_assoc x (32 ∷ join_with_byte 32 (y ∷ ws)) (32 ∷ w))

-- a word before others
join-first : (x : List ℕ) (ws : List (List ℕ)) (w : List ℕ) → join_with_byte 32 (x ∷ ws ++ w ∷ []) ≡ x ++ 32 ∷ join_with_byte 32 (ws ++ w ∷ [])
join-first x [] w = refl
join-first x (y ∷ ws) w = refl

-- the front of a variable's line, before its code, and the rest
abbrev pub variable_front : List ℕ → ℕ → List ℕ
variable_front kind size = (codes "$var " ++ (kind ++ 32 ∷ [])) ++ decimal size

abbrev pub variable_rest : List ℕ → List ℕ → List ℕ
variable_rest code reference = 32 ∷ (code ++ (32 ∷ (reference ++ codes " $end\n")))

pub variable_text : (v : Variable) (kind : List ℕ) (size : ℕ) (code reference : List ℕ) → kind ≡ v.type → size ≡ v.size → v.reference ≢ []
    → reference ≡ join_with_byte 32 v.reference → variable_front kind size ++ variable_rest code reference ≡ var_line v code
variable_text v kind size code reference t n some e =
    let front = λ (l : List ℕ). codes "$var " ++ (v.type ++ 32 ∷ (decimal v.size ++ 32 ∷ l)) in
    let flat : variable_front v.type v.size ++ variable_rest code reference ≡ front (code ++ 32 ∷ (reference ++ codes " $end")) ++ 10 ∷ [] = simp append_assoc in
    ap (λ k. variable_front k size ++ variable_rest code reference) t ∙ ap (λ k. variable_front v.type k ++ variable_rest code reference) n ∙ flat
    ∙ ap (λ l. front l ++ 10 ∷ []) (ap (λ l. code ++ 32 ∷ (l ++ codes " $end")) e
    ∙ sym (join-first code v.reference (codes "$end") ∙ ap (λ l. code ++ 32 ∷ l) (join-last v.reference (codes "$end") some)))

-- a variable has a reference
pub some_reference : (s : HeadShown) (h : Header) (i : ℕ) (v : Variable) → Views s h → slice_get h.declarations i ≡ Some (Declaration.Var v) → v.reference ≢ []
some_reference s h i v views is =
    let r = there s h i views (slice_get_within h.declarations i (Declaration.Var v) is) in
    (row_of_variable s h i r.0 v views r.1 is).texts.some_token

-- ---- a code

-- its size, by the code of its row
pub code_size : (s : HeadShown) (h : Header) (i : ℕ) (r : Row) (v : Variable) (c : Code) → Views s h → slice_get s.rows i ≡ Some r
    → slice_get h.declarations i ≡ Some (Declaration.Var v) → slice_get s.codes r.code ≡ Some c → v.size ≡ c.size
code_size s h i r v c views at is code =
    let own = row_of_variable s h i r v views at is in
    let there = own.code_there in
    let same : own.code ≡ c = cc in
    let c_is = subst (λ (y : Code). IsCode s.text y (code_of v)) same own.code_is in
    sym c_is.size_is

pub code_there : (s : HeadShown) (h : Header) (i : ℕ) (r : Row) (v : Variable) → Views s h → slice_get s.rows i ≡ Some r
    → slice_get h.declarations i ≡ Some (Declaration.Var v) → slice_get s.codes r.code ≢ None
code_there s h i r v views at is none = let there = (row_of_variable s h i r v views at is).code_there in cc

-- the bytes of its code
pub own_text : (s : HeadShown) (h : Header) (i : ℕ) (r : Row) (v : Variable) → Views s h → slice_get s.rows i ≡ Some r
    → slice_get h.declarations i ≡ Some (Declaration.Var v) → code_text h.codes r.code ≡ v.code
own_text s h i r v views at is = ap (λ o. unwrap_or (option_map (λ (k : IdCode). k.text) o) []) (row_of s h i r (Declaration.Var v) views at is).own.2

-- ---- the line of a row

pub front-length : (ds : List Declaration) (i : ℕ) (d : Declaration) → slice_get ds i ≡ Some d → length (take i ds) ≡ i
front-length ds i d at = let within = slice_get_within ds i d at in length-take-le i ds (omega arith)

-- the line of an `$upscope`, which closes the scope that encloses it
pub up_some : (rename : List ℕ → List ℕ) (m : ℕ → Bool) (s : HeadShown) (h : Header) (i p : ℕ) (r : Row) (d : Declaration) → Views s h
    → slice_get s.rows i ≡ Some r → slice_get h.declarations i ≡ Some d → r.kind ≡ kind.Up → Some p ≡ parent (take i h.declarations)
    → up_lines_at m (p ∷ []) ≡ row_line rename m (take i h.declarations) d
up_some rename m s h i p r d v at is k e = by_kind d (row_of s h i r d v at is)
  where
    by_kind : (x : Declaration) → IsRow s.text h.codes (take i h.declarations) r x → up_lines_at m (p ∷ []) ≡ row_line rename m (take i h.declarations) x
    by_kind (Declaration.Scope type name) row = let other = row.own.0 in cc
    by_kind Declaration.Up row = ap (up_lines_at m) (sym (ap first_place (around_some h.declarations i p (sym e))))
    by_kind (Declaration.Var u) row = let other = row.own.0 in cc

pub up_none : (rename : List ℕ → List ℕ) (m : ℕ → Bool) (s : HeadShown) (h : Header) (i : ℕ) (r : Row) (d : Declaration) → Views s h
    → slice_get s.rows i ≡ Some r → slice_get h.declarations i ≡ Some d → r.kind ≡ kind.Up → None ≡ parent (take i h.declarations)
    → [] ≡ row_line rename m (take i h.declarations) d
up_none rename m s h i r d v at is k e = by_kind d (row_of s h i r d v at is)
  where
    by_kind : (x : Declaration) → IsRow s.text h.codes (take i h.declarations) r x → [] ≡ row_line rename m (take i h.declarations) x
    by_kind (Declaration.Scope type name) row = let other = row.own.0 in cc
    by_kind Declaration.Up row = ap (up_lines_at m) (sym (ap first_place (around_none h.declarations i (sym e))))
    by_kind (Declaration.Var u) row = let other = row.own.0 in cc

-- the row of a scope that is marked: what holds of its line
pub scope_row : (P : List ℕ → Type 0) (rename : List ℕ → List ℕ) (m : ℕ → Bool) (s : HeadShown) (h : Header) (i : ℕ) (r : Row) (d : Declaration)
    → Views s h → slice_get s.rows i ≡ Some r → slice_get h.declarations i ≡ Some d → r.kind ≡ kind.Scope → m i ≡ true
    → ((type name : List ℕ) → slice_get h.declarations i ≡ Some (Declaration.Scope type name) → P (scope_line type name)) → P (row_line rename m (take i h.declarations) d)
scope_row P rename m s h i r d v at is k marked says = by_kind d is (row_of s h i r d v at is)
  where
    by_kind : (x : Declaration) → slice_get h.declarations i ≡ Some x → IsRow s.text h.codes (take i h.declarations) r x → P (row_line rename m (take i h.declarations) x)
    by_kind (Declaration.Scope type name) q row = rw (front-length h.declarations i (Declaration.Scope type name) q, marked) (says type name q)
    by_kind Declaration.Up q row = let other = row.own.0 in cc
    by_kind (Declaration.Var u) q row = let other = row.own.0 in cc

-- the row of a variable that is marked
pub variable_row : (P : List ℕ → Type 0) (rename : List ℕ → List ℕ) (m : ℕ → Bool) (s : HeadShown) (h : Header) (i : ℕ) (r : Row) (d : Declaration)
    → Views s h → slice_get s.rows i ≡ Some r → slice_get h.declarations i ≡ Some d → r.kind ≡ kind.Var → m i ≡ true
    → ((u : Variable) → slice_get h.declarations i ≡ Some (Declaration.Var u) → P (var_line u (rename u.code))) → P (row_line rename m (take i h.declarations) d)
variable_row P rename m s h i r d v at is k marked says = by_kind d is (row_of s h i r d v at is)
  where
    by_kind : (x : Declaration) → slice_get h.declarations i ≡ Some x → IsRow s.text h.codes (take i h.declarations) r x → P (row_line rename m (take i h.declarations) x)
    by_kind (Declaration.Scope type name) q row = let other = row.own.0 in cc
    by_kind Declaration.Up q row = let other = row.own.0 in cc
    by_kind (Declaration.Var u) q row = rw (front-length h.declarations i (Declaration.Var u) q, marked) (says u q)

-- a row that is not marked, of a scope or of a variable
pub unmarked_row : (rename : List ℕ → List ℕ) (m : ℕ → Bool) (s : HeadShown) (h : Header) (i : ℕ) (r : Row) (d : Declaration) → Views s h
    → slice_get s.rows i ≡ Some r → slice_get h.declarations i ≡ Some d → r.kind ≢ kind.Up → m i ≡ false
    → [] ≡ row_line rename m (take i h.declarations) d
unmarked_row rename m s h i r d v at is k marked = by_kind d is (row_of s h i r d v at is)
  where
    by_kind : (x : Declaration) → slice_get h.declarations i ≡ Some x → IsRow s.text h.codes (take i h.declarations) r x → [] ≡ row_line rename m (take i h.declarations) x
    by_kind (Declaration.Scope type name) q row = rw (front-length h.declarations i (Declaration.Scope type name) q, marked) refl
    by_kind Declaration.Up q row = absurd (k row.own.0)
    by_kind (Declaration.Var u) q row = rw (front-length h.declarations i (Declaration.Var u) q, marked) refl

-- a row is there where something is declared
pub row_there : (s : HeadShown) (h : Header) (i : ℕ) (d : Declaration) → Views s h → slice_get h.declarations i ≡ Some d → slice_get s.rows i ≢ None
row_there s h i d v is none = let r = there s h i v (slice_get_within h.declarations i d is) in let row = r.1 in cc

-- and the other way round
pub declared_there : (s : HeadShown) (h : Header) (i : ℕ) → Views s h → i < length s.rows → (d : Declaration) × (slice_get h.declarations i ≡ Some d)
declared_there s h i v l =
    let r = there s h i v (omega (arith, rows_len s.text h.codes [] s.rows h.declarations v.rows)) in
    let m = row_at s h i r.0 v r.1 in
    (m.0, m.1)

-- ---- the lines of the rows

-- the lines of the first ones, and of those after
pub lines-append : {X : Type 0} (f : List X → X → List ℕ) (xs ys : List X) → concat (each f (xs ++ ys)) ≡ concat (each f xs) ++ concat (each_after f xs ys)
lines-append f xs ys = ap concat (each_after-append f [] xs ys) ∙ concat-append (each f xs) (each_after f xs ys)

-- one on
pub lines-next : {X : Type 0} (f : List X → X → List ℕ) (ds : List X) (i : ℕ) (d : X) → slice_get ds i ≡ Some d
    → concat (each f (take (i + 1) ds)) ≡ concat (each f (take i ds)) ++ f (take i ds) d
lines-next f ds i d at =
    ap (λ l. concat (each f l)) (ap (λ n. take n ds) (add-one i) ∙ take-next ds i d at) ∙ lines-append f (take i ds) (d ∷ [])
    ∙ ap (λ l. concat (each f (take i ds)) ++ l) (append-nil (f (take i ds) d))

-- a line that was not wholly written, after those before it
pub lines-some : {X : Type 0} (f : List X → X → List ℕ) (old mid new : Option (List ℕ)) (ds : List X) (i : ℕ) (d : X) → slice_get ds i ≡ Some d
    → Appends old mid (concat (each f (take i ds))) → AppendsSome mid new (f (take i ds) d)
    → AppendsSome old new (concat (each f ds))
lines-some f old mid new ds i d at front line =
    let rest = concat (each_after f (take (i + 1) ds) (drop (i + 1) ds)) in
    let lines = concat (each f (take i ds)) in
    let whole : concat (each f ds) ≡ (lines ++ f (take i ds) d) ++ rest =
    ap (λ l. concat (each f l)) (sym (take-append-drop (i + 1) ds)) ∙ lines-append f (take (i + 1) ds) (drop (i + 1) ds) ∙ ap (λ l. l ++ rest) (lines-next f ds i d at) in
    subst (AppendsSome old new) (sym whole) (appends-first old new (lines ++ f (take i ds) d) rest (appends-some old mid new lines (f (take i ds) d) front line))

-- all rows were passed
pub lines-all : (f : List Declaration → Declaration → List ℕ) (s : HeadShown) (h : Header) (i : ℕ) → Views s h → i ≡ length s.rows
    → concat (each f (take i h.declarations)) ≡ concat (each f h.declarations)
lines-all f s h i v e = ap (λ n. concat (each f (take n h.declarations))) (e ∙ rows_len s.text h.codes [] s.rows h.declarations v.rows) ∙ ap (λ l. concat (each f l)) (take-length h.declarations)

-- the texts before one of them, and a front of it
pub texts-some : {Z : Type 0} (old mid new : Option (List ℕ)) (f : Z → List ℕ) (xs : List Z) (k : ℕ) (d : Z) → k < length xs
    → Appends old mid (flat_map f (take k xs)) → AppendsSome mid new (f (get_or xs k d)) → AppendsSome old new (flat_map f xs)
texts-some old mid new f xs k d h p q =
    let rest = flat_map f (drop (k + 1) xs) in
    let whole : flat_map f xs ≡ (flat_map f (take k xs) ++ f (get_or xs k d)) ++ rest =
    ap (flat_map f) (sym (take-append-drop (k + 1) xs)) ∙ flat_map-append f (take (k + 1) xs) (drop (k + 1) xs)
    ∙ ap (λ l. l ++ rest) (ap (flat_map f) (take_more xs k d h) ∙ flat_map-append f (take k xs) (get_or xs k d ∷ [])
    ∙ ap (λ l. flat_map f (take k xs) ++ l) (append-nil (f (get_or xs k d)))) in
    subst (AppendsSome old new) (sym whole) (appends-first old new (flat_map f (take k xs) ++ f (get_or xs k d)) rest (appends-some old mid new (flat_map f (take k xs)) (f (get_or xs k d)) p q))
