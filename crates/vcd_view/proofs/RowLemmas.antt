-- The row at an index, and the declaration there.
use Rattle.vcd_view.proofs.Cited.{◌≡◌, ℕ, zero, suc, ◌+◌, ◌<◌, ◌≤◌, List, [], ◌∷◌, ◌++◌, length, take, slice_range, slice_get, get_or, Some, None, refl, sym, ap, subst, ◌∙◌, arith, le-leb, append_assoc, append-nil, slice_get-get_or, Declaration, Variable, IdCode, code_of, name_of, Header, AllZip, Row, Code, HeadShown, HasTexts, IsCode, IsRow, AreRows, Views, code_bytes, code_text, reference_of, type_of}
use Rattle.vcd_view.specs.declared.view.Kind.TheVariants as kind
use Rattle.vcd_view.specs.Shown.{text_in}

-- there are as many rows as declarations
pub rows_len : (t : List ℕ) (cs : List IdCode) (e : List Declaration) (rs : List Row) (ds : List Declaration) → AreRows t cs e rs ds → length rs ≡ length ds
rows_len t cs e [] [] h = refl
rows_len t cs e [] (d ∷ ds) h = absurd h
rows_len t cs e (r ∷ rs) [] h = absurd h
rows_len t cs e (r ∷ rs) (d ∷ ds) h = ap suc (rows_len t cs (e ++ d ∷ []) rs ds h.1)

-- those that the text has
pub text_within : (text : List ℕ) (start len : ℕ) → start + len ≤ length text → text_in text start len ≡ slice_range text start (start + len)
text_within text start len h = rw (le-leb (start + len) (length text) h) refl

-- each row is that of the declaration at its index
row_among : (t : List ℕ) (cs : List IdCode) (e : List Declaration) (rs : List Row) (ds : List Declaration) (i : ℕ) (r : Row) → AreRows t cs e rs ds
    → slice_get rs i ≡ Some r → (d : Declaration) × (slice_get ds i ≡ Some d) × IsRow t cs (e ++ take i ds) r d
row_among t cs e [] [] i r h at = cc
row_among t cs e [] (d ∷ ds) i r h at = absurd h
row_among t cs e (x ∷ rs) [] i r h at = absurd h
row_among t cs e (x ∷ rs) (d ∷ ds) zero r h at = let same : x ≡ r = cc in (d, refl, subst (λ l. IsRow t cs l r d) (sym (append-nil e)) (subst (λ y. IsRow t cs e y d) same h.0))
row_among t cs e (x ∷ rs) (d ∷ ds) (suc i) r h at =
    let m = row_among t cs (e ++ d ∷ []) rs ds i r h.1 at in
    (m.0, m.1, subst (λ l. IsRow t cs l r m.0) (append_assoc e (d ∷ []) (take i ds)) m.2)

-- the declaration of a row
pub row_at : (s : HeadShown) (h : Header) (i : ℕ) (r : Row) → Views s h → slice_get s.rows i ≡ Some r → (d : Declaration)
    × (slice_get h.declarations i ≡ Some d) × IsRow s.text h.codes (take i h.declarations) r d
row_at s h i r v at = row_among s.text h.codes [] s.rows h.declarations i r v.rows at

-- the row of a declaration
pub row_of : (s : HeadShown) (h : Header) (i : ℕ) (r : Row) (d : Declaration) → Views s h → slice_get s.rows i ≡ Some r
    → slice_get h.declarations i ≡ Some d → IsRow s.text h.codes (take i h.declarations) r d
row_of s h i r d v at is =
    let m = row_at s h i r v at in
    subst (λ x. IsRow s.text h.codes (take i h.declarations) r x) (let e : m.0 ≡ d = cc in e) m.2

row_there : (rs : List Row) (i : ℕ) → i < length rs → (r : Row) × (slice_get rs i ≡ Some r)
row_there [] i h = absurd (omega arith)
row_there (r ∷ rs) zero h = (r, refl)
row_there (r ∷ rs) (suc i) h = row_there rs i (omega arith)

-- there is a row for each declaration
pub there : (s : HeadShown) (h : Header) (i : ℕ) → Views s h → i < length h.declarations → (r : Row) × (slice_get s.rows i ≡ Some r)
there s h i v l = row_there s.rows i (omega (arith, rows_len s.text h.codes [] s.rows h.declarations v.rows))

-- what is read at an index is the row there
pub read_row : (s : HeadShown) (i : ℕ) (x : Row) → i < length s.rows → slice_get s.rows i ≡ Some (get_or s.rows i x)
read_row s i x h = slice_get-get_or s.rows i x h

-- ---- its texts

-- `len` bytes of a text from `start` on are these
pub record IsThere (text : List ℕ) (start len : ℕ) (bytes : List ℕ) : Type 0 where
  pub within : start + len ≤ length text
  pub is : slice_range text start (start + len) ≡ bytes

none_there : (text : List ℕ) (start len : ℕ) → start ≡ 0 → len ≡ 0 → IsThere text start len []
none_there text start len s l = record { within = omega arith; is = rw (s, l) refl }

pub row_type : (t : List ℕ) (cs : List IdCode) (e : List Declaration) (r : Row) (d : Declaration) → IsRow t cs e r d → IsThere t r.start r.word (type_of d)
row_type t cs e r (Declaration.Scope type name) h = let x = h.own.1 in record { within = omega (arith, x.within); is = x.word_is }
row_type t cs e r Declaration.Up h = let o = h.own in none_there t r.start r.word (omega arith) (omega arith)
row_type t cs e r (Declaration.Var v) h = let x = h.own.1 in record { within = omega (arith, x.within); is = x.word_is }

pub row_name : (t : List ℕ) (cs : List IdCode) (e : List Declaration) (r : Row) (d : Declaration) → IsRow t cs e r d → IsThere t (r.start + r.word) r.name (name_of d)
row_name t cs e r (Declaration.Scope type name) h = let x = h.own.1 in record { within = omega (arith, x.within, x.name_within); is = x.name_is }
row_name t cs e r Declaration.Up h = let o = h.own in none_there t (r.start + r.word) r.name (omega arith) (omega arith)
row_name t cs e r (Declaration.Var v) h = let x = h.own.1 in record { within = omega (arith, x.within, x.name_within); is = x.name_is }

pub row_reference : (t : List ℕ) (cs : List IdCode) (e : List Declaration) (r : Row) (d : Declaration) → IsRow t cs e r d → IsThere t (r.start + r.word) r.all (reference_of d)
row_reference t cs e r (Declaration.Scope type name) h = let x = h.own.1 in record { within = x.within; is = x.all_is }
row_reference t cs e r Declaration.Up h = let o = h.own in none_there t (r.start + r.word) r.all (omega arith) (omega arith)
row_reference t cs e r (Declaration.Var v) h = let x = h.own.1 in record { within = x.within; is = x.all_is }

-- they are what is read there
pub read_there : (text : List ℕ) (start from len : ℕ) (bytes : List ℕ) → IsThere text start len bytes → from ≡ start → text_in text from len ≡ bytes
read_there text start from len bytes h e = ap (λ n. text_in text n len) e ∙ text_within text start len h.within ∙ h.is

-- ---- variables and their codes

-- the row is that of this variable
pub record IsVariableRow (s : HeadShown) (h : Header) (i : ℕ) (r : Row) (v : Variable) : Type 0 where
  pub declared : slice_get h.declarations i ≡ Some (Declaration.Var v)
  pub kind_is : r.kind ≡ kind.Var
  pub texts : HasTexts s.text r v.type v.reference
  pub code : Code
  pub code_there : slice_get s.codes r.code ≡ Some code
  pub code_is : IsCode s.text code (code_of v)

-- the code that is shown at an index
pub code_at : (t : List ℕ) (cs : List Code) (ks : List IdCode) (p : ℕ) (k : IdCode) → AllZip (IsCode t) cs ks → slice_get ks p ≡ Some k → (c : Code)
    × (slice_get cs p ≡ Some c) × IsCode t c k
code_at t [] [] p k h at = cc
code_at t [] (y ∷ ks) p k h at = absurd h
code_at t (c ∷ cs) [] p k h at = absurd h
code_at t (c ∷ cs) (y ∷ ks) zero k h at = let same : y ≡ k = cc in (c, refl, subst (IsCode t c) same h.0)
code_at t (c ∷ cs) (y ∷ ks) (suc p) k h at = code_at t cs ks p k h.1 at

-- the code at an index, by what is shown there
pub code_of_shown : (t : List ℕ) (cs : List Code) (ks : List IdCode) (p : ℕ) (c : Code) → AllZip (IsCode t) cs ks → slice_get cs p ≡ Some c
    → (k : IdCode) × (slice_get ks p ≡ Some k) × IsCode t c k
code_of_shown t [] [] p c h at = cc
code_of_shown t [] (k ∷ ks) p c h at = absurd h
code_of_shown t (x ∷ cs) [] p c h at = absurd h
code_of_shown t (x ∷ cs) (k ∷ ks) zero c h at = let same : x ≡ c = cc in (k, refl, subst (λ y. IsCode t y k) same h.0)
code_of_shown t (x ∷ cs) (k ∷ ks) (suc p) c h at = code_of_shown t cs ks p c h.1 at

pub none_of_shown : (t : List ℕ) (cs : List Code) (ks : List IdCode) (p : ℕ) → AllZip (IsCode t) cs ks → slice_get cs p ≡ None → slice_get ks p ≡ None
none_of_shown t [] [] p h at = refl
none_of_shown t [] (k ∷ ks) p h at = absurd h
none_of_shown t (x ∷ cs) [] p h at = absurd h
none_of_shown t (x ∷ cs) (k ∷ ks) zero h at = cc
none_of_shown t (x ∷ cs) (k ∷ ks) (suc p) h at = none_of_shown t cs ks p h.1 at

-- the bytes that are read of a code are the header's
pub bytes_are : (text : List ℕ) (list : List Code) (cs : List IdCode) (p : ℕ) → AllZip (IsCode text) list cs → code_bytes text list p ≡ code_text cs p
bytes_are text [] [] p h = refl
bytes_are text [] (k ∷ cs) p h = absurd h
bytes_are text (c ∷ list) [] p h = absurd h
bytes_are text (c ∷ list) (k ∷ cs) zero h = text_within text c.start c.len h.0.within ∙ h.0.text_is
bytes_are text (c ∷ list) (k ∷ cs) (suc p) h = bytes_are text list cs p h.1

-- the row of a variable
pub row_of_variable : (s : HeadShown) (h : Header) (i : ℕ) (r : Row) (v : Variable) → Views s h → slice_get s.rows i ≡ Some r
    → slice_get h.declarations i ≡ Some (Declaration.Var v) → IsVariableRow s h i r v
row_of_variable s h i r v views at is =
    let own = (row_of s h i r (Declaration.Var v) views at is).own in
    let c = code_at s.text s.codes h.codes r.code (code_of v) views.codes own.2 in
    record { declared = is; kind_is = own.0; texts = own.1; code = c.0; code_there = c.1; code_is = c.2 }

-- the variable of a row that is one's
pub variable_at : (s : HeadShown) (h : Header) (i : ℕ) (r : Row) → Views s h → slice_get s.rows i ≡ Some r → r.kind ≡ kind.Var → (v : Variable) × IsVariableRow s h i r v
variable_at s h i r views at var = by_kind (row_at s h i r views at)
  where
    by_kind : (d : Declaration) × (slice_get h.declarations i ≡ Some d) × IsRow s.text h.codes (take i h.declarations) r d → (v : Variable) × IsVariableRow s h i r v
    by_kind (Declaration.Scope type name, is, row) = let k = row.own.0 in cc
    by_kind (Declaration.Up, is, row) = let k = row.own.0 in cc
    by_kind (Declaration.Var v, is, row) = (v, row_of_variable s h i r v views at is)
