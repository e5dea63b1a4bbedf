-- When a view shows a header.
use Rattle.std.specs.Prelude.{◌≡◌, ◌≢◌, ℕ, suc, ◌+◌, ◌*◌, ◌<◌, ◌≤◌, List, [], ◌∷◌, ◌++◌, length, map, bytes_eq, Option, Some, None, unwrap_or, option_map, slice_get, slice_range, IfSome, ℤ, pos, negsuc, IsPermutation}
use Rattle.std.specs.Ordering.{nat_cmp}
use Rattle.std.specs.Cmp.Lexicographic.{slice_cmp}
use Rattle.std.specs.List.{AllByRecursion, AllZip, IsDistinct, join_with_byte, range_with_len}
use Rattle.std.specs.List.Sorted.{IsStrictlySortedBy}
use Rattle.vcd_model.specs.Declarations.{Declaration, IdCode, code_of, first_token, parent}
use Rattle.vcd_model.specs.Header.{Header}
use Rattle.vcd_model.specs.Bound.{text_bytes, look_up_bytes}
use Rattle.vcd_view.specs.declared.view.Kind.TheVariants as kind
use Rattle.vcd_view.specs.declared.view.Row.{Row}
use Rattle.vcd_view.specs.declared.view.Code.{Code}
use Rattle.vcd_view.specs.declared.view.Scale.{Scale}
use Rattle.vcd_view.specs.Keys.{AreBytes}
use Rattle.vcd_view.specs.Shown.{HeadShown, parts}
use Rattle.vcd_view.specs.declared.view.HeadView.{HeadView}

-- 1 plus the index, or 0 if there is none
abbrev pub counted_from_one : Option ℕ → ℕ
counted_from_one None = 0
counted_from_one (Some p) = suc p

-- the row's type and reference are in the text where the row says: the tokens of the reference, at
-- least one, with a space between
pub record HasTexts (text : List ℕ) (r : Row) (type : List ℕ) (reference : List (List ℕ)) : Type 0 where
  pub within : r.start + r.word + r.all ≤ length text
  pub word_len : r.word ≡ length type
  pub word_is : slice_range text r.start (r.start + r.word) ≡ type
  pub all_len : r.all ≡ length (join_with_byte 32 reference)
  pub all_is : slice_range text (r.start + r.word) (r.start + r.word + r.all) ≡ join_with_byte 32 reference
  pub some_token : reference ≢ []
  pub name_within : r.name ≤ r.all
  pub name_is : slice_range text (r.start + r.word) (r.start + r.word + r.name) ≡ first_token reference

-- the row is the declaration's, by its kind; a variable's code has this index among the codes
abbrev pub IsRowOf : List ℕ → List IdCode → Row → Declaration → Type 0
IsRowOf text codes r (Declaration.Scope type name) = (r.kind ≡ kind.Scope) × HasTexts text r type (name ∷ []) × (r.code ≡ 0)
IsRowOf text codes r Declaration.Up = (r.kind ≡ kind.Up) × (r.start ≡ 0) × (r.word ≡ 0) × (r.name ≡ 0) × (r.all ≡ 0) × (r.code ≡ 0)
IsRowOf text codes r (Declaration.Var v) = (r.kind ≡ kind.Var) × HasTexts text r v.type v.reference × (slice_get codes r.code ≡ Some (code_of v))

-- the row is that of a declaration that has these before it
pub record IsRow (text : List ℕ) (codes : List IdCode) (earlier : List Declaration) (r : Row) (d : Declaration) : Type 0 where
  pub parent_is : r.parent ≡ counted_from_one (parent earlier)
  pub own : IsRowOf text codes r d

-- a row for each declaration, in order; `earlier` come before the first
abbrev pub AreRows : List ℕ → List IdCode → List Declaration → List Row → List Declaration → Type 0
AreRows text codes earlier [] [] = Unit {0}
AreRows text codes earlier [] (d ∷ ds) = ⊥
AreRows text codes earlier (r ∷ rs) [] = ⊥
AreRows text codes earlier (r ∷ rs) (d ∷ ds) = IsRow text codes earlier r d × AreRows text codes (earlier ++ d ∷ []) rs ds

-- the code's bytes are in the text where the code says
pub record IsCode (text : List ℕ) (c : Code) (k : IdCode) : Type 0 where
  pub within : c.start + c.len ≤ length text
  pub text_is : slice_range text c.start (c.start + c.len) ≡ k.text
  pub size_is : c.size ≡ k.size
  pub event_is : c.event ≡ k.event

-- the codes are in the text, and no two have the same bytes
pub record AreHeld (text : List ℕ) (list : List Code) (cs : List IdCode) : Type 0 where
  pub stand : AllZip (IsCode text) list cs
  pub distinct : IsDistinct bytes_eq (map (λ (c : IdCode). c.text) cs)
  pub texts : AllByRecursion (λ (c : IdCode). AreBytes c.text) cs

-- the bytes of the code at an index
abbrev pub code_text : List IdCode → ℕ → List ℕ
code_text codes p = unwrap_or (option_map (λ c. c.text) (slice_get codes p)) []

-- the index of each code once, in increasing order of their bytes: the first bytes that differ
-- decide, and a code comes before those that it begins
pub record IsIndex (codes : List IdCode) (index : List ℕ) : Type 0 where
  pub positions : IsPermutation (range_with_len 0 (length codes)) index
  pub rising : IsStrictlySortedBy (slice_cmp nat_cmp) (map (code_text codes) index)

-- the type of a scope or a variable
abbrev pub type_of : Declaration → List ℕ
type_of (Declaration.Scope type name) = type
type_of Declaration.Up = []
type_of (Declaration.Var v) = v.type

-- the whole reference of a scope or a variable, its tokens with a space between
abbrev pub reference_of : Declaration → List ℕ
reference_of (Declaration.Scope type name) = name
reference_of Declaration.Up = []
reference_of (Declaration.Var v) = join_with_byte 32 v.reference

-- a size that a variable may have, in bits (profile)
pub record IsSize (size : ℕ) : Type 0 where
  pub some : 0 < size
  pub most : size < 16777216

-- the exponent of a time scale (clause 18, $timescale): -15 to 2
abbrev pub IsExponent : ℤ → Type 0
IsExponent (pos n) = n ≤ 2
IsExponent (negsuc n) = n < 15

-- what is shown is the header, in no more bytes than its texts have and a look-up may keep
pub record Views (s : HeadShown) (h : Header) : Type 0 where
  pub rows : AreRows s.text h.codes [] s.rows h.declarations
  pub codes : AllZip (IsCode s.text) s.codes h.codes
  pub index : IsIndex h.codes s.index
  pub date : s.date ≡ h.date
  pub version : s.version ≡ h.version
  pub scale : option_map (λ (x : Scale). x.exponent) s.scale ≡ h.scale
  pub scaled : IfSome s.scale (λ (x : Scale). IsExponent x.exponent)
  pub held : length s.text + length s.date + length s.version ≤ text_bytes h
  pub texts : AllByRecursion (λ (c : IdCode). AreBytes c.text) h.codes
  pub look_up : 16 * length s.entries ≤ look_up_bytes * length h.codes
  pub sizes : AllByRecursion (λ (c : IdCode). IsSize c.size) h.codes
  pub few : length h.declarations ≤ 16777216
  pub few_codes : length h.codes ≤ length h.declarations

-- the view is of the header
abbrev pub IsViewOf : HeadView → Header → Type 0
IsViewOf v h = Views (parts v) h
