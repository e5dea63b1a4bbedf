-- A head is read again as what it was written from.
use Rattle.std.specs.Prelude.{◌≡◌, ◌↔◌, ℕ, ◌≤◌, ◌+◌, IsTrue, List, [], ◌∷◌, ◌++◌, length, map, flat_map, None, Contains, ◌^◌, ◌<◌, Some, sum_by, decimal, codes}
use Rattle.std.specs.List.{AllByRecursion}
use Rattle.vcd_model.specs.Backward.{each}
use Rattle.vcd_model.specs.Input.{Input}
use Rattle.vcd_model.specs.Tokens.{tokens_of}
use Rattle.vcd_model.specs.Declarations.{Declaration, IdCode, open_scopes}
use Rattle.vcd_model.specs.Header.{Header, header_of}
use Rattle.vcd_model.specs.HeadText.{head_for, least_exponent, merged_head, renamed}
use Rattle.vcd_model.specs.Selection.{Selected, selected, selects_code}
use Rattle.vcd_model.specs.Reading.{phrases_of, texts_of}
use Rattle.vcd_model.specs.HeaderReading.{read_header, header_fault_of}
use Rattle.vcd_model.specs.Merge.{headers_of}
use Rattle.vcd_model.specs.Outcome.{Opened, dumps_of}
use Rattle.vcd_model.specs.Laws.{stream_over, merged_codes}
use Rattle.vcd_laws.specs.KeptValues.{Opens, OpenAll}

-- how many declarations a head that is written for this header has at most: one more for each scope
-- that the header leaves open
abbrev pub most_declared : Header → ℕ
most_declared h = length h.declarations + open_scopes h.declarations

-- k says of the variables that names select what h says of them, and has the codes that they carry
pub record IsHeadFor (h : Header) (names : List (List ℕ)) (k : Header) : Type 0 where
  pub date : k.date ≡ h.date
  pub version : k.version ≡ h.version
  pub scale : k.scale ≡ h.scale
  pub variables : selected [] k.declarations ≡ selected names h.declarations
  pub codes : (c : IdCode) → Contains k.codes c
      ↔ (Contains h.codes c × IsTrue (selects_code (selected names h.declarations) c))

-- A text is read as a header that says this, apart from halts, and the tokens that are left are
-- those of another text.
pub record IsReadAs (allowed : ℕ) (text : List ℕ) (Says : Header → Type 0)
    (others : List ℕ) : Type 0 where
  pub whole : header_fault_of (stream_over text) (read_header allowed (stream_over text)) ≡ None
  pub says : Says (header_of (phrases_of (read_header allowed (stream_over text)).placed))
  pub left : texts_of (read_header allowed (stream_over text)).rest ≡ texts_of (tokens_of others)

-- a head is read again as what it was written from, whatever text follows it
abbrev pub HeadIsReadBack : Type 0
HeadIsReadBack = (limit : ℕ) (input : Input) (o : Opened) (names : List (List ℕ)) (text : List ℕ)
    (allowed : ℕ)
    → Opens limit input o → most_declared o.header ≤ allowed
    → IsReadAs allowed (head_for o.header names ++ text) (IsHeadFor o.header names) text

-- each scope of a header is opened inside fewer than 999 others
abbrev pub IsShallow : Header → Type 0
IsShallow h = (front back : List Declaration) (type name : List ℕ)
    → h.declarations ≡ front ++ Declaration.Scope type name ∷ back → open_scopes front < 999

-- the name of the scope of input number n, from 1, in a merged head
abbrev pub input_scope : ℕ → List ℕ
input_scope n = codes "in" ++ decimal n

-- a path of input number n, under its scope
abbrev pub under_input : ℕ → List ℕ → List ℕ
under_input n path = input_scope n ++ 46 ∷ path

-- a variable of an input as it is merged: in a scope of the input, with its new code
abbrev pub merged_variable : List Header → Header → Selected → Selected
merged_variable earlier h s = record {
  path = under_input (length earlier + 1) s.path;
  variable = record s.variable { code = renamed earlier h s.variable.code };
}

-- k declares all variables of all inputs, in order
pub record IsMergedHead (hs : List Header) (k : Header) : Type 0 where
  pub date : k.date ≡ []
  pub version : k.version ≡ []
  pub scale : k.scale ≡ Some (least_exponent hs)
  pub variables : selected [] k.declarations ≡ flat_map (λ vs. vs)
      (each (λ earlier h. map (merged_variable earlier h) (selected [] h.declarations)) hs)
  pub codes : (c : IdCode) → Contains k.codes c ↔ Contains (merged_codes hs) c

-- how many declarations a merged head has at most: those of each input's head, and two for its own
-- scope
abbrev pub most_merged : List Header → ℕ
most_merged hs = sum_by (λ h. most_declared h + 2) hs

-- a merged head is read again as what it was written from, whatever text follows it
abbrev pub MergedHeadIsReadBack : Type 0
MergedHeadIsReadBack = (limit : ℕ) (inputs : List Input) (os : List Opened) (text : List ℕ)
    (allowed : ℕ)
    → OpenAll limit inputs os → AllByRecursion IsShallow (headers_of (dumps_of os))
    → most_merged (headers_of (dumps_of os)) ≤ allowed → allowed < 2 ^ 63
    → IsReadAs allowed (merged_head (headers_of (dumps_of os)) ++ text)
    (IsMergedHead (headers_of (dumps_of os))) text
