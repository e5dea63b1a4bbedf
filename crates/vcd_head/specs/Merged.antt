-- The heads of a merge, and how the scopes and variables of one are written.
use Rattle.std.specs.Prelude.{◌≡◌, ℕ, zero, suc, ◌+◌, ◌-◌, ◌^◌, ◌<◌, List, [], ◌++◌, length, take, reverse, flat_map, slice_get, Option, Some, None}
use Rattle.std.specs.List.{AllZip}
use Rattle.vcd_model.specs.Declarations.{Declaration, enclosing}
use Rattle.vcd_model.specs.Header.{Header}
use Rattle.vcd_model.specs.HeadText.{code_place, new_code, rows_text, scope_line, up_line, var_line}
use Rattle.vcd_model.specs.Selection.{is_among, marked_places}
use Rattle.vcd_head.specs.declared.head.Head.{Head}
use Rattle.vcd_head.specs.Shown.{shown}
use Rattle.vcd_view.specs.Views.{Views, reference_of, type_of}
use Rattle.vcd_view.specs.declared.view.Kind.{Kind}
use Rattle.vcd_view.specs.declared.view.Kind.TheVariants as kind

-- the new code of a code of a header whose codes are numbered from `first` on
abbrev pub numbered : ℕ → Header → List ℕ → List ℕ
numbered first h = λ code. new_code (first + code_place h code)

-- the numbers of these codes fit
abbrev pub FitNumbers : ℕ → Header → Type 0
FitNumbers first h = first + length h.codes < 2 ^ 64

-- the heads show these headers, one by one
abbrev pub ShowHeaders : List Head → List Header → Type 0
ShowHeaders heads hs = AllZip (λ (head : Head) (h : Header). Views (shown head) h) heads hs

-- ---- scopes that are written once a variable is declared inside them

-- the line that opens the scope of this declaration
abbrev pub opening_of : Option Declaration → List ℕ
opening_of None = []
opening_of (Some d) = scope_line (type_of d) (reference_of d)

-- the line that opens the scope at an index
abbrev pub opening : List Declaration → ℕ → List ℕ
opening ds position = opening_of (slice_get ds position)

-- the lines that open these scopes, of which the innermost is the first
abbrev pub openings : List Declaration → List ℕ → List ℕ
openings ds positions = flat_map (opening ds) (reverse positions)

-- the line of an `$upscope` after scopes of which this many, the innermost, are pending, and this
-- many are written
abbrev pub closing : ℕ → ℕ → List ℕ
closing zero zero = []
closing zero (suc written) = up_line
closing (suc pending) written = []

-- what is written at a declaration that has these before it, if this many scopes around it, the
-- innermost, are pending, and this many are written
abbrev pub due : Header → (first pending written : ℕ) → List Declaration → Declaration → List ℕ
due h first pending written earlier (Declaration.Scope type name) = []
due h first pending written earlier Declaration.Up = closing pending written
due h first pending written earlier (Declaration.Var v) = openings h.declarations (take pending (enclosing earlier)) ++ var_line v (numbered first h v.code)

-- how many scopes are pending after it
abbrev pub pending_behind : Declaration → ℕ → ℕ
pending_behind (Declaration.Scope type name) pending = suc pending
pending_behind Declaration.Up pending = pending - 1
pending_behind (Declaration.Var v) pending = 0

-- how many scopes are written after it
abbrev pub written_behind : Declaration → ℕ → ℕ → ℕ
written_behind (Declaration.Scope type name) pending written = written
written_behind Declaration.Up zero written = written - 1
written_behind Declaration.Up (suc pending) written = written
written_behind (Declaration.Var v) pending written = written + pending

-- the lines of all variables of a header, with new codes, and of the scopes around these
abbrev pub input_rows : ℕ → Header → List ℕ
input_rows first h = rows_text (numbered first h) (is_among (marked_places [] h.declarations)) h.declarations

-- the scopes that are open after a row of this kind, as far as they are written
pub record IsBehind (k : Kind) (pending written pending' written' : ℕ) : Type 0 where
  pub scope : k ≡ kind.Scope → pending + 1 < 2 ^ 64 → (pending' ≡ pending + 1) × (written' ≡ written)
  pub pending_up : k ≡ kind.Up → 0 < pending → (pending' ≡ pending - 1) × (written' ≡ written)
  pub written_up : k ≡ kind.Up → pending ≡ 0 → (pending' ≡ 0) × (written' ≡ written - 1)
  pub variable : k ≡ kind.Var → written + pending < 2 ^ 64 → (pending' ≡ 0) × (written' ≡ written + pending)
