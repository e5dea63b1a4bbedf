-- The lines of an edge, by what is kept of the codes.
use Rattle.std.specs.Prelude.{◌≡◌, ℕ, ◌+◌, ◌*◌, ◌<◌, ◌^◌, false, List, [], ◌∷◌, ◌++◌, length, slice_get, Option, Some, None}
use Rattle.vcd_model.specs.Declarations.{IdCode}
use Rattle.vcd_model.specs.ItemText.{time_line}
use Rattle.vcd_model.specs.Strobe.{binary}
use Rattle.vcd_model.specs.Values.{Value, value_line}
use Rattle.std.specs.Str.{byte}
use Rattle.vcd_model.specs.Bytes.{as_line}
use Rattle.vcd_view.specs.Shown.{text_in}
use Rattle.vcd_view.specs.declared.view.Code.{Code}
use Rattle.vcd_view.specs.declared.view.HeadView.{HeadView}
use Rattle.vcd_body.specs.Contents.{held_at}
use Rattle.vcd_body.specs.Kept.{value_at_size}
use Rattle.vcd_body.specs.declared.values.table.Table.{Table}
use Rattle.vcd_strobe.specs.Kept.{IsWithin, role_line}
use Rattle.vcd_strobe.specs.declared.role.Role.{Role}

-- the index in a table of a place of the code at an index
abbrev pub place_of : ℕ → ℕ → ℕ
place_of code place = 4 * code + place

-- what a table holds in the places of a code of this size
abbrev pub in_places : Table → ℕ → ℕ → ℕ → Option Value
in_places t size code place = value_at_size size (held_at t (place_of code place))

-- each of these codes is there four times, side by side
pub record ArePlaces (shown codes : List IdCode) : Type 0 where
  pub few : length codes < 2 ^ 60
  pub each : (code place : ℕ) → place < 4 → slice_get shown (place_of code place) ≡ slice_get codes code

-- the line of a code that has this role
abbrev pub line_with : Table → ℕ → ℕ → Option IdCode → Option Role → List ℕ
line_with t time code (Some c) (Some r) = role_line (in_places t c.size code) c r time
line_with t time code (Some c) None = []
line_with t time code None r = []

-- the line of the code at an index
abbrev pub line_at : List IdCode → Table → List Role → ℕ → ℕ → List ℕ
line_at codes t roles time code = line_with t time code (slice_get codes code) (slice_get roles code)

-- the line of an event that is declared so
abbrev pub event_line : HeadView → Code → List ℕ
event_line v c = as_line (byte "1" ∷ text_in v.text.now c.start c.len)

-- all roles have their places
pub record HaveRoles (roles : List Role) (codes : List IdCode) : Type 0 where
  pub many : length roles ≡ length codes
  pub within : (code : ℕ) (r : Role) → slice_get roles code ≡ Some r → IsWithin r

-- the number and the time of an edge
abbrev pub moment_lines : List ℕ → ℕ → ℕ → List ℕ
moment_lines id number time = time_line number ++ value_line (record { text = id; size = 64; event = false }) (Value.Bits (binary 64 time))
