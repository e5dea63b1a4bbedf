-- What an engine over a header needs.
use Rattle.std.specs.Prelude.{ℕ, ◌+◌, ◌*◌, max, length}
use Rattle.std.specs.Int.{div_ceil}
use Rattle.vcd_model.specs.Bound.{RoomSize, ViewSize}
use Rattle.vcd_view.specs.declared.view.Code.{Code}
use Rattle.vcd_view.specs.declared.view.Need.{Need}
use Rattle.vcd_view.specs.Shown.{HeadShown}

-- a code's part of the values, in bytes: one for each four digits, and at least the 64 of a real
-- text
abbrev pub value_bytes : Code → ℕ
value_bytes c = max (div_ceil c.size 4) 64

-- what is needed, as room
abbrev pub room : Need → RoomSize
room n = record { values = n.values; slots = n.slots; marks = n.marks }

-- the lengths of what is shown; an entry has 16 bytes
abbrev pub view_size : HeadShown → ViewSize
view_size s = record { text = length s.text + length s.date + length s.version; rows = length s.rows; codes = length s.codes; index = length s.index; look_up = 16 * length s.entries }
