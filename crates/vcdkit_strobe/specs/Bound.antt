-- How much is lent while a strobe reads its body: what a command of `vcdkit` is lent at most, and what
-- clocks and places take besides. A number is 8 bytes, any other field 1.
use Rattle.std.specs.Prelude.{ℕ, ◌+◌, ◌*◌, ◌≤◌, length, max, sum_by}
use Rattle.vcd_model.specs.Bound.{code_bytes, input_bound, place_bytes, slot_bytes, value_room, view_count, window_count}
use Rattle.vcd_model.specs.Declarations.{IdCode}
use Rattle.vcd_model.specs.Header.{Header}
use Rattle.vcd_text.specs.Feed.{chunk_len_of, limit_of}
use Rattle.vcd_text.specs.declared.device.Source.{Ghosts}
use Rattle.vcd_text.specs.declared.feed.Feed.{Feed}
use Rattle.vcd_view.specs.Needs.{view_size}
use Rattle.vcd_view.specs.Shown.{parts}
use Rattle.vcd_view.specs.Views.{IsViewOf}
use Rattle.vcd_view.specs.declared.view.HeadView.{HeadView}
use Rattle.vcd_strobe.specs.Codes.{longest_text}
use Rattle.vcd_strobe.specs.declared.start.Room.{Room}
use Rattle.vcdkit_strobe.specs.declared.room.HeadMemory.{HeadMemory}

-- a clock has two numbers and a flag
abbrev pub clock_bytes : ℕ
clock_bytes = 17

-- a role has three numbers, a time that may be missing, a flag and a state
abbrev pub role_bytes : ℕ
role_bytes = 35

-- what a strobe takes for a code: four places, each with its declaration, its slot and its part of
-- the values; the role; a number in the list; and a flag
abbrev pub code_bound : IdCode → ℕ
code_bound c = 4 * (value_room c + slot_bytes + code_bytes) + role_bytes + place_bytes + 1

-- what a strobe with this many clocks takes besides: that for each code, a mark for each declaration,
-- the clocks, and the code of the time, which is longer by 1 than the longest code
abbrev pub strobe_bound : ℕ → Header → ℕ
strobe_bound clocks h = sum_by code_bound h.codes + length h.declarations + clock_bytes * clocks + longest_text h.codes + 1

-- the bytes of the places and their room
abbrev pub places_count : HeadView → Room → ℕ
places_count places r = code_bytes * length places.codes.now + length r.values.now + slot_bytes * max (length r.slots.now) (length r.shares.now)
    + role_bytes * length r.roles.now + place_bytes * length r.listed.now

-- the bytes of marks, flags, clocks, and of the code of the time
abbrev pub head_count : HeadMemory → ℕ
head_count m = length m.marks.items + length m.flags.items + clock_bytes * length m.clocks.items + length m.id.items

-- the windows, the view, the places and the rest count at most the bounds of the header that is shown
-- and of this many clocks, with 512 bytes to spare
abbrev pub IsLentWithin : {X : Type 0} {g : Ghosts X} → Feed X g → (view places : HeadView) → Room → HeadMemory → (clocks : ℕ) → Type 0
IsLentWithin feed view places room m clocks =
    (h : Header) → IsViewOf view h
    → window_count (record { chunk = chunk_len_of feed; token = limit_of feed; value = limit_of feed }) + view_count (view_size (parts view)) + 512
    + places_count places room + head_count m ≤ input_bound (limit_of feed) h + strobe_bound clocks h
