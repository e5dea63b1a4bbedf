-- How much is lent while a comparison reads its body: what a command of `vcdkit` is lent at most,
-- and what pairs take besides. A number is 8 bytes, any other field 1.
use Rattle.std.specs.Prelude.{ℕ, ◌+◌, ◌*◌, ◌≤◌, length, flat_map, List, max}
use Rattle.vcd_model.specs.Bound.{RoomSize, input_bound, room_count, view_count, window_count}
use Rattle.vcd_model.specs.Compare.{Asked}
use Rattle.vcd_model.specs.Header.{Header}
use Rattle.vcd_model.specs.Within.{Names, places_of, turned}
use Rattle.vcd_text.specs.Feed.{chunk_len_of, limit_of}
use Rattle.vcd_text.specs.declared.device.Source.{Ghosts}
use Rattle.vcd_text.specs.declared.feed.Feed.{Feed}
use Rattle.vcd_view.specs.Needs.{view_size}
use Rattle.vcd_view.specs.Shown.{parts}
use Rattle.vcd_view.specs.Views.{IsViewOf}
use Rattle.vcd_view.specs.declared.view.HeadView.{HeadView}
use Rattle.vcd_compare.specs.Pairs.{numbers_kept}
use Rattle.vcd_compare.specs.declared.pairs.Pairs.{Pairs}
use Rattle.vcd_compare.specs.declared.whole.Room.{Room}

-- how many numbers pairs keep at most: six for each variable that a first name selects, one for
-- each that a second name selects, and one for each code
abbrev pub most_numbers : Asked → Header → List Names → ℕ
most_numbers q h ns = 6 * length (flat_map (places_of q h) ns) + length (flat_map (λ n. places_of q h (turned n)) ns) + length h.codes

-- what a comparison of these names takes besides
abbrev pub pairs_bound : Asked → Header → List Names → ℕ
pairs_bound q h ns = 17 * most_numbers q h ns + 9 * length h.codes + 8

-- the bytes of pairs: their numbers, and whether lines show a range
abbrev pub pairs_count : Pairs → ℕ
pairs_count ps = 8 * numbers_kept ps + length ps.rows.items + length ps.unlike.items + 8

-- the bytes of room that are for values, and of those for times and pairs
abbrev pub table_room : Room → RoomSize
table_room r = record { values = length r.values.now; slots = max (length r.slots.now) (length r.shares.now); marks = 0 }

abbrev pub lists_count : Room → ℕ
lists_count r = 9 * length r.triggers.now + length r.flags.now + 8 * length r.classes.now + 8 * length r.last.now + 8 * length r.earlier.now + 8 * length r.due.now + 8 * length r.skips.now

-- windows of these lengths, the view, the pairs and the room count at most the bounds of the header
-- that is shown and of these names, with 512 bytes to spare
abbrev pub IsLentWithin : {X : Type 0} {g : Ghosts X} → Feed X g → HeadView → Pairs → Room → Asked → List Names → Type 0
IsLentWithin feed view ps room q ns =
    (h : Header) → IsViewOf view h
    → window_count (record { chunk = chunk_len_of feed; token = limit_of feed; value = limit_of feed }) + view_count
    (view_size (parts view)) + room_count (table_room room) + 512 + pairs_count ps + lists_count room ≤ input_bound
    (limit_of feed) h + pairs_bound q h ns
