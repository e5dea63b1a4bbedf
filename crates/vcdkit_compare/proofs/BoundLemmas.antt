-- What a comparison is lent counts at most the bound.
use Rattle.std.proofs.Common.{ℕ, ◌+◌, ◌≤◌, List, length, ap, ◌∙◌, arith, None}
use Rattle.std.proofs.lemmas.List.{length-replicate}
use Rattle.vcd_model.proofs.BoundLemmas.{room_fits}
use Rattle.vcd_model.specs.Bound.{FitsInput, WindowSize, input_bound, room_count, view_count, window_count}
use Rattle.vcd_model.specs.Compare.{Asked}
use Rattle.vcd_model.specs.Header.{Header}
use Rattle.vcd_model.specs.Within.{Names}
use Rattle.vcd_view.proofs.RoomLemmas.{is_view, same_sum}
use Rattle.vcd_view.specs.Needs.{view_size}
use Rattle.vcd_view.specs.Shown.{parts}
use Rattle.vcd_view.specs.Views.{IsViewOf}
use Rattle.vcd_view.specs.declared.view.HeadView.{HeadView}
use Rattle.vcd_compare.specs.Pairs.{AreFew, ArePairs}
use Rattle.vcd_compare.specs.declared.pairs.Pairs.{Pairs}
use Rattle.vcd_compare.specs.declared.whole.Room.{Room}
use Rattle.vcdkit_compare.specs.Bound.{lists_count, pairs_bound, pairs_count, table_room}
use Rattle.vcdkit_compare.specs.Calls.{IsRoomFor}

module _ (limit chunk : ℕ) (v : HeadView) (h : Header) (ps : Pairs) (r : Room) (q : Asked) (ns : List Names) (le : chunk ≤ 65536)
    (views : IsViewOf v h) (room : IsRoomFor v ps r) (are : ArePairs ps h q ns) (few : AreFew ps h q ns) where
  abbrev windows : WindowSize
  windows = record { chunk = chunk; token = limit; value = limit }

  table_fits : FitsInput limit h windows (view_size (parts v)) (table_room r)
  table_fits =
      let is = is_view (parts v) h views in
      let codes : length v.codes.now ≤ length h.codes = is.codes in
      let sum = same_sum v.text.now v.codes.now h.codes views.codes in
      room_fits limit h windows (view_size (parts v)) (table_room r) (record { chunk = le; token = omega arith; value = omega arith }) is
      (record { values = omega (arith, room.values, sum); slots = omega (arith, room.slots, room.shares, codes); marks = omega arith })

  pub lent_within : window_count windows + view_count (view_size (parts v)) + room_count (table_room r) + 512 + pairs_count ps + lists_count r ≤ input_bound limit h + pairs_bound q h ns
  lent_within =
      let codes : length v.codes.now ≤ length h.codes = (is_view (parts v) h views).codes in
      let triggers = ap length room.triggers ∙ length-replicate (length v.codes.now) None in
      let flags = ap length room.flags ∙ length-replicate ps.classes 0 in
      let last = ap length room.last ∙ length-replicate ps.classes 0 in
      let skips = ap length room.skips ∙ length-replicate (length ps.ends.items) 0 in
      let ends = are.classes in
      let rows = are.few in
      omega (arith, table_fits, codes, triggers, flags, last, skips, ends, rows, room.classes, room.earlier, room.due, few)
