-- What a strobe is lent counts at most the bound, and is enough.
use Rattle.std.proofs.Common.{◌≡◌, ℕ, suc, ◌+◌, ◌*◌, ◌<◌, ◌≤◌, List, [], ◌∷◌, length, map, slice_get, option_map, unwrap_or, Option, Some, refl, sym, ap, subst, ◌∙◌, arith}
use Rattle.std.specs.Prelude.{sum_by}
use Rattle.std.specs.List.{AllByRecursion}
use Rattle.std.specs.Str.{byte}
use Rattle.std.proofs.lemmas.List.{length-map, length-replicate}
use Rattle.std.proofs.lemmas.List.Sums.{sum_by-cons}
use Rattle.std.proofs.lemmas.Slice.Zip.{AllZip-long}
use Rattle.vcd_model.proofs.BoundLemmas.{room_fits}
use Rattle.vcd_model.specs.Bound.{FitsInput, WindowSize, input_bound, no_room, value_room, view_count, window_count}
use Rattle.vcd_model.specs.Declarations.{IdCode}
use Rattle.vcd_model.specs.Header.{Header}
use Rattle.vcd_model.specs.Strobe.{clocks_of}
use Rattle.vcd_view.proofs.RoomLemmas.{is_view}
use Rattle.vcd_view.specs.Needs.{value_bytes, view_size}
use Rattle.vcd_view.specs.Shown.{parts}
use Rattle.vcd_view.specs.Views.{IsCode, IsSize, IsViewOf}
use Rattle.vcd_view.specs.declared.view.Code.{Code}
use Rattle.vcd_view.specs.declared.view.HeadView.{HeadView}
use Rattle.vcd_body.specs.Contents.{codes_shown, shown_code}
use Rattle.vcd_strobe.specs.Codes.{longest_text}
use Rattle.vcd_strobe.specs.Lines.{ArePlaces, place_of}
use Rattle.vcd_strobe.specs.Strobes.{AreFresh, Suffices}
use Rattle.vcd_strobe.specs.declared.start.Room.{Room}
use Rattle.vcd_strobe_words.specs.Asked.{strobe_in}
use Rattle.vcd_strobe_words.specs.declared.strobing.Strobing.{Strobing}
use Rattle.vcdkit_strobe.specs.Bound.{code_bound, head_count, places_count, strobe_bound}
use Rattle.vcdkit_strobe.specs.Calls.{IsHeadMemory, IsRoomFor, IsSelected}
use Rattle.vcdkit_strobe.specs.declared.room.HeadMemory.{HeadMemory}

-- ---- sums over codes

-- four places for each code
four : (l cs : List IdCode) → ((code place : ℕ) → place < 4 → slice_get l (place_of code place) ≡ slice_get cs code)
    → (sum_by value_room l ≡ 4 * sum_by value_room cs) × (length l ≡ 4 * length cs)
four [] [] each = (refl, refl)
four [] (c ∷ cs) each = let e = each 0 0 (omega arith) in absurd (cc)
four (w ∷ l) [] each = let e = each 0 0 (omega arith) in absurd (cc)
four (w ∷ []) (c ∷ cs) each = let e = each 0 1 (omega arith) in absurd (cc)
four (w ∷ x ∷ []) (c ∷ cs) each = let e = each 0 2 (omega arith) in absurd (cc)
four (w ∷ x ∷ y ∷ []) (c ∷ cs) each = let e = each 0 3 (omega arith) in absurd (cc)
four (w ∷ x ∷ y ∷ z ∷ l) (c ∷ cs) each =
    let next : (code place : ℕ) → place_of (suc code) place ≡ suc (suc (suc (suc (place_of code place)))) = λ code place. omega arith in
    let more = four l cs (λ code place low. subst (λ n. slice_get (w ∷ x ∷ y ∷ z ∷ l) n ≡ slice_get cs code) (next code place) (each (suc code) place low)) in
    let same : (place : ℕ) (a : IdCode) → Some a ≡ Some c → value_room a ≡ value_room c = λ place a e. ap (λ (o : Option IdCode). unwrap_or (option_map value_room o) 0) e in
    let w' = same 0 w (each 0 0 (omega arith)) in
    let x' = same 1 x (each 0 1 (omega arith)) in
    let y' = same 2 y (each 0 2 (omega arith)) in
    let z' = same 3 z (each 0 3 (omega arith)) in
    let a = sum_by-cons value_room w (x ∷ y ∷ z ∷ l) in
    let b = sum_by-cons value_room x (y ∷ z ∷ l) in
    let d = sum_by-cons value_room y (z ∷ l) in
    let e = sum_by-cons value_room z l in
    let f = sum_by-cons value_room c cs in
    (omega (arith, w', x', y', z', a, b, d, e, f, more.0), omega (arith, more.1))

shown_sum : (text : List ℕ) (cs : List Code) → sum_by value_room (map (shown_code text) cs) ≡ sum_by value_bytes cs
shown_sum text [] = refl
shown_sum text (c ∷ cs) = sum_by-cons value_room (shown_code text c) (map (shown_code text) cs) ∙ ap (λ n. value_bytes c + n) (shown_sum text cs)
    ∙ sym (sum_by-cons value_bytes c cs)

-- a size is below 2 ^ 24
values_low : (cs : List IdCode) → AllByRecursion (λ (k : IdCode). IsSize k.size) cs → sum_by value_room cs ≤ length cs * 4194304
values_low [] s = omega arith
values_low (c ∷ cs) s = let most = s.0.most in let more = sum_by-cons value_room c cs in let rest = values_low cs s.1 in omega arith

bound_sum : (cs : List IdCode) → sum_by code_bound cs ≡ 4 * sum_by value_room cs + 312 * length cs
bound_sum [] = refl
bound_sum (c ∷ cs) = let a = sum_by-cons code_bound c cs in let b = sum_by-cons value_room c cs in let rest = bound_sum cs in omega arith

-- ---- what is lent

module _ (v places : HeadView) (h : Header) (r : Room) (m : HeadMemory) (clocks : ℕ) (views : IsViewOf v h) (head : IsHeadMemory v clocks m)
    (are : ArePlaces (codes_shown places) h.codes) (room : IsRoomFor v places r) where
  all_values : sum_by value_bytes places.codes.now ≡ 4 * sum_by value_room h.codes
  all_values = sym (shown_sum places.text.now places.codes.now) ∙ (four (codes_shown places) h.codes are.each).0

  all_codes : length places.codes.now ≡ 4 * length h.codes
  all_codes = sym (length-map places.codes.now (shown_code places.text.now)) ∙ (four (codes_shown places) h.codes are.each).1

  codes_len : length h.codes ≡ length v.codes.now
  codes_len = AllZip-long (IsCode v.text.now) v.codes.now h.codes views.codes

  pub lent_within : (limit chunk : ℕ) → chunk ≤ 65536
      → window_count (record { chunk = chunk; token = limit; value = limit }) + view_count (view_size (parts v)) + 512 + places_count places r + head_count m
      ≤ input_bound limit h + strobe_bound clocks h
  lent_within limit chunk le =
      let is = is_view (parts v) h views in
      let windows : WindowSize = record { chunk = chunk; token = limit; value = limit } in
      let fits : FitsInput limit h windows (view_size (parts v)) no_room =
      room_fits limit h windows (view_size (parts v)) no_room (record { chunk = le; token = omega arith; value = omega arith }) is
      (record { values = omega arith; slots = omega arith; marks = omega arith }) in
      let id : length m.id.items ≡ 1 + longest_text h.codes = ap length (head.id h views) ∙ length-replicate (1 + longest_text h.codes) (byte "!") in
      let sum = bound_sum h.codes in
      let rows : length v.rows.now ≤ length h.declarations = is.rows in
      omega (arith, fits, id, sum, rows, all_values, all_codes, codes_len, room.values, room.slots, room.shares, room.roles, room.listed, head.marks, head.flags, head.clocks_len)

  pub suffices : (job : Strobing) → IsSelected job h m → AreFresh h (strobe_in job).names r.roles.now
      → Suffices places (length r.values.now) (length r.listed.now) r.roles.now m.clocks.items m.id.items h (strobe_in job).names (clocks_of h (strobe_in job).clocks)
  suffices job selected fresh =
      let low = values_low h.codes views.sizes in
      let few = views.few in
      let few_codes = views.few_codes in
      record {
        places = are;
        bytes_fit = omega (arith, room.values, all_values, low, few, few_codes);
        list_fits = omega (arith, room.listed, codes_len);
        roles_are = fresh;
        clocks_are = selected.clocks;
        id_is = head.id h views;
      }
