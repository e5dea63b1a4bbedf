use Rattle.vcd_compare.proofs.Cited.{◌≤◌, [], length, flat_map, get_or, take, sym, subst, ◌∙◌, add-one, arith, take_all, slice_get-get_or, alone_in, compared_in, turned, unlike_in, IsCode, IsReady, AreNumbersOf, ArePlaces, FindPlaces, HasPairs, Pairs}
use Rattle.vcd_compare.proofs.Facts.{HeldNames, both_one, listed_variables, names_next, same_len, zip_from}
use Rattle.vcd_compare.proofs.pairs.pairs_between.Goals as goal

pub loop-one-init : goal.loop-one-init
loop-one-init c = λ q h ns texts view ready zip.
    let codes = same_len (IsCode c.args.view.text.now) c.args.view.codes.now h.codes view.codes in (
      subst (λ k. IsReady k c.in_ok-places.places) (c.len.ensures.len ∙ sym ready.has.len) c.in_ok-places.ensures,
      subst (λ k. HasPairs k c.in_ok-pairs.pairs h [] [] [] []) (sym c.with_hasher-keys.ensures.empty) (c.in_ok-pairs.ensures h codes),
    )

pub loop-one-preserved : goal.loop-one-preserved
loop-one-preserved c = λ q h ns texts view ready zip.
    let i = c.loop-one.one-index in
    let paths = c.args.paths.now in
    let vs = c.args.variables.now in
    let lists = c.args.lists.now in
    let key = get_or c.args.numbers.now i (0, 0) in
    let n = zip_from (AreNumbersOf texts) c.args.numbers.now ns i key zip (slice_get-get_or c.args.numbers.now i (0, 0) c.loop-one-test.true) in
    let named = both_one ns i n.0 n.1 in
    let before = take i ns in
    let others = flat_map (λ m. alone_in q h (turned m)) before in
    let s = c.loop-one.invariant q h ns texts view ready zip in
    let selected = listed_variables paths vs lists q h ns texts ready n.0 key.0 n.2.0 named.0 c.list_at-selected.result.now c.list_at-selected.ensures in
    let placed = c.in_ok-place_paths.ensures q h n.0 texts ready.has ready.are n.2.0 n.2.1 selected s.0 in
    let finds : FindPlaces q h n.0 texts vs c.deref.result.now = record { apart = ready.has.apart; are = ready.are; placed = subst (ArePlaces q h n.0 texts) (sym c.deref.ensures.value) placed.1 } in
    let more = c.in_ok-add_pairs.ensures q h n.0 texts (compared_in q h before) (unlike_in q h before) (flat_map (alone_in q h) before) others view finds selected s.1 in
    let turned_selected = listed_variables paths vs lists q h ns texts ready (turned n.0) key.1 n.2.1 named.1 c.list_at-selected-in-loop-one.result.now c.list_at-selected-in-loop-one.ensures in
    let turned_placed = c.in_ok-place_paths-2.ensures q h (turned n.0) texts ready.has ready.are n.2.1 n.2.0 turned_selected placed.0 in
    let turned_finds : FindPlaces q h
    (turned n.0) texts vs c.deref-in-loop-one.result.now = record {
      apart = ready.has.apart;
      are = ready.are;
      placed = subst
          (ArePlaces q h (turned n.0) texts) (sym c.deref-in-loop-one.ensures.value) turned_placed.1;
    } in
    let alone = c.in_ok-add_alone.ensures q h (turned n.0) texts others turned_finds turned_selected more.holds.alone_other in
    let new : Pairs = record c.add_pairs.new.pairs { alone_other = c.add_alone.new.alone } in (
      turned_placed.0,
      subst (HeldNames q h ns c.add_pairs.new.keys.keys new) (sym (add-one i)) (names_next q h ns c.add_pairs.new.keys.keys c.add_pairs.new.pairs c.add_alone.new.alone i n.0 n.1 more alone),
    )

pub returns : goal.returns
returns c = λ q h ns texts view ready zip.
    let s = (c.loop-one.invariant q h ns texts view ready zip).1 in
    let len = same_len (AreNumbersOf texts) c.args.numbers.now ns zip in
    let past : length ns ≤ c.loop-one.one-index = omega (arith, len, c.loop-one-test.false) in
    (subst (λ l. HasPairs c.loop-one.keys.keys c.loop-one.pairs h (compared_in q h l) (unlike_in q h l) (flat_map (alone_in q h) l)
    (flat_map (λ m. alone_in q h (turned m)) l)) (take_all c.loop-one.one-index ns past) s).holds
