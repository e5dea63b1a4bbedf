-- `pick` keeps the values of the selected codes.
use Rattle.vcd_laws.proofs.Cited.{◌≡◌, ℕ, ◌<◌, Bool, true, false, not, ◌&&◌, nat_le, List, [], ◌++◌, map, filter, Option, Some, None, refl, sym, ap, ◌∙◌, arith, append_assoc, and_parts, IdCode, has_text, BodyItem, Entry, entries, value_at, may_keep, text_after, closing, last_mark, declared_code, head_for, Selected, selected, selects_code, is_picked, items_in, Value, KeepsValues, PickKeeps, AreFit, open_behind, entries_from, at_start, entries_are, latest, gives_at, behind, last_value_is, latest-filter, IsRead, Parts, parts_items, parts_read, parts_values, last_mark_is, time_behind_small, KeepsSections, kept_writable, kept_open, kept_last, AreCodes, find_all, find-filter, all_kept, at_contained, gives_kept}
use Rattle.vcd_model.specs.Pick.{pick_open, pick_close}
use Rattle.vcd_laws.proofs.OpenedBodies.{opened_fit, opened_shut, opens_good}

abbrev pub picks : List Selected → Entry → Bool
picks vs e = is_picked vs e.item && may_keep e.item e.inside

picks_sections : (codes : List IdCode) (vs : List Selected) → AreCodes codes → KeepsSections codes (filter (selects_code vs) codes) (picks vs) 0
picks_sections codes vs are = record {
  no_time = λ t u o. refl;
  begins = λ t o s l. refl;
  ends = λ t o l. refl;
  changes = λ t o c e good. (
    record {
      declared = find-filter (has_text c.code.text) (selects_code vs) codes c.code good.declared
          (and_parts (selects_code vs c.code) (not (c.code.event && o)) e).0;
      word = good.word;
      text = good.text;
    },
    find_all (λ (d : IdCode). 0 < d.size) (has_text c.code.text) codes c.code are.filled good.declared,
  );
}

pub pick_parts : (codes : List IdCode) (vs : List Selected) (items : List BodyItem) → AreCodes codes → AreFit codes 0 false items → open_behind false items ≡ false
    → Parts (filter (selects_code vs) codes) [] [] (filter (picks vs) (entries_from 0 false items)) (last_mark items)
pick_parts codes vs items are fit shut = record {
  fit = tt;
  shut = refl;
  writable = kept_writable codes (filter (selects_code vs) codes) (picks vs) 0 (picks_sections codes vs are) 0 0 false items fit (omega arith) (omega arith) (omega arith) (λ e. cc);
  closed = kept_open codes (filter (selects_code vs) codes) (picks vs) 0 (picks_sections codes vs are) 0 false items fit (omega arith) ∙ shut;
  stand = record { below = tt; there = λ e. cc };
  last = λ e h. let m = last_mark_is 0 items e h in let k = kept_last codes (picks vs) 0 0 false items fit (omega arith) in
      let s = time_behind_small codes 0 false items (omega arith) fit in (omega arith, omega arith);
}

pub behind-none : (o : Option Value) → behind o None ≡ o
behind-none (Some v) = refl
behind-none None = refl

pick_values : (codes : List IdCode) (vs : List Selected) (items : List BodyItem) (c : IdCode) (t : ℕ) → AreCodes codes → AreFit codes 0 false items
    → open_behind false items ≡ false → declared_code codes c.text ≡ Some c → selects_code vs c ≡ true → c.event ≡ false
    → value_at (parts_items [] [] (filter (picks vs) (entries_from 0 false items)) (last_mark items)) c t ≡ value_at items c t
pick_values codes vs items c t are fit shut declared picked quiet =
    let kept = filter (picks vs) (entries_from 0 false items) in
    last_value_is c (λ u. nat_le u t) (parts_items [] [] kept (last_mark items))
    ∙ parts_values (filter (selects_code vs) codes) [] [] kept (last_mark items) c (λ u. nat_le u t) (pick_parts codes vs items are fit shut)
    (find-filter (has_text c.text) (selects_code vs) codes c declared picked) quiet
    ∙ behind-none (latest (gives_at c (λ u. nat_le u t)) kept)
    ∙ latest-filter (gives_at c (λ u. nat_le u t)) (picks vs) (entries_from 0 false items)
    (gives_kept codes c (λ u. nat_le u t) (picks vs) 0 0 false items declared (λ u p d l e h. rw (e, picked, quiet) refl) (omega arith) fit)
    ∙ ap (latest (gives_at c (λ u. nat_le u t))) (sym (entries_are codes [] 0 false items at_start fit))
    ∙ sym (last_value_is c (λ u. nat_le u t) items)

pub pick_keeps_items : (codes : List IdCode) (vs : List Selected) (items : List BodyItem) (text : List ℕ) → AreCodes codes → AreFit codes 0 false items → open_behind false items ≡ false
    → text ≡ text_after [] (filter (picks vs) (entries items)) ++ closing (map (λ e. e.time) (filter (picks vs) (entries items))) (last_mark items)
    → KeepsValues (filter (selects_code vs) codes) text (λ t. Unit {0}) items
pick_keeps_items codes vs items text are fit shut e =
    let es = entries_are codes [] 0 false items at_start fit in
    let kept = filter (picks vs) (entries_from 0 false items) in
    let is : IsRead (filter (selects_code vs) codes) text (parts_items [] [] kept (last_mark items))
    = parts_read (filter (selects_code vs) codes) [] [] kept (last_mark items) text (pick_parts codes vs items are fit shut) (e
    ∙ ap (λ l. text_after [] (filter (picks vs) l) ++ closing (map (λ x. x.time) (filter (picks vs) l)) (last_mark items)) es) in
    record {
      whole = is.whole;
      values = λ c t in_list quiet in_time.
          let f = at_contained (λ (d : IdCode). (declared_code codes d.text ≡ Some d) × (selects_code vs d ≡ true)) (filter (selects_code vs) codes) c
          (all_kept (λ (d : IdCode). declared_code codes d.text ≡ Some d) (λ (d : IdCode). (declared_code codes d.text ≡ Some d)
          × (selects_code vs d ≡ true)) (selects_code vs) codes (λ d a b. (a, b)) are.found) in_list in
          ap (λ (l : List BodyItem). value_at l c t) is.items ∙ pick_values codes vs items c t are fit shut f.0 f.1 quiet;
    }

pub pick_keeps : PickKeeps
unfolding pick_open pick_close
pick_keeps limit input o names opens none =
    let good = opens_good limit input o opens in
    let vs = selected names o.header.declarations in
    let kept = filter (picks vs) (entries (items_in o)) in
    let text : List ℕ = text_after [] kept ++ closing (map (λ x. x.time) kept) (last_mark (items_in o)) in (
      text,
      append_assoc (head_for o.header names) (text_after [] kept) (closing (map (λ x. x.time) kept) (last_mark (items_in o))),
      pick_keeps_items o.header.codes vs (items_in o) text good.codes (opened_fit o good) (opened_shut o good none) refl,
    )
