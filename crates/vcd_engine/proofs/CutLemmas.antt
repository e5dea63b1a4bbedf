-- What `cut` writes with one item more, and what it keeps then.
use Rattle.vcd_engine.proofs.Cited.{◌≡◌, ◌≢◌, ℕ, ◌+◌, ◌≤◌, ◌<◌, ◌==◌, ◌⊎◌, inl, inr, nat_le, nat_lt, Bool, true, false, not, cond, ◌&&◌, List, [], ◌∷◌, ◌++◌, filter, flat_map, take, drop, length, get_or, slice_get, Option, Some, None, Result, Ok, refl, sym, ap, subst, ◌∙◌, arith, append-nil, IsErr, option_and_then, option_map, unwrap_or, take-append-drop, filter-append, le-leb, leb-false, lt-leb, lt-ltb, le-ltb, ltb-false, eq-eqb, ne_eqb, cut_close, cut_open, ends_cut, is_mark_above, is_started, line_if_set, start_section, times_of, IdCode, Header, head_for, value_before, BodyItem, Entry, entry_after, leaves_open, marks, time_after, closing, last_mark, may_keep, text_after, time_unless, due, none_kept, so_far_is, started_more, at_most, close_started, close_unstarted, cut_entries, due_both, due_kept, due_last, due_none, due_section, from_on, mark_kept, not_started, started_by, started_same, still_on, unstarted_by, above, value_before_is, keeps, kept_more, kept_same, last_is_enough, Device, Takes, AppendsSome, appends-first, appends-none, takes-failed, takes-first, takes-twice, Appends, AreCut, HasBegun, HasNone, IsNoTimestamp, kept_from, values_text, DueBy, TakesDue, TakesOne, last_time_of, Request, IsItem, TakesQuietly, HasWritten, LastTells, may_be_kept, times_with, AreHeld, HasValues, Cut, ItemText, parts, IsViewOf, Views, Code, HeadView, codes_len, code_at, slice_get-get_or, codes_shown, held_at, line_of, value_at_size, shown_are, AreRegsAfter, regs_after, Item, Time, Begin, End, Change, Finish, Regs, Table, held_still}
use Rattle.std.proofs.lemmas.List.Concat.{flat_map-append}
use Rattle.vcd_model.proofs.CutSteps.{last_tells}
use Rattle.vcd_engine.proofs.PickLemmas.{last_time}
use Rattle.vcd_engine.proofs.ItemTextLemmas.{may_is}
use Rattle.vcd_engine.proofs.ListLemmas.{next}
use Rattle.vcd_view.proofs.ListLemmas.{there}

-- ---- the values before a time

-- that is not reached: they are those after all items
pub values_before : (t : Table) (h : Header) (a : ℕ) (p : List BodyItem) → time_after p < a → AreHeld t h p → HasValues t h (λ c. value_before p c a)
values_before t h a p low held = record { laid = held.values.laid; each = λ place c declared event. held.values.each place c declared event ∙ sym (value_before_is c a p low) }

-- of no items
pub values_none : (t : Table) (h : Header) (a : ℕ) → AreHeld t h [] → HasValues t h (λ c. value_before [] c a)
values_none t h a held = record { laid = held.values.laid; each = held.values.each }

-- ---- the begin

pub open_begun : (h : Header) (a b : ℕ) → is_started a [] ≡ true → cut_open h a b [] ≡ head_for h [] ++ start_section h a []
open_begun h a b s = so_far_is h a b [] refl ∙ rw s (append-nil _)

pub open_plain : (h : Header) (a b : ℕ) → is_started a [] ≡ false → cut_open h a b [] ≡ head_for h []
open_plain h a b s = so_far_is h a b [] refl ∙ rw s (append-nil _ ∙ append-nil (head_for h []))

pub begun_at : (a : ℕ) → a ≡ 0 → is_started a [] ≡ true
begun_at a e = rw e refl

pub plain_at : (a : ℕ) → a ≢ 0 → is_started a [] ≡ false
plain_at a e = rw (ne_eqb a 0 e) refl

-- ---- a timestamp

-- it ends the cut or not
pub above_is : (b t : ℕ) → b < t → is_mark_above b (BodyItem.Time t) ≡ true
above_is b t l = lt-ltb b t l

within_is : (b t : ℕ) → t ≤ b → is_mark_above b (BodyItem.Time t) ≡ false
within_is b t l = le-ltb b t l

no_entries : (a : ℕ) (p : List BodyItem) (t : ℕ) → is_started a p ≡ false → cut_entries a (p ++ BodyItem.Time t ∷ []) ≡ []
no_entries a p t s = kept_same (from_on a) p (BodyItem.Time t) (mark_kept_at a p t) ∙ none_kept a p s
  where
    mark_kept_at : (a : ℕ) (p : List BodyItem) (t : ℕ) → keeps (from_on a) p (BodyItem.Time t) ≡ false
    mark_kept_at a p t = none (nat_le a (time_after p))
      where
        none : (x : Bool) → (x && false) ≡ false
        none true = refl
        none false = refl

module _ {E : Type 0} (h : Header) (a b : ℕ) (p : List BodyItem) (on : ends_cut b p ≡ false) (t : ℕ) (out out' : Device) (r : Result Bool E) where
  -- the start section was not wholly written
  pub begun_some : IsErr r → is_started a p ≡ false → a ≤ t → AppendsSome out.held out'.held (start_section h a p)
      → TakesDue out out' (cut_open h a b p) (cut_open h a b (p ++ BodyItem.Time t ∷ [])) r
  begun_some failed s le some = by_mark (is_mark_above b (BodyItem.Time t)) refl
    where
      by_mark : (m : Bool) → is_mark_above b (BodyItem.Time t) ≡ m → TakesDue out out' (cut_open h a b p) (cut_open h a b (p ++ BodyItem.Time t ∷ [])) r
      by_mark true m = (start_section h a p ++ time_unless (a ∷ []) b, due_both h a b p on t m s le, takes-first out.held out'.held (start_section h a p) (time_unless (a ∷ []) b) r failed some)
      by_mark false m = (start_section h a p, due_section h a b p on t m s le, takes-failed out.held out'.held (start_section h a p) r failed some)

  -- it was written, and the cut continues
  pub begun_on : is_started a p ≡ false → a ≤ t → t ≤ b → Takes out out' (start_section h a p) r → TakesDue out out' (cut_open h a b p) (cut_open h a b (p ++ BodyItem.Time t ∷ [])) r
  begun_on s le low all = (start_section h a p, due_section h a b p on t (within_is b t low) s le, all)

  -- it was written, and the cut ends
  pub begun_ended : (mid : Device) → is_started a p ≡ false → a ≤ t → b < t → Appends out.held mid.held (start_section h a p)
      → Takes mid out' (closing (times_with (a ∷ []) []) (Some b)) r
      → TakesDue out out' (cut_open h a b p) (cut_open h a b (p ++ BodyItem.Time t ∷ [])) r
  begun_ended mid s le high all last = (
    start_section h a p ++ time_unless (a ∷ []) b,
    due_both h a b p on t (above_is b t high) s le,
    takes-twice out.held mid.held out'.held (start_section h a p) (time_unless (a ∷ []) b) r all last,
  )

  -- it was there already, and the cut ends
  pub ended : is_started a p ≡ true → b < t → Takes out out' (closing (times_with (a ∷ []) (cut_entries a p)) (Some b)) r
      → TakesDue out out' (cut_open h a b p) (cut_open h a b (p ++ BodyItem.Time t ∷ [])) r
  ended s high last = (time_unless (a ∷ times_of (cut_entries a p)) b, due_last h a b p on t (above_is b t high) s, last)

-- it is there with the timestamp or not, as before
same_start : (a : ℕ) (p : List BodyItem) (t : ℕ) → (is_started a p ≡ true) ⊎ (t < a) → is_started a (p ++ BodyItem.Time t ∷ []) ≡ is_started a p
same_start a p t (inl s) = started_more a p (BodyItem.Time t ∷ []) s ∙ sym s
same_start a p t (inr low) = unstarted_by a p t low

-- nothing is due, and the cut continues
pub mark_passes : (h : Header) (a b : ℕ) (p : List BodyItem) (t : ℕ) → ends_cut b p ≡ false → t ≤ b → (is_started a p ≡ true) ⊎ (t < a)
    → cut_open h a b (p ++ BodyItem.Time t ∷ []) ≡ cut_open h a b p ++ []
mark_passes h a b p t on low stands = due_none h a b p on (BodyItem.Time t) (within_is b t low) (mark_kept h a b p on t) (same_start a p t stands)

-- ---- what is kept after a timestamp

module _ (h : Header) (items : List BodyItem) (m : Cut) (is : AreCut m h items) (t : ℕ) (low : t ≤ m.to) where
  still : ends_cut m.to (items ++ BodyItem.Time t ∷ []) ≡ false
  still = still_on h m.from m.to items is.on (BodyItem.Time t) (within_is m.to t low)

  pub goes_still : (is_started m.from items ≡ true) ⊎ (t < m.from) → AreCut m h (items ++ BodyItem.Time t ∷ [])
  goes_still stands = record {
    ordered = is.ordered;
    on = still;
    started_is = is.started_is ∙ sym (same_start m.from items t stands);
    held = λ none. held_still m.table h items (BodyItem.Time t) (λ c. refl) (is.held none);
    written = λ has. subst (λ (es : List Entry). HasWritten (m.from ∷ []) es m.text)
        (sym (kept_same (from_on m.from) items (BodyItem.Time t) (mark_kept h m.from m.to items is.on t))) (is.written has);
  }

  pub goes_begun : (m' : Cut) → m'.from ≡ m.from → m'.to ≡ m.to → m'.started ≡ true → HasWritten (m.from ∷ []) [] m'.text
      → is_started m.from items ≡ false → m.from ≤ t → AreCut m' h (items ++ BodyItem.Time t ∷ [])
  goes_begun m' same_from same_to begun text none le = record {
    ordered = rw (same_from, same_to) is.ordered;
    on = rw same_to still;
    started_is = rw same_from (begun ∙ sym (started_by m.from items t le));
    held = λ no. let s = begun in cc;
    written = λ has. rw same_from (subst (λ (es : List Entry). HasWritten (m.from ∷ []) es m'.text) (sym (no_entries m.from items t none)) text);
  }

-- ---- other items

-- what is read is no timestamp
no_mark : (codes : List IdCode) (text : List ℕ) (item : Item) (x : BodyItem) (b : ℕ) → IsItem codes text item x → IsNoTimestamp item
    → (is_mark_above b x ≡ false) × (marks (x ∷ []) ≡ [])
no_mark codes text (Time t) x b is none = absurd none
no_mark codes text (Begin s) x b is none = rw is (refl, refl)
no_mark codes text End x b is none = rw is (refl, refl)
no_mark codes text (Change place form) x b is none = rw (is.2) (refl, refl)
no_mark codes text Finish x b is none = absurd is

-- where the time has come
kept_from_time : (a : ℕ) (items : List BodyItem) (x : BodyItem) → is_started a items ≡ true → keeps (from_on a) items x ≡ may_keep x (leaves_open items)
kept_from_time a items x s = rw (le-leb a (time_after items) (due a items s)) refl

-- where it has not
none_from_time : (a : ℕ) (items : List BodyItem) (x : BodyItem) → is_started a items ≡ false → keeps (from_on a) items x ≡ false
none_from_time a items x s = rw (lt-leb a (time_after items) (not_started a items s)) refl

module _ (v : HeadView) (h : Header) (items : List BodyItem) (before : Regs) (m : Cut) (text : List ℕ) (item : Item) (x : BodyItem)
    (views : Views (parts v) h) (known : AreRegsAfter items before) (is : AreCut m h items) (read : IsItem h.codes text item x)
    (none : IsNoTimestamp item) where
  low : is_mark_above m.to x ≡ false
  low = (no_mark h.codes text item x m.to read none).0

  same : is_started m.from (items ++ x ∷ []) ≡ is_started m.from items
  same = started_same m.from items x (no_mark h.codes text item x m.to read none).1

  still_in : ends_cut m.to (items ++ x ∷ []) ≡ false
  still_in = still_on h m.from m.to items is.on x low

  -- it is kept where the definitions keep it
  pub kept_is : m.started ≡ true → may_be_kept v (regs_after before item) item ≡ keeps (from_on m.from) items x
  kept_is s = may_is v h items before text item x views known read ∙ sym (kept_from_time m.from items x (sym is.started_is ∙ s))

  -- and then the time is that of all items before it
  time_is : (i : Item) → IsNoTimestamp i → (regs_after before i).time ≡ time_after items
  time_is (Time t) n = absurd n
  time_is (Begin s) n = known.time_is
  time_is End n = known.time_is
  time_is (Change place form) n = known.time_is
  time_is Finish n = known.time_is

  pub item_time : (regs_after before item).time ≡ time_after items
  item_time = time_is item none

  -- the time that was written last tells of it
  pub item_tells : m.started ≡ true → LastTells (times_with (m.from ∷ []) (kept_from m.from items)) (time_after items)
  item_tells s = last_tells m.from items (time_after items) (due m.from items (sym is.started_is ∙ s)) (omega arith)

  -- a kept item
  pub due_item : (takes : List ℕ → Type 0) → m.started ≡ true → keeps (from_on m.from) items x ≡ true
      → DueBy takes (text_after (m.from ∷ []) (kept_from m.from items))
      (text_after (m.from ∷ []) (kept_from m.from items ++ entry_after items x ∷ []))
      → DueBy takes (cut_open h m.from m.to items) (cut_open h m.from m.to (items ++ x ∷ []))
  due_item takes s k d = (d.0, due_kept h m.from m.to items is.on x d.0 low (sym is.started_is ∙ s) k d.1, d.2)

  pub item_kept : (t : ItemText) → m.started ≡ true → keeps (from_on m.from) items x ≡ true
      → HasWritten (m.from ∷ []) (kept_from m.from items ++ entry_after items x ∷ []) t
      → AreCut (record { from = m.from; to = m.to; table = m.table; text = t; started = m.started }) h (items ++ x ∷ [])
  item_kept t s k has = record {
    ordered = is.ordered;
    on = still_in;
    started_is = is.started_is ∙ sym same;
    held = λ none. let e = s in cc;
    written = λ _. subst (λ (es : List Entry). HasWritten (m.from ∷ []) es t) (sym (kept_more (from_on m.from) items x true k)) has;
  }

  -- one that is not kept
  pub none_due : keeps (from_on m.from) items x ≡ false → cut_open h m.from m.to (items ++ x ∷ []) ≡ cut_open h m.from m.to items ++ []
  none_due k = due_none h m.from m.to items is.on x low k same

  pub item_passed : m.started ≡ true → keeps (from_on m.from) items x ≡ false → AreCut m h (items ++ x ∷ [])
  item_passed s k = record {
    ordered = is.ordered;
    on = still_in;
    started_is = is.started_is ∙ sym same;
    held = λ none. let e = s in cc;
    written = λ has. subst (λ (es : List Entry). HasWritten (m.from ∷ []) es m.text) (sym (kept_same (from_on m.from) items x k)) (is.written has);
  }

  -- one before the start section
  pub none_before : m.started ≡ false → cut_open h m.from m.to (items ++ x ∷ []) ≡ cut_open h m.from m.to items ++ []
  none_before s = none_due (none_from_time m.from items x (sym is.started_is ∙ s))

  pub item_held : (t : Table) → m.started ≡ false → AreHeld t h (items ++ x ∷ [])
      → AreCut (record { from = m.from; to = m.to; table = t; text = m.text; started = m.started }) h (items ++ x ∷ [])
  item_held t s held = record {
    ordered = is.ordered;
    on = still_in;
    started_is = is.started_is ∙ sym same;
    held = λ _. held;
    written = λ has. let e = s in cc;
  }

-- ---- the end

-- the last timestamp
last_time_is : (items : List BodyItem) (r : Regs) (t : ℕ) → AreRegsAfter items r → last_time_of r ≡ last_mark items → last_mark items ≡ Some t → t ≡ time_after items
last_time_is items r t known last e = last_time items r t known (last ∙ e)

-- the end of the span comes after all items
end_tells : (h : Header) (m : Cut) (items : List BodyItem) → AreCut m h items → LastTells (times_with (m.from ∷ []) (kept_from m.from items)) m.to
end_tells h m items is = last_tells m.from items m.to is.ordered (at_most m.to items is.on)

module _ (h : Header) (m : Cut) (items : List BodyItem) (r : Regs) (is : AreCut m h items) (known : AreRegsAfter items r) (last : last_time_of r ≡ last_mark items) where
  pub closes_unstarted : m.started ≡ false → start_section h m.from items ≡ cut_close h m.from m.to items
  closes_unstarted s = sym (close_unstarted h m.from m.to items is.on (sym is.started_is ∙ s) (λ t e. last_time_is items r t known last e))

  -- a timestamp that is not above the begin has its line
  above_or : (ts : List ℕ) (o : Option ℕ) → ((t : ℕ) → o ≡ Some t → m.from ≤ t) → closing (m.from ∷ ts) (above m.from o) ≡ closing (m.from ∷ ts) o
  above_or ts None le = refl
  above_or ts (Some t) le = by_test (nat_lt m.from t) refl
    where
      by_test : (b : Bool) → nat_lt m.from t ≡ b → closing (m.from ∷ ts) (cond (nat_lt m.from t) (Some t) None) ≡ closing (m.from ∷ ts) (Some t)
      by_test true e = rw e refl
      by_test false e =
          let low = ltb-false m.from t e in
          let high = le t refl in
          let one : (m.from == t) ≡ true = eq-eqb m.from t (omega arith) in
          rw (e, one) refl

  pub closes_started : m.started ≡ true → closing (times_with (m.from ∷ []) (kept_from m.from items)) (last_time_of r) ≡ cut_close h m.from m.to items
  closes_started s =
      let started = sym is.started_is ∙ s in
      ap (closing (times_with (m.from ∷ []) (kept_from m.from items))) last
      ∙ sym (above_or (times_of (kept_from m.from items)) (last_mark items) (λ t e. let same = last_time_is items r t known last e in let le = due m.from items started in omega (arith, same, le)))
      ∙ sym (close_started h m.from m.to items is.on started)

  pub close_tells : m.started ≡ true → (t : ℕ) → last_time_of r ≡ Some t → LastTells (times_with (m.from ∷ []) (kept_from m.from items)) t
  close_tells s t e =
      let same = last_time items r t known e in
      let le = due m.from items (sym is.started_is ∙ s) in
      last_tells m.from items t (omega (arith, same, le)) (omega (arith, same))

-- ---- the start section

-- the line of a code that is no event
pub line_at : (v : HeadView) (h : Header) (t : Table) (items : List BodyItem) (time i : ℕ) (c : IdCode) → IsViewOf v h → slice_get h.codes i ≡ Some c
    → c.event ≡ false → HasValues t h (λ d. value_before items d time) → line_of (codes_shown v) t i ≡ line_if_set c (value_before items c time)
line_at v h t items time i c views there event has =
    ap (λ (cs : List IdCode). line_of cs t i) (shown_are v h views)
    ∙ ap (λ (o : Option IdCode). unwrap_or (option_map (λ (d : IdCode). line_if_set d (option_and_then (λ (e : IdCode). value_at_size e.size (held_at t i)) o)) o) []) there
    ∙ ap (line_if_set c) (has.each i c there event)

values-append : (cs ds : List IdCode) (items : List BodyItem) (time : ℕ) → values_text (cs ++ ds) items time ≡ values_text cs items time ++ values_text ds items time
values-append cs ds items time =
    ap (flat_map (λ c. line_if_set c (value_before items c time))) (filter-append (λ (c : IdCode). not c.event) cs ds)
    ∙ flat_map-append (λ c. line_if_set c (value_before items c time)) (filter (λ c. not c.event) cs) (filter (λ c. not c.event) ds)

values_next : (cs : List IdCode) (items : List BodyItem) (time i : ℕ) (c : IdCode) → slice_get cs i ≡ Some c
    → values_text (take (i + 1) cs) items time ≡ values_text (take i cs) items time ++ values_text (c ∷ []) items time
values_next cs items time i c there = ap (λ l. values_text l items time) (next cs i c there) ∙ values-append (take i cs) (c ∷ []) items time

-- an event's adds none
pub values_pass : (cs : List IdCode) (items : List BodyItem) (time i : ℕ) (c : IdCode) → slice_get cs i ≡ Some c → c.event ≡ true
    → values_text (take (i + 1) cs) items time ≡ values_text (take i cs) items time
values_pass cs items time i c there event = values_next cs items time i c there ∙ rw event (append-nil (values_text (take i cs) items time))

pub values_line : (cs : List IdCode) (items : List BodyItem) (time i : ℕ) (c : IdCode) → slice_get cs i ≡ Some c → c.event ≡ false
    → values_text (take (i + 1) cs) items time ≡ values_text (take i cs) items time ++ line_if_set c (value_before items c time)
values_line cs items time i c there event = values_next cs items time i c there
    ∙ rw event (ap (λ l. values_text (take i cs) items time ++ l) (append-nil (line_if_set c (value_before items c time))))

-- the lines up to an index are some of all
pub values_rest : (cs : List IdCode) (items : List BodyItem) (time i : ℕ) → values_text cs items time ≡ values_text (take i cs) items time ++ values_text (drop i cs) items time
values_rest cs items time i = ap (λ l. values_text l items time) (sym (take-append-drop i cs)) ∙ values-append (take i cs) (drop i cs) items time

-- the code that is read at an index is a code of the header
pub read_code : (v : HeadView) (h : Header) (i : ℕ) (d : Code) → IsViewOf v h → i < length v.codes.now → (c : IdCode)
    × (slice_get h.codes i ≡ Some c) × ((get_or v.codes.now i d).event ≡ c.event)
read_code v h i d views within =
    let same = codes_len v.text.now v.codes.now h.codes views.codes in
    let found = there h.codes i (omega (arith, same, within)) in
    let m = code_at v.text.now v.codes.now h.codes i found.0 views.codes found.1 in
    let read = slice_get-get_or v.codes.now i d within in
    let known = m.1 in
    let one : get_or v.codes.now i d ≡ m.0 = cc in
    (found.0, found.1, ap (λ (y : Code). y.event) one ∙ m.2.event_is)

-- ---- a timestamp, after the start section

-- the values that the start section has
pub values_due : (h : Header) (items : List BodyItem) (m : Cut) → AreCut m h items → m.started ≡ false → HasValues m.table h (λ c. value_before items c m.from)
values_due h items m is s = values_before m.table h m.from items (not_started m.from items (sym is.started_is ∙ s)) (is.held s)

-- why none was due
stood : (h : Header) (items : List BodyItem) (m : Cut) (t : ℕ) → AreCut m h items → (m.started ≡ true) ⊎ (t < m.from) → (is_started m.from items ≡ true) ⊎ (t < m.from)
stood h items m t is (inl s) = inl (sym is.started_is ∙ s)
stood h items m t is (inr low) = inr low

-- the cut continues
pub mark_goes : {E : Type 0} (h : Header) (items : List BodyItem) (m m' : Cut) (t : ℕ) (out out' : Device) (r : Result Bool E) → r ≡ Ok false
    → AreCut m h items → t ≤ m.to → m'.from ≡ m.from → m'.to ≡ m.to → HasBegun h items t m m' out out' ⊎ HasNone t m m' out out'
    → TakesOne (AreCut m' h (items ++ BodyItem.Time t ∷ [])) (Request.Cut m.from m.to) h items (BodyItem.Time t) out out' r
mark_goes {E} h items m m' t out out' r e is low same_from same_to (inl begun) = record {
  due = begun_on h m.from m.to items is.on t out out' r (sym is.started_is ∙ begun.due) begun.come low
      (subst (λ (q : Result Bool E). Takes out out' (start_section h m.from items) q) (sym e) begun.section);
  ends = rw e (sym (within_is m.to t low));
  keeps = λ _. goes_begun h items m is t low m' same_from same_to begun.stands begun.text (sym is.started_is ∙ begun.due) begun.come;
}
mark_goes {E} h items m m' t out out' r e is low same_from same_to (inr none) = record {
  due = ([], mark_passes h m.from m.to items t is.on low (stood h items m t is none.why), rw (e, none.nothing) (appends-none out.held));
  ends = rw e (sym (within_is m.to t low));
  keeps = λ _. rw none.same (goes_still h items m is t low (stood h items m t is none.why));
}

-- the cut ends
pub mark_ends : {A E : Type 0} (h : Header) (items : List BodyItem) (m m' : Cut) (t : ℕ) (out mid out' : Device) (r : Result A E)
    (r' : Result Bool E) → AreCut m h items → m.to < t → HasBegun h items t m m' out mid ⊎ HasNone t m m' out mid
    → ((before : List ℕ) (kept : List Entry) → HasWritten before kept m'.text → ((u : ℕ) → Some m.to ≡ Some u → LastTells (times_with before kept) u)
    → Takes mid out' (closing (times_with before kept) (Some m.to)) r)
    → ((l : List ℕ) → Takes mid out' l r → Takes mid out' l r')
    → TakesDue out out' (cut_open h m.from m.to items) (cut_open h m.from m.to (items ++ BodyItem.Time t ∷ [])) r'
mark_ends h items m m' t out mid out' r r' is high (inl begun) closes same =
    begun_ended h m.from m.to items is.on t out out' r' mid (sym is.started_is ∙ begun.due) begun.come high begun.section
    (same (closing (times_with (m.from ∷ []) []) (Some m.to)) (closes (m.from ∷ []) [] begun.text (λ u e. let one : m.to ≡ u = cc in
    subst (λ n. LastTells (m.from ∷ []) n) one (last_is_enough m.to m.from [] is.ordered))))
mark_ends h items m m' t out mid out' r r' is high (inr none) closes same =
    let stands = already none.why in
    let started = sym is.started_is ∙ stands in
    let text = subst (λ (y : Cut). HasWritten (m.from ∷ []) (kept_from m.from items) y.text) (sym none.same) (is.written stands) in
    ended h m.from m.to items is.on t out out' r' started high
    (subst (λ (d : Device). Takes d out' (closing (times_with (m.from ∷ []) (kept_from m.from items)) (Some m.to)) r') none.nothing
    (same (closing (times_with (m.from ∷ []) (kept_from m.from items)) (Some m.to))
    (closes (m.from ∷ []) (kept_from m.from items) text (λ u e. let one : m.to ≡ u = cc in
    subst (λ n. LastTells (times_with (m.from ∷ []) (kept_from m.from items)) n) one (end_tells h m items is)))))
  where
    already : (m.started ≡ true) ⊎ (t < m.from) → m.started ≡ true
    already (inl s) = s
    already (inr low) = let le = is.ordered in absurd (omega (arith, le, low, high))

-- ---- items that are no timestamps

pub no_mark_is : (item : Item) → ((time : ℕ) → item ≢ Time time) → IsNoTimestamp item
no_mark_is (Time t) none = absurd (none t refl)
no_mark_is (Begin s) none = tt
no_mark_is End none = tt
no_mark_is (Change place form) none = tt
no_mark_is Finish none = tt

-- ---- the begin of a cut

-- a prefix of the header is one of the text before all items
pub open_some : (h : Header) (a b : ℕ) (old new : Option (List ℕ)) → AppendsSome old new (head_for h []) → AppendsSome old new (cut_open h a b [])
open_some h a b old new some = by_start (is_started a []) refl
  where
    by_start : (s : Bool) → is_started a [] ≡ s → AppendsSome old new (cut_open h a b [])
    by_start true s = rw (open_begun h a b s) (appends-first old new (head_for h []) (start_section h a []) some)
    by_start false s = rw (open_plain h a b s) some

pub starts_begun : (h : Header) (m : Cut) (a b : ℕ) → m.from ≡ a → m.to ≡ b → a ≤ b → m.started ≡ true → HasWritten (a ∷ []) [] m.text
    → is_started a [] ≡ true → AreCut m h []
starts_begun h m a b same_from same_to le started text now = record {
  ordered = rw (same_from, same_to) le;
  on = refl;
  started_is = rw same_from (started ∙ sym now);
  held = λ none. let s = started in cc;
  written = λ _. rw same_from text;
}

pub starts_plain : (h : Header) (m : Cut) → m.from ≤ m.to → m.started ≡ false → AreHeld m.table h [] → is_started m.from [] ≡ false → AreCut m h []
starts_plain h m le none held later = record {
  ordered = le;
  on = refl;
  started_is = none ∙ sym later;
  held = λ _. held;
  written = λ has. let s = none in cc;
}

-- ---- items that are taken ahead

module _ (h : Header) (items : List BodyItem) (m : Cut) (time : ℕ) (is : AreCut m h items) where
  mark_quiet : time ≤ m.to → (is_started m.from items ≡ true) ⊎ (time < m.from)
      → TakesQuietly (AreCut m h (items ++ BodyItem.Time time ∷ [])) (Request.Cut m.from m.to) h items (BodyItem.Time time)
  mark_quiet low why = record {
    due = mark_passes h m.from m.to items time is.on low why;
    on = within_is m.to time low;
    keeps = goes_still h items m is time low why;
  }

  -- a timestamp with which the start section is not due
  pub mark_before : nat_le m.from time ≡ false → TakesQuietly (AreCut m h (items ++ BodyItem.Time time ∷ [])) (Request.Cut m.from m.to) h items (BodyItem.Time time)
  mark_before early =
      let order = is.ordered in
      let less = leb-false m.from time early in
      mark_quiet (omega (arith, order, less)) (inr less)

  -- a timestamp after it, up to the end
  pub mark_within : m.started ≡ true → nat_lt m.to time ≡ false → TakesQuietly (AreCut m h (items ++ BodyItem.Time time ∷ [])) (Request.Cut m.from m.to) h items (BodyItem.Time time)
  mark_within begun low = mark_quiet (ltb-false m.to time low) (inl (sym is.started_is ∙ begun))
