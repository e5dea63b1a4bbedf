-- How a comparison stands with one item more.
use Rattle.vcd_compare.proofs.Cited.{zero, ◌≡◌, ◌⊎◌, inl, inr, ℕ, suc, ◌<◌, ◌≤◌, ◌*◌, ◌==◌, max, Bool, true, false, cond, ◌&&◌, ◌||◌, nat_lt, List, [], ◌∷◌, ◌++◌, length, fold, filter, slice_get, get_or, Option, Some, None, refl, sym, ap, ◌∙◌, append-nil, arith, IfSome, AllByRecursion, AllZip, list_any, cases_eq, lt-ltb, ltb-false, or-false, or_from, or_parts, list_any-append, slice_get_cases, IdCode, code_of, Header, gives_to, BodyItem, marks, time_after, is_settled, Extent, Pair, differs, is_mark_above, Names, compared_in, side, times_in, within_open, fold-append, marks-append, time_after-append, IsItem, IsSection, Form, Item, Time, Begin, Change, Finish, held_still, model_asked, AreCurrent, AreFlags, AreMarks, AreSkips, Compares, HasFlags, IsLastTrigger, differs_at, flag_by, settled_as, some_below, some_differ, stops_before, DoNotFall, codes_differ, had_line, is_always, lines_due, time_compared, ArePairs, IsClassOf, IsPairAt, Comparison, Watched, Current, PairRow, Pairs}
use Rattle.vcd_model.specs.Compare.{Asked as ModelAsked}
use Rattle.vcd_body.specs.declared.item.Item.TheVariants.{End}
use Rattle.vcd_compare.specs.Lines.{flag_of}
use Rattle.vcd_compare.specs.declared.pairs.End.{End as PairEnd}
use Rattle.vcd_compare.proofs.DueFlags.{flag_for, none_due, none_had}
use Rattle.vcd_compare.proofs.FlagLemmas.{compared_is, compared_other, differ_same, flag_after, flag_same, settled_flag, settled_mark, settled_other}
use Rattle.vcd_compare.proofs.OpenGrows.{changes_other, later_compared, open_again, open_later, open_other, state_other, triggered_other}
use Rattle.vcd_compare.proofs.PairLemmas.{class_events}
use Rattle.vcd_compare.proofs.SkipLemmas.{skips_stay}
use Rattle.vcd_compare.proofs.StatesNow.{differs_is}
use Rattle.vcd_compare.specs.Comparing.{differs_now}
use Rattle.vcd_compare.proofs.QuietLemmas.{compared_again, flag_again, no_fall-marks, no_fall-other, quiet_after, quiet_again, quiet_other}

-- an item that is no timestamp is none above a time
no_mark_above : (to : ℕ) (x : BodyItem) → marks (x ∷ []) ≡ [] → is_mark_above to x ≡ false
no_mark_above to (BodyItem.Time t) none = cc
no_mark_above to (BodyItem.Begin s) none = refl
no_mark_above to BodyItem.End none = refl
no_mark_above to (BodyItem.Changes c) none = refl

one_more : (to : ℕ) (items : List BodyItem) (x : BodyItem) → list_any (is_mark_above to) items ≡ false → is_mark_above to x ≡ false
    → list_any (is_mark_above to) (items ++ x ∷ []) ≡ false
one_more to items x on none = list_any-append (is_mark_above to) items (x ∷ []) ∙ or_from _ _ on (rw none refl)

pub same_time : (items : List BodyItem) (x : BodyItem) → marks (x ∷ []) ≡ [] → time_after (items ++ x ∷ []) ≡ time_after items
same_time items x none = ap (fold max 0) (marks-append items (x ∷ []) ∙ ap (λ l. marks items ++ l) none ∙ append-nil (marks items))

pub time_more : (items : List BodyItem) (t : ℕ) → time_after (items ++ BodyItem.Time t ∷ []) ≡ max (time_after items) t
time_more items t = ap (fold max 0) (marks-append items (BodyItem.Time t ∷ [])) ∙ fold-append max 0 (marks items) (t ∷ [])

-- an item that gives no code anything leaves the current states
pub current_still : (c : Current) (h : Header) (items : List BodyItem) (x : BodyItem) → ((d : IdCode) → gives_to d x ≡ false) → AreCurrent c h items → AreCurrent c h (items ++ x ∷ [])
current_still c h items x none current = record {
  views = current.views;
  held = held_still c.table h items x none current.held;
  triggers = λ index d there event.
      let its = current.triggers index d there event in
      (its.0, its.1, last d its.0 its.2);
}
  where
    later : time_after items ≤ time_after (items ++ x ∷ [])
    later = time_after-append items (x ∷ [])

    low : (o : Option ℕ) → IfSome o (λ u. u ≤ time_after items) → IfSome o (λ u. u ≤ time_after (items ++ x ∷ []))
    low None l = tt
    low (Some u) l = omega (arith, l, later)

    last : (d : IdCode) (o : Option ℕ) → IsLastTrigger items d o → IsLastTrigger (items ++ x ∷ []) d o
    last d o is = record { low = low o is.low; is = λ t le. triggered_other items x d (none d) t ∙ is.is t (omega (arith, le, later)) }

-- marks tell the flags also after other items, with which no flag changes, and no code differs that
-- did not
marks_as : (ps : Pairs) (h : Header) (q : ModelAsked) (items items' : List BodyItem) (marks : List ℕ) → AreMarks ps h q items marks
    → ((a b : IdCode) → flag_of q items' a b ≡ flag_of q items a b)
    → ((a b : IdCode) → codes_differ q.rule items' a b (time_compared q items') ≡ codes_differ q.rule items a b (time_compared q items))
    → AreMarks ps h q items' marks
marks_as ps h q items items' marks are flags differ = record {
  many = are.many;
  each = λ class p below is. flags (code_of p.one) (code_of p.other) ∙ are.each class p below is
      ∙ ap (flag_by (get_or marks class 0)) (sym (differ (code_of p.one) (code_of p.other)));
}

-- ---- no timestamp

module _ (h : Header) (exceptions : List (List ℕ)) (ns : List Names) (items : List BodyItem) (x : BodyItem) (c : Comparison) (w : Watched)
    (stands : Compares h exceptions ns items c w) (other : marks (x ∷ []) ≡ []) where
  abbrev q : ModelAsked
  q = model_asked c.current.asked exceptions

  pub open_same : within_open q h ns (items ++ x ∷ []) ≡ within_open q h ns items
  open_same = open_other q h ns items x other

  -- with other states and flags
  pub compares_with : (c' : Comparison) (w' : Watched) → c'.current.pairs.now ≡ c.current.pairs.now → c'.current.asked ≡ c.current.asked
      → w'.at ≡ w.at → AreCurrent c'.current h (items ++ x ∷ []) → AreMarks c.current.pairs.now h q (items ++ x ∷ []) c'.touched.marks.now
      → AreSkips c.current.pairs.now.ends.items c'.touched.marks.now c'.skips.now → Compares h exceptions ns (items ++ x ∷ []) c' w'
  compares_with c' w' pairs asked at current marks skips = record {
    pairs = rw (pairs, asked) stands.pairs;
    current = current;
    flags = rw (pairs, asked) marks;
    skips = rw pairs skips;
    at = at ∙ stands.at ∙ sym (compared_other q items x other) ∙ ap (λ a. time_compared (model_asked a exceptions) (items ++ x ∷ [])) (sym asked);
    up = no_fall-other items x other stands.up;
    quiet = rw asked (λ e. quiet_other q h ns items x other (stands.quiet e));
    on = rw asked (one_more c.current.asked.to items x stands.on (no_mark_above c.current.asked.to x other));
  }

  -- an item that gives nothing
  marks_still : ((d : IdCode) → gives_to d x ≡ false) → AreMarks c.current.pairs.now h q (items ++ x ∷ []) c.touched.marks.now
  marks_still none =
      marks_as c.current.pairs.now h q items (items ++ x ∷ []) c.touched.marks.now stands.flags
      (λ a b. flag_same q items (items ++ x ∷ []) a b (state_other items x a (none a)) (state_other items x b (none b)) (compared_other q items x other)
      (settled_other q items x other) (changes_other items x a (none a)) (changes_other items x b (none b)))
      (λ a b. differ_same q items (items ++ x ∷ []) a b (state_other items x a (none a)) (state_other items x b (none b)) (time_compared q (items ++ x ∷ []))
      ∙ ap (codes_differ q.rule items a b) (compared_other q items x other))

  pub compares_still : ((d : IdCode) → gives_to d x ≡ false) → Compares h exceptions ns (items ++ x ∷ []) c w
  compares_still none = record {
    pairs = stands.pairs;
    current = current_still c.current h items x none stands.current;
    flags = marks_still none;
    skips = stands.skips;
    at = stands.at ∙ sym (compared_other q items x other);
    up = no_fall-other items x other stands.up;
    quiet = λ e. quiet_other q h ns items x other (stands.quiet e);
    on = one_more c.current.asked.to items x stands.on (no_mark_above c.current.asked.to x other);
  }

-- ---- a timestamp

module _ (h : Header) (exceptions : List (List ℕ)) (ns : List Names) (items : List BodyItem) (t : ℕ) (c : Comparison) (w : Watched)
    (stands : Compares h exceptions ns items c w) (forth : time_after items ≤ t) where
  abbrev asked : ModelAsked
  asked = model_asked c.current.asked exceptions

  abbrev after : List BodyItem
  after = items ++ BodyItem.Time t ∷ []

  up_after : DoNotFall 0 (marks after)
  up_after = no_fall-marks items t stands.up forth

  current_after : AreCurrent c.current h after
  current_after = current_still c.current h items (BodyItem.Time t) (λ d. refl) stands.current

  -- one that is not above the time that is compared
  pub compares_again : t ≤ w.at → nat_lt c.current.asked.to t ≡ false → (w' : Watched) → w'.at ≡ w.at → Compares h exceptions ns after c w'
  compares_again le on w' same =
      let low : t ≤ time_compared asked items = rw (← (stands.at)) le in
      record {
        pairs = stands.pairs;
        current = current_after;
        flags = marks_as c.current.pairs.now h asked items after c.touched.marks.now stands.flags
            (λ a b. flag_again asked items t stands.up up_after low a b)
            (λ a b. differ_same asked items after a b (state_other items (BodyItem.Time t) a refl) (state_other items (BodyItem.Time t) b refl) (time_compared asked after)
            ∙ ap (codes_differ asked.rule items a b) (compared_again asked items t stands.up up_after low));
        skips = stands.skips;
        at = same ∙ stands.at ∙ sym (compared_again asked items t stands.up up_after low);
        up = up_after;
        quiet = λ e. quiet_again asked h ns items t stands.up up_after low (stands.quiet e);
        on = one_more c.current.asked.to items (BodyItem.Time t) stands.on on;
      }

  pub open_stays : t ≤ w.at → within_open asked h ns after ≡ within_open asked h ns items
  open_stays le = open_again asked h ns items t stands.up up_after (rw (← (stands.at)) le)

  -- one above it
  module _ (high : w.at < t) (on : nat_lt c.current.asked.to t ≡ false) where
    above : time_compared asked items < t
    above = rw (← (stands.at)) high

    in_window : time_compared asked items ≤ c.current.asked.to
    in_window = let l = above in let le = ltb-false c.current.asked.to t on in omega arith

    -- no pair differs now, as far as there was no line before
    abbrev NoneNow : Type 0
    NoneNow = asked.extent ≡ Extent.First → list_any (λ p. differs asked.rule (side items) (side items) p (time_compared asked items)) (compared_in asked h ns) ≡ false

    pub compares_later : (c' : Comparison) (w' : Watched) → c'.current ≡ c.current → c'.skips.now ≡ c.skips.now → w'.at ≡ t
        → length c'.touched.marks.now ≡ length c.touched.marks.now
        → ((k : ℕ) → get_or c.touched.marks.now k 0 ≡ 2 → get_or c'.touched.marks.now k 0 ≡ 2)
        → ((class : ℕ) (p : Pair) → class < c.current.pairs.now.classes → IsClassOf h c.current.pairs.now.ends.items class p
        → get_or c'.touched.marks.now class 0 ≡ settled_flag asked.extent (flag_of asked items (code_of p.one) (code_of p.other)))
        → NoneNow → Compares h exceptions ns after c' w'
    compares_later c' w' same skips at many keep each none = record {
      pairs = rw same stands.pairs;
      current = rw same current_after;
      flags = rw same (record {
        many = many ∙ stands.flags.many;
        each = λ class p below is.
            let flag = flag_of asked items (code_of p.one) (code_of p.other) in
            let now = codes_differ asked.rule after (code_of p.one) (code_of p.other) (time_compared asked after) in
            flag_after asked items t stands.up up_after above in_window (code_of p.one) (code_of p.other) (class_events c.current.pairs.now h asked ns class p stands.pairs below is)
            ∙ settled_mark asked.extent flag now
            ∙ ap (λ m. flag_by m now) (sym (each class p below is));
      });
      skips = rw (same, skips) (skips_stay c.current.pairs.now.ends.items c.touched.marks.now c'.touched.marks.now c.skips.now keep stands.skips);
      at = at ∙ sym (later_compared asked h ns items t stands.up up_after above) ∙ ap (λ (k : Current). time_compared (model_asked k.asked exceptions) after) (sym same);
      up = up_after;
      quiet = rw same (λ e. quiet_after asked h ns items t stands.up up_after above in_window (none e) (stands.quiet e));
      on = rw same (one_more c.current.asked.to items (BodyItem.Time t) stands.on on);
    }

  pub open_grows : w.at < t → within_open asked h ns after ≡ within_open asked h ns items ++ lines_due asked h ns items
  open_grows high = open_later asked h ns items t stands.up up_after (rw (← (stands.at)) high)

-- ---- a section

pub section_quiet : (codes : List IdCode) (text : List ℕ) (item : Item) (x : BodyItem) → IsSection item → IsItem codes text item x
    → (marks (x ∷ []) ≡ []) × ((d : IdCode) → gives_to d x ≡ false)
section_quiet codes text (Time t) x section is = absurd section
section_quiet codes text (Begin s) x section is = rw is (refl, λ d. refl)
section_quiet codes text End x section is = rw is (refl, λ d. refl)
section_quiet codes text (Change place form) x section is = absurd section
section_quiet codes text Finish x section is = absurd section

-- an item that is neither a timestamp nor a change
pub other_quiet : (codes : List IdCode) (text : List ℕ) (item : Item) (x : BodyItem) → ((time : ℕ) → item ≡ Time time → ⊥)
    → ((place : ℕ) (form : Form) → item ≡ Change place form → ⊥) → IsItem codes text item x → (marks (x ∷ []) ≡ [])
    × ((d : IdCode) → gives_to d x ≡ false)
other_quiet codes text (Time t) x no_time no_change is = absurd (no_time t refl)
other_quiet codes text (Begin s) x no_time no_change is = rw is (refl, λ d. refl)
other_quiet codes text End x no_time no_change is = rw is (refl, λ d. refl)
other_quiet codes text (Change place form) x no_time no_change is = absurd (no_change place form refl)
other_quiet codes text Finish x no_time no_change is = absurd is

-- ---- numbers that pass

pub some_none : (f : ℕ → Bool) (n k : ℕ) → some_below f n ≡ false → k < n → f k ≡ false
some_none f zero k none low = absurd (omega (arith, low))
some_none f (suc n) k none low = let both = or_parts (some_below f n) (f n) none in elim (cases_eq k n) [
  | inl same ↦ ap f same ∙ both.1
  | inr apart ↦ some_none f n k both.0 (omega (arith, low, apart))
]

pub none_some : (f : ℕ → Bool) (n : ℕ) → ((k : ℕ) → k < n → f k ≡ false) → some_below f n ≡ false
none_some f zero none = refl
none_some f (suc n) none = or_from (some_below f n) (f n) (none_some f n (λ k low. none k (omega (arith, low)))) (none n (omega arith))

pub some_there : (f : ℕ → Bool) (n : ℕ) → some_below f n ≡ true → (k : ℕ) × (k < n) × (f k ≡ true)
some_there f zero some = cc
some_there f (suc n) some = by_last (some_there f n) (f n) refl
  where
    by_last : (some_below f n ≡ true → (k : ℕ) × (k < n) × (f k ≡ true)) → (b : Bool) → f n ≡ b → (k : ℕ) × (k < suc n) × (f k ≡ true)
    by_last rest true e = (n, omega arith, e)
    by_last rest false e = let at = rest (sym (or-false (some_below f n)) ∙ ap (λ b. some_below f n || b) (sym e) ∙ some) in let low = at.1 in (at.0, omega (arith, low), at.2)

pub some_found : (f : ℕ → Bool) (n k : ℕ) → k < n → f k ≡ true → some_below f n ≡ true
some_found f n k low is = by_test (some_below f n) refl
  where
    by_test : (b : Bool) → some_below f n ≡ b → b ≡ true
    by_test true e = refl
    by_test false e = let none = some_none f n k e low in cc

-- ---- the flags at the time that is compared

flag_now : (q : ModelAsked) (items : List BodyItem) (a b : IdCode) → q.extent ≡ Extent.First → had_line q items a b ≡ false
    → (flag_of q items a b == 1) ≡ codes_differ q.rule items a b (time_compared q items)
unfolding flag_of
flag_now q items a b e none = rw (e, none) (by_now (codes_differ q.rule items a b (time_compared q items)))
  where
    by_now : (b : Bool) → (cond {A = ℕ} b 1 0 == 1) ≡ b
    by_now true = refl
    by_now false = refl

-- the flags of all pairs
module _ (ps : Pairs) (h : Header) (q : ModelAsked) (ns : List Names) (items : List BodyItem) (pairs : ArePairs ps h q ns) where
  pub class_below : (r : PairRow) (p : Pair) → IsPairAt h ps.ends.items r p → r.class < ps.classes
  class_below r p at = by_case (slice_get_cases ps.ends.items (2 * r.class)).1
    where
      by_case : ((y : PairEnd) × (2 * r.class < length ps.ends.items) × (slice_get ps.ends.items (2 * r.class) ≡ Some y)
          × (get_or ps.ends.items (2 * r.class) y ≡ y)) ⊎ ((length ps.ends.items ≤ 2 * r.class) × (slice_get ps.ends.items (2 * r.class) ≡ None))
          → r.class < ps.classes
      by_case (inl within) = let l = within.1 in let all = pairs.classes in omega arith
      by_case (inr past) = let no = sym past.1 ∙ at.class.one.1 in cc

  pub row_flag : (flags : List ℕ) → AreFlags ps h q items flags → (r : PairRow) (p : Pair) → IsPairAt h ps.ends.items r p → get_or flags r.class 0 ≡ flag_for q items p
  row_flag flags are r p at = are.each r.class p (class_below r p at) at.class

  each_row : (rows : List PairRow) (all : List Pair) → AllZip (IsPairAt h ps.ends.items) rows all
      → ((class : ℕ) (p : Pair) → class < ps.classes → IsClassOf h ps.ends.items class p → (flag_for q items p == 1) ≡ false)
      → AllByRecursion (λ p. (flag_for q items p == 1) ≡ false) all
  each_row [] [] zip none = tt
  each_row [] (p ∷ all) zip none = absurd zip
  each_row (r ∷ rows) [] zip none = absurd zip
  each_row (r ∷ rows) (p ∷ all) zip none = (none r.class p (class_below r p zip.0) zip.0.class, each_row rows all zip.1 none)

module _ (h : Header) (exceptions : List (List ℕ)) (ns : List Names) (items : List BodyItem) (c : Comparison) (w : Watched) (stands : Compares h exceptions ns items c w) where
  abbrev own : ModelAsked
  own = model_asked c.current.asked exceptions

  -- what the code compares are the states of the definition
  differs_here : (class : ℕ) (p : Pair) → class < c.current.pairs.now.classes → IsClassOf h c.current.pairs.now.ends.items class p
      → differs_now c.current class w.at ≡ codes_differ own.rule items (code_of p.one) (code_of p.other) (time_compared own items)
  differs_here class p below is =
      let at = stands.at in
      let compared = compared_is own items in
      differs_is c.current h items stands.current class p is (class_events c.current.pairs.now h own ns class p stands.pairs below is) w.at (omega (arith, at, compared))
      ∙ ap (codes_differ own.rule items (code_of p.one) (code_of p.other)) at

  pub flag_is : (class : ℕ) (p : Pair) → class < c.current.pairs.now.classes → IsClassOf h c.current.pairs.now.ends.items class p
      → flag_of own items (code_of p.one) (code_of p.other) ≡ flag_by (get_or c.touched.marks.now class 0) (differs_now c.current class w.at)
  flag_is class p below is = stands.flags.each class p below is ∙ ap (flag_by (get_or c.touched.marks.now class 0)) (sym (differs_here class p below is))

  pub flags_are : (flags : List ℕ) → HasFlags c w.at flags → AreFlags c.current.pairs.now h own items flags
  flags_are flags has = record { many = has.many ∙ stands.flags.many; each = λ class p below is. has.each class ∙ sym (flag_is class p below is) }

  flag_not : (mark : ℕ) (differs : Bool) → ((mark == 1) && differs) ≡ false → flag_by mark differs ≡ settled_as 0 mark
  flag_not mark differs none = by_test (mark == 1) none
    where
      by_test : (b : Bool) → (b && differs) ≡ false → cond b (cond {A = ℕ} differs 1 0) mark ≡ cond b 0 mark
      by_test true e = ap (λ d. cond {A = ℕ} d 1 0) e
      by_test false e = refl

  module _ (none : some_differ c w.at ≡ false) where
    pub flag_none : (class : ℕ) (p : Pair) → class < c.current.pairs.now.classes → IsClassOf h c.current.pairs.now.ends.items class p
        → flag_of own items (code_of p.one) (code_of p.other) ≡ settled_as 0 (get_or c.touched.marks.now class 0)
    flag_none class p below is =
        let many = stands.flags.many in
        flag_is class p below is
        ∙ flag_not (get_or c.touched.marks.now class 0) (differs_now c.current class w.at)
        (some_none (differs_at c w.at) (length c.touched.marks.now) class none (omega (arith, below, many)))

    pub not_one : (m : ℕ) → (settled_as 0 m == 1) ≡ false
    not_one m = by_test (m == 1) refl
      where
        by_test : (b : Bool) → (m == 1) ≡ b → (cond b 0 m == 1) ≡ false
        by_test true e = refl
        by_test false e = e

    pub none_for_all : AllByRecursion (λ p. (flag_for own items p == 1) ≡ false) (compared_in own h ns)
    none_for_all =
        each_row c.current.pairs.now h own ns items stands.pairs c.current.pairs.now.rows.items (compared_in own h ns) stands.pairs.rows
        (λ class p below is. ap (λ f. f == 1) (flag_none class p below is) ∙ not_one (get_or c.touched.marks.now class 0))

none_differ : (q : ModelAsked) (items : List BodyItem) (ps : List Pair) → q.extent ≡ Extent.First
    → AllByRecursion (λ p. (flag_for q items p == 1) ≡ false) ps → AllByRecursion (λ p. had_line q items (code_of p.one) (code_of p.other) ≡ false) ps
    → list_any (λ p. differs q.rule (side items) (side items) p (time_compared q items)) ps ≡ false
none_differ q items [] e flags had = refl
none_differ q items (p ∷ ps) e flags had = or_from _ _ (sym (flag_now q items (code_of p.one) (code_of p.other) e had.0) ∙ flags.0) (none_differ q items ps e flags.1 had.1)

-- ---- a timestamp with which nothing is due

module _ (h : Header) (exceptions : List (List ℕ)) (ns : List Names) (items : List BodyItem) (t : ℕ) (c : Comparison) (w : Watched)
    (stands : Compares h exceptions ns items c w) (forth : time_after items ≤ t) (on : nat_lt c.current.asked.to t ≡ false) where
  abbrev its : ModelAsked
  its = model_asked c.current.asked exceptions

  pub time_same : t ≤ w.at → Compares h exceptions ns (items ++ BodyItem.Time t ∷ []) c w
      × (within_open its h ns (items ++ BodyItem.Time t ∷ []) ≡ within_open its h ns items)
  time_same low = (compares_again h exceptions ns items t c w stands forth low on w refl, open_stays h exceptions ns items t c w stands forth low)

  module _ (high : w.at < t) (none : some_differ c w.at ≡ false) (c' : Comparison) (w' : Watched) (same : c'.current ≡ c.current) (skips : c'.skips.now ≡ c.skips.now)
      (at : w'.at ≡ t) (many : length c'.touched.marks.now ≡ length c.touched.marks.now)
      (cleared : (k : ℕ) → get_or c'.touched.marks.now k 0 ≡ settled_as 0 (get_or c.touched.marks.now k 0)) where
    pub time_later : Compares h exceptions ns (items ++ BodyItem.Time t ∷ []) c' w'
        × (within_open its h ns (items ++ BodyItem.Time t ∷ []) ≡ within_open its h ns items)
    time_later =
        let flags = none_for_all h exceptions ns items c w stands none in (
          compares_later h exceptions ns items t c w stands forth high on c' w' same skips at many
              (λ k two. cleared k ∙ ap (settled_as 0) two)
              (λ class p below is.
              let flag = flag_none h exceptions ns items c w stands none class p below is in
              let other : (flag_of its items (code_of p.one) (code_of p.other) == 1) ≡ false = ap (λ f. f == 1) flag ∙ not_one h exceptions ns items c w stands none (get_or c.touched.marks.now class 0) in
              cleared class ∙ sym flag ∙ sym (ap (λ b. cond b (cond (is_always its.extent) 0 2) (flag_of its items (code_of p.one) (code_of p.other))) other))
              (λ e. none_differ its items (compared_in its h ns) e flags (none_had its items (compared_in its h ns) (filter (is_settled items) (times_in its items)) (stands.quiet e))),
          open_grows h exceptions ns items t c w stands forth high
              ∙ ap (λ l. within_open its h ns items ++ l) (none_due its h ns items stands.up stands.quiet flags)
              ∙ append-nil (within_open its h ns items),
        )

-- before which the walk does not stop
module _ (c : Comparison) (w : Watched) (t : ℕ) (on : stops_before w c t ≡ false) where
  pub not_past : nat_lt c.current.asked.to t ≡ false
  not_past = (or_parts (nat_lt c.current.asked.to t) (nat_lt w.at t && some_differ c w.at) on).0

  pub none_differs : w.at < t → some_differ c w.at ≡ false
  none_differs high = ap (λ b. b && some_differ c w.at) (sym (lt-ltb w.at t high)) ∙ (or_parts (nat_lt c.current.asked.to t) (nat_lt w.at t && some_differ c w.at) on).1
