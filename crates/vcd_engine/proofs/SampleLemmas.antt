-- What a sample keeps with one item more.
use Rattle.vcd_engine.proofs.Cited.{◌≡◌, ◌≢◌, ℕ, suc, ◌+◌, ◌<◌, ◌≤◌, ◌==◌, Bool, true, false, not, cond, nat_le, nat_lt, List, [], ◌∷◌, ◌++◌, length, take, drop, Option, Some, None, Result, refl, sym, ap, subst, ◌∙◌, arith, unwrap_or, AllByRecursion, position_or_len, IsStrictlyIncreasing, Bor, drop-append-add, le-leb, leb-true, leb-false, ltb-false, ne_eqb, take-append-drop, prefix_len-le-length, IdCode, Header, BodyItem, marks, Request, close_text, ends_early, open_text, is_settled, sample_open, sample_close, AreSettled, all_settled_same, close_is, due_at_mark, ended, goes_on_other, lines_of, not_ended, open_same, rises_behind, settled_next, unsettled_from, Device, Takes, Item, Time, Begin, End, Change, Finish, Table, TakesDue, IsNoTimestamp, IsItem, TakesQuietly, AreSampled, asked_in, is_due, AreHeld, Sample, held_still}
use Rattle.std.proofs.lemmas.List.{append_assoc, append-nil}
use Rattle.vcd_engine.specs.Sample.{names_in}

-- ---- the times before one that is not below a timestamp

pub first_or_len : (test : ℕ → Bool) (xs : List ℕ) (o : Option ℕ)
    → o ≡ cond (nat_lt (position_or_len test xs) (length xs)) (Some (position_or_len test xs)) None
    → unwrap_or o (length xs) ≡ position_or_len test xs
first_or_len test xs o e = ap (λ p. unwrap_or p (length xs)) e ∙ by_test (nat_lt (position_or_len test xs) (length xs)) refl
  where
    by_test : (b : Bool) → nat_lt (position_or_len test xs) (length xs) ≡ b → unwrap_or (cond b (Some (position_or_len test xs)) None) (length xs) ≡ position_or_len test xs
    by_test true f = refl
    by_test false f =
        let high = ltb-false (position_or_len test xs) (length xs) f in
        let low = prefix_len-le-length (λ x. not (test x)) xs in
        omega arith

-- the index of the first that is not below a time
abbrev pub place : ℕ → List ℕ → ℕ
place t us = position_or_len (λ u. nat_le t u) us

pub place_within : (t : ℕ) (us : List ℕ) → place t us ≤ length us
place_within t us = prefix_len-le-length (λ u. not (nat_le t u)) us

all_below : (t : ℕ) (us : List ℕ) → AllByRecursion (λ u. u < t) (take (place t us) us)
all_below t [] = tt
all_below t (u ∷ us) = by_test (nat_le t u) refl (all_below t us)
  where
    by_test : (b : Bool) → nat_le t u ≡ b → AllByRecursion (λ v. v < t) (take (place t us) us) → AllByRecursion (λ v. v < t) (take (cond (not b) (1 + place t us) 0) (u ∷ us))
    by_test true e more = tt
    by_test false e more = let one : 1 + place t us ≡ suc (place t us) = omega arith in rw one (leb-false t u e, more)

first_from : (t : ℕ) (us : List ℕ) (v : ℕ) (vs : List ℕ) → drop (place t us) us ≡ v ∷ vs → t ≤ v
first_from t [] v vs e = cc
first_from t (u ∷ us) v vs e = by_test (nat_le t u) refl (first_from t us v vs) e
  where
    by_test : (b : Bool) → nat_le t u ≡ b → (drop (place t us) us ≡ v ∷ vs → t ≤ v) → drop (cond (not b) (1 + place t us) 0) (u ∷ us) ≡ v ∷ vs → t ≤ v
    by_test true f more e = let same : u ≡ v = cc in let le = leb-true t u f in omega arith
    by_test false f more e = let one : 1 + place t us ≡ suc (place t us) = omega arith in more (rw one at e)

all_first : (P : ℕ → Type 0) (xs ys : List ℕ) → AllByRecursion P (xs ++ ys) → AllByRecursion P xs
all_first P [] ys all = tt
all_first P (x ∷ xs) ys all = (all.0, all_first P xs ys all.1)

all_behind : (P : ℕ → Type 0) (xs ys : List ℕ) → AllByRecursion P (xs ++ ys) → AllByRecursion P ys
all_behind P [] ys all = all
all_behind P (x ∷ xs) ys all = all_behind P xs ys all.1

-- ---- an item that is no timestamp

-- it is no timestamp
pub no_marks : (codes : List IdCode) (text : List ℕ) (item : Item) (x : BodyItem) → IsItem codes text item x → IsNoTimestamp item → marks (x ∷ []) ≡ []
no_marks codes text (Time t) x is none = absurd none
no_marks codes text (Begin s) x is none = rw is refl
no_marks codes text End x is none = rw is refl
no_marks codes text (Change place form) x (c, there, is) none = rw is refl
no_marks codes text Finish x is none = absurd is

module _ (s : Sample) (h : Header) (items : List BodyItem) (x : BodyItem) (is : AreSampled s h items) (other : marks (x ∷ []) ≡ []) where
  -- what is kept, where the table holds the values after it
  samples_on : (t : Table) → AreHeld t h (items ++ x ∷ []) → AreSampled (record s { table = t }) h (items ++ x ∷ [])
  samples_on t held = record {
    held = held;
    marks_lead = is.marks_lead;
    rising = is.rising;
    done = is.done;
    times_are = is.times_are;
    settled = all_settled_same true items x is.done other is.settled;
    others = all_settled_same false items x s.rest.now other is.others;
    left = is.left;
  }

  -- nothing is due
  none_due : open_text (asked_in s) h (items ++ x ∷ []) ≡ open_text (asked_in s) h items ++ []
  none_due =
      subst (λ ts. sample_open h ts (names_in s) (items ++ x ∷ []) ≡ sample_open h ts (names_in s) items) (sym is.times_are)
      (open_same h (names_in s) items x is.done s.rest.now other is.settled is.others)
      ∙ sym (append-nil (open_text (asked_in s) h items))

-- ---- a timestamp

module _ (s : Sample) (h : Header) (items : List BodyItem) (t : ℕ) (is : AreSampled s h items) where
  -- the times that it settles, and the others
  abbrev pub due : List ℕ
  due = take (place t s.rest.now) s.rest.now

  abbrev pub later : List ℕ
  later = drop (place t s.rest.now) s.rest.now

  both : due ++ later ≡ s.rest.now
  both = take-append-drop (place t s.rest.now) s.rest.now

  times : s.times.now ≡ is.done ++ (due ++ later)
  times = is.times_are ∙ ap (λ l. is.done ++ l) (sym both)

  unsettled : AreSettled false items (due ++ later)
  unsettled = subst (AreSettled false items) (sym both) is.others

  pub due_unsettled : AreSettled false items due
  due_unsettled = all_first (λ u. is_settled items u ≡ false) due later unsettled

  low : AllByRecursion (λ u. u < t) due
  low = all_below t s.rest.now

  rising : IsStrictlyIncreasing later
  rising =
      subst IsStrictlyIncreasing (ap (drop (length is.done + place t s.rest.now)) is.times_are ∙ drop-append-add is.done s.rest.now (place t s.rest.now))
      (rises_behind (length is.done + place t s.rest.now) s.times.now is.rising)

  high : AreSettled false (items ++ BodyItem.Time t ∷ []) later
  high = by_first later refl rising (all_behind (λ u. is_settled items u ≡ false) due later unsettled)
    where
      by_first : (us : List ℕ) → later ≡ us → IsStrictlyIncreasing us → AreSettled false items us → AreSettled false (items ++ BodyItem.Time t ∷ []) us
      by_first [] e up none = tt
      by_first (u ∷ us) e up none = unsettled_from items t u us up (first_from t s.rest.now u us e) none

  -- what is due with it
  lines_due : open_text (asked_in s) h (items ++ BodyItem.Time t ∷ []) ≡ open_text (asked_in s) h items ++ lines_of h (names_in s) items due
  lines_due =
      subst (λ ts. sample_open h ts (names_in s) (items ++ BodyItem.Time t ∷ []) ≡ sample_open h ts (names_in s) items ++ lines_of h (names_in s) items due) (sym times)
      (due_at_mark h (names_in s) items t is.done due later is.settled unsettled low high)

  pub takes_due : {E : Type 0} (out out' : Device) (result : Result Bool E) (d : List ℕ) → d ≡ due → Takes out out' (lines_of h (names_in s) items d) result
      → TakesDue out out' (open_text (asked_in s) h items) (open_text (asked_in s) h (items ++ BodyItem.Time t ∷ [])) result
  takes_due out out' result d e takes = (lines_of h (names_in s) items d, lines_due ∙ ap (λ us. open_text (asked_in s) h items ++ lines_of h (names_in s) items us) (sym e), takes)

  -- where none is left it ends the run
  pub ends_run : later ≡ [] → ends_early (asked_in s) (BodyItem.Time t) ≡ true
  ends_run none =
      subst (λ ts. ends_early (Request.Sample ts (names_in s)) (BodyItem.Time t) ≡ true) (sym times)
      (ended (names_in s) items t is.done due later none (λ e. is.left (sym both ∙ e)) unsettled low)

  -- else the run continues
  pub goes_behind : later ≢ [] → ends_early (asked_in s) (BodyItem.Time t) ≡ false
  goes_behind some = subst (λ ts. ends_early (Request.Sample ts (names_in s)) (BodyItem.Time t) ≡ false) (sym times) (not_ended (names_in s) items t is.done due later some high)

  -- which is decided by whether there are some left
  pub ends_is : (l : List ℕ) (b : Bool) → l ≡ later → b ≡ (length l == 0) → b ≡ ends_early (asked_in s) (BodyItem.Time t)
  ends_is [] b e f = f ∙ sym (ends_run (sym e))
  ends_is (u ∷ us) b e f = f ∙ ne_eqb (length (u ∷ us)) 0 (λ z. absurd (omega arith)) ∙ sym (goes_behind (λ none. let wrong : u ∷ us ≡ [] = e ∙ none in cc))

  pub some_left : (l : List ℕ) (b : Bool) → l ≡ later → b ≡ (length l == 0) → b ≡ false → later ≢ []
  some_left [] b e f on = cc
  some_left (u ∷ us) b e f on = λ none. let wrong : u ∷ us ≡ [] = e ∙ none in cc

  pub samples_behind : (r : Bor (List ℕ)) → r.now ≡ later → later ≢ [] → AreSampled (record s { rest = r }) h (items ++ BodyItem.Time t ∷ [])
  samples_behind r e some = record {
    held = held_still s.table h items (BodyItem.Time t) (λ c. refl) is.held;
    marks_lead = is.marks_lead;
    rising = is.rising;
    done = is.done ++ due;
    times_are = times ∙ sym (append_assoc is.done due later) ∙ ap (λ l. (is.done ++ due) ++ l) (sym e);
    settled = settled_next h (names_in s) items t is.done due later is.settled unsettled low high;
    others = subst (AreSettled false (items ++ BodyItem.Time t ∷ [])) (sym e) high;
    left = λ none. some (sym e ∙ none);
  }

-- ---- the end

pub closes : (s : Sample) (h : Header) (items : List BodyItem) → AreSampled s h items → close_text (asked_in s) h items ≡ lines_of h (names_in s) items s.rest.now
closes s h items is =
    subst (λ ts. sample_close h ts (names_in s) items ≡ lines_of h (names_in s) items s.rest.now) (sym is.times_are) (close_is h (names_in s) items is.done s.rest.now is.settled is.others)

-- ---- items with which no line is due

-- no time that is left is below the timestamp
none_below : (t : ℕ) (us : List ℕ) → is_due us t ≡ false → place t us ≡ 0
none_below t [] e = cc
none_below t (u ∷ us) e = rw (le-leb t u (ltb-false u t e)) refl

some_there : (us : List ℕ) (t : ℕ) → is_due us t ≡ false → us ≢ []
some_there [] t e none = cc
some_there (u ∷ us) t e none = cc

module _ (s : Sample) (h : Header) (items : List BodyItem) (is : AreSampled s h items) where
  pub quiet_mark : (time : ℕ) → is_due s.rest.now time ≡ false → TakesQuietly (AreSampled s h (items ++ BodyItem.Time time ∷ [])) (asked_in s) h items (BodyItem.Time time)
  quiet_mark time early =
      let none = none_below time s.rest.now early in
      let rest : s.rest.now ≡ later s h items time is = sym (ap (λ n. drop n s.rest.now) none) in
      let no_lines : due s h items time is ≡ [] = ap (λ n. take n s.rest.now) none in
      let some : later s h items time is ≢ [] = λ e. some_there s.rest.now time early (rest ∙ e) in
      let g = samples_behind s h items time is s.rest rest some in
      record {
        due = lines_due s h items time is ∙ ap (λ us. open_text (asked_in s) h items ++ lines_of h (names_in s) items us) no_lines;
        on = goes_behind s h items time is some;
        keeps = record {
          held = g.held;
          marks_lead = g.marks_lead;
          rising = g.rising;
          done = g.done;
          times_are = g.times_are;
          settled = g.settled;
          others = g.others;
          left = g.left;
        };
      }

  pub quiet_item : (text : List ℕ) (item : Item) (x : BodyItem) → IsNoTimestamp item → IsItem h.codes text item x → (t : Table)
      → AreHeld t h (items ++ x ∷ []) → TakesQuietly (AreSampled (record s { table = t }) h (items ++ x ∷ [])) (asked_in s) h items x
  quiet_item text item x none read t held =
      let other = no_marks h.codes text item x read none in
      record { due = none_due s h items x is other; on = goes_on_other (names_in s) s.times.now x other; keeps = samples_on s h items x is other t held }
