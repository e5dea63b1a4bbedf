-- `cut` with one item more, and at its end.
use Rattle.vcd_model.proofs.Cited.{◌≡◌, ℕ, zero, suc, ◌≤◌, ◌<◌, max, Bool, true, false, not, cond, ◌&&◌, ◌||◌, ◌==◌, nat_lt, nat_le, List, [], ◌∷◌, ◌++◌, map, filter, flat_map, fold, Option, Some, None, refl, sym, ap, ◌∙◌, arith, AllByRecursion, list_any, last_or, append_assoc, append-nil, list_any-append, le-leb, lt-leb, leb-true, le-ltb, ltb-false, or_parts, IdCode, Header, BodyItem, Entry, entries, entry_after, marks, time_after, value_before, text_after, time_unless, time_due, kept_by, may_keep, closing, last_mark, head_for, is_mark_above, ends_cut, within, line_if_set, is_started, times_of, cut_open, closing_above}
use Rattle.vcd_model.specs.Cut.{start_section, cut_close}
use Rattle.vcd_model.proofs.Growing.{entries-append}
use Rattle.vcd_model.proofs.Times.{marks-append}
use Rattle.vcd_model.proofs.KeptLines.{keeps, kept_more, kept_same, kept_rise, last_is_enough, Rise}
use Rattle.vcd_model.proofs.CutGrows.{all_below, all_within, due, goes_on, none_kept, section_stays, so_far, so_far_is, started_more, whole_is}
use Rattle.vcd_model.proofs.CutKept.{above, closing_above_is}
use Rattle.vcd_model.proofs.Latest.{behind, gives_at, last_value_is, latest, latest-append}

-- the entries from a time on
abbrev pub from_on : ℕ → Entry → Bool
from_on a = λ e. nat_le a e.time

abbrev pub cut_entries : ℕ → List BodyItem → List Entry
cut_entries a p = kept_by (from_on a) (entries p)

-- ---- where the start section is written

above_zero : (a : ℕ) → (a == 0) ≡ false → 0 < a
above_zero zero e = cc
above_zero (suc a) e = omega arith

pub not_started : (a : ℕ) (p : List BodyItem) → is_started a p ≡ false → time_after p < a
not_started a p e =
    let o = or_parts (a == 0) (list_any (nat_le a) (marks p)) e in
    all_below a 0 (marks p) [] (above_zero a o.0) (ap (list_any (nat_le a)) (append-nil (marks p)) ∙ o.1)

-- an item that is no timestamp changes nothing of it
pub started_same : (a : ℕ) (p : List BodyItem) (x : BodyItem) → marks (x ∷ []) ≡ [] → is_started a (p ++ x ∷ []) ≡ is_started a p
started_same a p x e = ap (λ ms. (a == 0) || list_any (nat_le a) ms) (marks-append p (x ∷ []) ∙ ap (λ l. marks p ++ l) e ∙ append-nil (marks p))

-- a timestamp of at least a does
pub started_by : (a : ℕ) (p : List BodyItem) (t : ℕ) → a ≤ t → is_started a (p ++ BodyItem.Time t ∷ []) ≡ true
started_by a p t le = rw (marks-append p (BodyItem.Time t ∷ []), list_any-append (nat_le a) (marks p) (t ∷ []), le-leb a t le) (or_true (a == 0) (list_any (nat_le a) (marks p)))
  where
    or_true : (x y : Bool) → (x || (y || true)) ≡ true
    or_true true y = refl
    or_true false true = refl
    or_true false false = refl

-- and a lesser one does not
pub unstarted_by : (a : ℕ) (p : List BodyItem) (t : ℕ) → t < a → is_started a (p ++ BodyItem.Time t ∷ []) ≡ is_started a p
unstarted_by a p t lt = rw (marks-append p (BodyItem.Time t ∷ []), list_any-append (nat_le a) (marks p) (t ∷ []), lt-leb a t lt) (or_none (a == 0) (list_any (nat_le a) (marks p)))
  where
    or_none : (x y : Bool) → (x || (y || false)) ≡ (x || y)
    or_none true y = refl
    or_none false true = refl
    or_none false false = refl

-- ---- the values before a time

-- no timestamp gives a value
value_at_mark : (c : IdCode) (a : ℕ) (p : List BodyItem) (t : ℕ) → value_before (p ++ BodyItem.Time t ∷ []) c a ≡ value_before p c a
value_at_mark c a p t =
    last_value_is c (λ u. nat_lt u a) (p ++ BodyItem.Time t ∷ []) ∙ ap (latest (gives_at c (λ u. nat_lt u a))) (entries-append p (BodyItem.Time t ∷ []))
    ∙ latest-append (gives_at c (λ u. nat_lt u a)) (entries p) (entry_after p (BodyItem.Time t) ∷ [])
    ∙ sym (last_value_is c (λ u. nat_lt u a) p)

lines_at_mark : (a : ℕ) (p : List BodyItem) (t : ℕ) (cs : List IdCode)
    → flat_map (λ c. line_if_set c (value_before (p ++ BodyItem.Time t ∷ []) c a)) cs ≡ flat_map (λ c. line_if_set c (value_before p c a)) cs
lines_at_mark a p t [] = refl
lines_at_mark a p t (c ∷ cs) = rw (value_at_mark c a p t, lines_at_mark a p t cs) refl

section_at_mark : (h : Header) (a : ℕ) (p : List BodyItem) (t : ℕ) → start_section h a (p ++ BodyItem.Time t ∷ []) ≡ start_section h a p
unfolding start_section
section_at_mark h a p t = rw (lines_at_mark a p t (filter (λ c. not c.event) h.codes)) refl

-- ---- the text with one item more

module _ (h : Header) (a b : ℕ) (p : List BodyItem) (on : ends_cut b p ≡ false) where
  -- no timestamp above b
  pub still_on : (x : BodyItem) → is_mark_above b x ≡ false → ends_cut b (p ++ x ∷ []) ≡ false
  still_on x e = rw (list_any-append (is_mark_above b) p (x ∷ []), on, e) refl

  open_here : cut_open h a b p ≡ so_far h a p
  open_here = so_far_is h a b p on

  open_next : (x : BodyItem) → is_mark_above b x ≡ false → cut_open h a b (p ++ x ∷ []) ≡ so_far h a (p ++ x ∷ [])
  open_next x e = so_far_is h a b (p ++ x ∷ []) (still_on x e)

  -- after a timestamp above b
  open_last : (x : BodyItem) → is_mark_above b x ≡ true → cut_open h a b (p ++ x ∷ []) ≡ so_far h a (p ++ x ∷ []) ++ time_unless (a ∷ times_of (cut_entries a (p ++ x ∷ []))) b
  open_last x e =
      let all : within b (p ++ x ∷ []) ≡ p ++ x ∷ [] = goes_on (is_mark_above b) p (x ∷ []) on ∙ rw e refl in
      let ends : ends_cut b (p ++ x ∷ []) ≡ true = list_any-append (is_mark_above b) p (x ∷ []) ∙ rw (on, e) refl in
      whole_is h a b (p ++ x ∷ []) ∙ rw (all, ends) refl

  -- if the start section is written
  started_text : is_started a p ≡ true → so_far h a p ≡ (head_for h [] ++ start_section h a p) ++ text_after (a ∷ []) (cut_entries a p)
  started_text s = rw s refl

  started_next : (x : BodyItem) → is_started a p ≡ true → so_far h a (p ++ x ∷ []) ≡ (head_for h [] ++ start_section h a p) ++ text_after (a ∷ []) (cut_entries a (p ++ x ∷ []))
  started_next x s = rw (started_more a p (x ∷ []) s, section_stays h a p (x ∷ []) (due a p s)) refl

  -- if it does not
  unstarted_text : is_started a p ≡ false → so_far h a p ≡ head_for h []
  unstarted_text s = rw (s, none_kept a p s) (append-nil _ ∙ append-nil (head_for h []))

  -- a kept item
  pub due_kept : (x : BodyItem) (d : List ℕ) → is_mark_above b x ≡ false → is_started a p ≡ true → keeps (from_on a) p x ≡ true
      → text_after (a ∷ []) (cut_entries a p ++ entry_after p x ∷ []) ≡ text_after (a ∷ []) (cut_entries a p) ++ d
      → cut_open h a b (p ++ x ∷ []) ≡ cut_open h a b p ++ d
  due_kept x d low s k e =
      open_next x low ∙ started_next x s ∙ ap (λ es. (head_for h [] ++ start_section h a p) ++ text_after (a ∷ []) es) (kept_more (from_on a) p x true k)
      ∙ ap (λ l. (head_for h [] ++ start_section h a p) ++ l) e ∙ sym (append_assoc (head_for h [] ++ start_section h a p) (text_after (a ∷ []) (cut_entries a p)) d)
      ∙ ap (λ l. l ++ d) (sym (open_here ∙ started_text s))

  -- an item that is not kept, and begins nothing
  pub due_none : (x : BodyItem) → is_mark_above b x ≡ false → keeps (from_on a) p x ≡ false → is_started a (p ++ x ∷ []) ≡ is_started a p
      → cut_open h a b (p ++ x ∷ []) ≡ cut_open h a b p ++ []
  due_none x low k same = by_case (is_started a p) refl ∙ sym (append-nil (cut_open h a b p))
    where
      by_case : (s : Bool) → is_started a p ≡ s → cut_open h a b (p ++ x ∷ []) ≡ cut_open h a b p
      by_case true s = open_next x low ∙ started_next x s ∙ ap (λ es. (head_for h [] ++ start_section h a p) ++ text_after (a ∷ []) es)
          (kept_same (from_on a) p x k) ∙ sym (open_here ∙ started_text s)
      by_case false s = open_next x low ∙ rw (same ∙ s, none_kept a (p ++ x ∷ []) (same ∙ s)) (append-nil _ ∙ append-nil (head_for h [])) ∙ sym (open_here ∙ unstarted_text s)

  -- ---- a timestamp

  pub mark_kept : (t : ℕ) → keeps (from_on a) p (BodyItem.Time t) ≡ false
  mark_kept t = none (nat_le a (time_after p))
    where
      none : (x : Bool) → (x && false) ≡ false
      none true = refl
      none false = refl

  -- with which the section begins
  begun_next : (t : ℕ) → is_started a p ≡ false → a ≤ t → so_far h a (p ++ BodyItem.Time t ∷ []) ≡ head_for h [] ++ start_section h a p
  begun_next t s le =
      rw (started_by a p t le, kept_same (from_on a) p (BodyItem.Time t) (mark_kept t), none_kept a p s) (append-nil _ ∙ ap (λ l. head_for h [] ++ l) (section_at_mark h a p t))

  pub due_section : (t : ℕ) → is_mark_above b (BodyItem.Time t) ≡ false → is_started a p ≡ false → a ≤ t
      → cut_open h a b (p ++ BodyItem.Time t ∷ []) ≡ cut_open h a b p ++ start_section h a p
  due_section t low s le = open_next (BodyItem.Time t) low ∙ begun_next t s le ∙ ap (λ l. l ++ start_section h a p) (sym (open_here ∙ unstarted_text s))

  -- with which the cut ends
  pub due_last : (t : ℕ) → is_mark_above b (BodyItem.Time t) ≡ true → is_started a p ≡ true
      → cut_open h a b (p ++ BodyItem.Time t ∷ []) ≡ cut_open h a b p ++ time_unless (a ∷ times_of (cut_entries a p)) b
  due_last t high s =
      let kept = kept_same (from_on a) p (BodyItem.Time t) (mark_kept t) in
      open_last (BodyItem.Time t) high
      ∙ ap (λ es. so_far h a (p ++ BodyItem.Time t ∷ []) ++ time_unless (a ∷ times_of es) b) kept
      ∙ ap (λ l. l ++ time_unless (a ∷ times_of (cut_entries a p)) b) (started_next (BodyItem.Time t) s
      ∙ ap (λ es. (head_for h [] ++ start_section h a p) ++ text_after (a ∷ []) es) kept ∙ sym (open_here ∙ started_text s))

  -- both
  pub due_both : (t : ℕ) → is_mark_above b (BodyItem.Time t) ≡ true → is_started a p ≡ false → a ≤ t
      → cut_open h a b (p ++ BodyItem.Time t ∷ []) ≡ cut_open h a b p ++ (start_section h a p ++ time_unless (a ∷ []) b)
  due_both t high s le =
      let none = kept_same (from_on a) p (BodyItem.Time t) (mark_kept t) ∙ none_kept a p s in
      open_last (BodyItem.Time t) high
      ∙ ap (λ es. so_far h a (p ++ BodyItem.Time t ∷ []) ++ time_unless (a ∷ times_of es) b) none
      ∙ ap (λ l. l ++ time_unless (a ∷ []) b) (begun_next t s le ∙ ap (λ l. l ++ start_section h a p) (sym (open_here ∙ unstarted_text s)))
      ∙ append_assoc (cut_open h a b p) (start_section h a p) (time_unless (a ∷ []) b)

  -- ---- the end

  pub close_started : is_started a p ≡ true → cut_close h a b p ≡ closing (a ∷ times_of (cut_entries a p)) (above a (last_mark p))
  unfolding cut_close
  close_started s = rw (all_within b p on, s) (closing_above_is a (times_of (cut_entries a p)) (last_mark p))

  pub close_unstarted : is_started a p ≡ false → ((t : ℕ) → last_mark p ≡ Some t → t ≡ time_after p) → cut_close h a b p ≡ start_section h a p
  unfolding cut_close
  close_unstarted s last = rw (all_within b p on, s) (ap (λ l. start_section h a p ++ l) (none_above (last_mark p) refl) ∙ append-nil (start_section h a p))
    where
      none_above : (m : Option ℕ) → last_mark p ≡ m → closing_above a (times_of (cut_entries a p)) m ≡ []
      none_above None e = refl
      none_above (Some t) e =
          let at = last t e in
          let low = not_started a p s in
          rw (le-ltb a t (omega arith)) refl

-- ---- the time that was written last

-- no kept entry comes before time a
all_from : (a : ℕ) (es : List Entry) → AllByRecursion (λ t. a ≤ t) (map (λ e. e.time) (kept_by (from_on a) es))
all_from a [] = tt
all_from a (e ∷ es) = by_keep (nat_le a e.time) (may_keep e.item e.inside) refl (all_from a es)
  where
    by_keep : (from may : Bool) → nat_le a e.time ≡ from → AllByRecursion (λ t. a ≤ t) (map (λ e. e.time) (kept_by (from_on a) es))
        → AllByRecursion (λ t. a ≤ t) (map (λ e. e.time) (cond (from && may) (e ∷ kept_by (from_on a) es) (kept_by (from_on a) es)))
    by_keep true true f rest = (leb-true a e.time f, rest)
    by_keep true false f rest = rest
    by_keep false true f rest = rest
    by_keep false false f rest = rest

-- times that rise, and do not begin before a
rise_at : (a low high : ℕ) (ts : List ℕ) → Rise low high ts → AllByRecursion (λ t. a ≤ t) ts → a ≤ high → Rise a high ts
rise_at a low high [] r all le = le
rise_at a low high (t ∷ ts) r all le = (all.0, r.1)

rise_to : (low high higher : ℕ) (ts : List ℕ) → Rise low high ts → high ≤ higher → Rise low higher ts
rise_to low high higher [] r le = omega arith
rise_to low high higher (t ∷ ts) r le = (r.0, rise_to t high higher ts r.1 le)

-- a look at the last one is enough for a time after all items
pub last_tells : (a : ℕ) (p : List BodyItem) (t : ℕ) → a ≤ t → time_after p ≤ t
    → time_unless (a ∷ times_of (cut_entries a p)) t ≡ time_due (last_or None (a ∷ times_of (cut_entries a p))) t
last_tells a p t from behind = last_is_enough t a (times_of (cut_entries a p))
    (rise_at a 0 t (times_of (cut_entries a p)) (rise_to 0 (time_after p) t (times_of (cut_entries a p)) (kept_rise (from_on a) [] p) behind)
    (all_from a (entries p)) from)

-- no timestamp above b
pub at_most : (b : ℕ) (p : List BodyItem) → ends_cut b p ≡ false → time_after p ≤ b
at_most b p e = below 0 (marks p) (omega arith) (none_above p e)
  where
    none_above : (q : List BodyItem) → ends_cut b q ≡ false → list_any (nat_lt b) (marks q) ≡ false
    none_above [] e = refl
    none_above (BodyItem.Time t ∷ q) e = let o = or_parts (nat_lt b t) (ends_cut b q) e in rw (o.0, none_above q o.1) refl
    none_above (BodyItem.Begin s ∷ q) e = none_above q e
    none_above (BodyItem.End ∷ q) e = none_above q e
    none_above (BodyItem.Changes c ∷ q) e = none_above q e

    below : (low : ℕ) (ms : List ℕ) → low ≤ b → list_any (nat_lt b) ms ≡ false → fold max low ms ≤ b
    below low [] le e = le
    below low (m ∷ ms) le e =
        let o = or_parts (nat_lt b m) (list_any (nat_lt b) ms) e in
        let small = ltb-false b m o.0 in
        below (max low m) ms (omega arith) o.1
