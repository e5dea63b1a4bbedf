-- What is due with one item more.
use Rattle.vcd_compare.proofs.Cited.{◌≡◌, ℕ, ◌<◌, ◌≤◌, ◌*◌, ◌==◌, max, Bool, true, false, not, cond, ◌&&◌, ◌||◌, nat_lt, nat_le, List, [], ◌∷◌, ◌++◌, fold, filter, flat_map, refl, sym, ap, ◌∙◌, append-nil, append_assoc, arith, AllByRecursion, list_any, ltb-true, lt-ltb, le-ltb, flat_map-append, filter-append, list_any-append, or-false, IdCode, code_of, Header, gives_to, last_value, BodyItem, Entry, entries, entry_after, marks, time_after, is_settled, Asked, Extent, Pair, changes_at, differs, in_order, is_due, is_triggered, lines_at, state_at, value_line, First, EachPair, Always, Names, compared_in, side, times_in, within_head, entries-append, gives_at, last_value_is, latest, latest-append, below_greatest, fold-append, marks-append, DoNotFall, time_compared}
use Rattle.vcd_model.specs.Within.{within_open, within_close}
use Rattle.vcd_compare.specs.Lines.{lines_due}
use Rattle.vcd_compare.proofs.PastTimes.{other_times, past, past_below, past_more, settled_times, times_are}
use Rattle.vcd_compare.proofs.StateLemmas.{changes_stay, state_stays}

-- ---- an item that gives a code nothing

module _ (items : List BodyItem) (x : BodyItem) (c : IdCode) (none : gives_to c x ≡ false) where
  value_other : (test : ℕ → Bool) → last_value c test (items ++ x ∷ []) ≡ last_value c test items
  value_other test =
      last_value_is c test (items ++ x ∷ []) ∙ ap (latest (gives_at c test)) (entries-append items (x ∷ []))
      ∙ latest-append (gives_at c test) (entries items) (entry_after items x ∷ [])
      ∙ rw none (sym (last_value_is c test items))

  -- a test that does not pass for one more entry
  any_other : (test : Entry → Bool) → test (entry_after items x) ≡ false → list_any test (entries (items ++ x ∷ [])) ≡ list_any test (entries items)
  any_other test e =
      ap (list_any test) (entries-append items (x ∷ []))
      ∙ list_any-append test (entries items) (entry_after items x ∷ [])
      ∙ rw e (or-false (list_any test (entries items)))

  pub triggered_other : (t : ℕ) → is_triggered 1 (items ++ x ∷ []) c t ≡ is_triggered 1 items c t
  triggered_other t = any_other (λ e. gives_to c e.item && not e.inside && 1 * e.time == t) (rw none refl)

  pub state_other : (t : ℕ) → state_at 1 (items ++ x ∷ []) c t ≡ state_at 1 items c t
  state_other t = rw (triggered_other t, value_other (λ u. nat_le (1 * u) t)) refl

  pub changes_other : (t : ℕ) → changes_at (side (items ++ x ∷ [])) c t ≡ changes_at (side items) c t
  changes_other t = any_other (λ e. gives_to c e.item && 1 * e.time == t) (rw none refl)

-- ---- the lines of a time

-- the states up to this time are the same after other items, and so is what changes at it
pub record SameUpTo (u : ℕ) (items items' : List BodyItem) : Type 0 where
  pub state : (c : IdCode) (v : ℕ) → v ≤ u → state_at 1 items' c v ≡ state_at 1 items c v
  pub changes : (c : IdCode) → changes_at (side items') c u ≡ changes_at (side items) c u

any_below : (u : ℕ) (f g : ℕ → Bool) (ts : List ℕ) → ((v : ℕ) → v ≤ u → f v ≡ g v) → list_any (λ v. nat_lt v u && f v) ts ≡ list_any (λ v. nat_lt v u && g v) ts
any_below u f g [] same = refl
any_below u f g (t ∷ ts) same = rw (one (nat_lt t u) refl, any_below u f g ts same) refl
  where
    one : (b : Bool) → nat_lt t u ≡ b → (b && f t) ≡ (b && g t)
    one true e = let l = ltb-true t u e in same t (omega arith)
    one false e = refl

module _ (q : Asked) (items items' : List BodyItem) (u : ℕ) (same : SameUpTo u items items') where
  differs_same : (p : Pair) (v : ℕ) → v ≤ u → differs q.rule (side items') (side items') p v ≡ differs q.rule (side items) (side items) p v
  differs_same p v le = rw (same.state (code_of p.one) v le, same.state (code_of p.other) v le) refl

  any_same : (ps : List Pair) (v : ℕ) → v ≤ u → list_any (λ p. differs q.rule (side items') (side items') p v) ps ≡ list_any (λ p. differs q.rule (side items) (side items) p v) ps
  any_same [] v le = refl
  any_same (p ∷ ps) v le = rw (differs_same p v le, any_same ps v le) refl

  module _ (all : List Pair) (ts ts' : List ℕ) (before : (f : ℕ → Bool) → list_any (λ v. nat_lt v u && f v) ts' ≡ list_any (λ v. nat_lt v u && f v) ts) where
    due_same : (p : Pair) → is_due q (side items') (side items') all ts' u p ≡ is_due q (side items) (side items) all ts u p
    due_same p = rw (differs_same p u (omega arith)) (ap (λ b. differs q.rule (side items) (side items) p u && b) (by_extent q.extent))
      where
        by_extent : (e : Extent) → ◌≡◌ {A = Bool} (elim e [
          | First ↦ not (list_any (λ v. nat_lt v u && list_any (λ o. differs q.rule (side items') (side items') o v) all) ts')
          | EachPair ↦ not (list_any (λ v. nat_lt v u && differs q.rule (side items') (side items') p v) ts')
          | Always ↦ u == 1 * q.from || changes_at (side items') (code_of p.one) u || changes_at (side items') (code_of p.other) u
        ]) (elim e [
          | First ↦ not (list_any (λ v. nat_lt v u && list_any (λ o. differs q.rule (side items) (side items) o v) all) ts)
          | EachPair ↦ not (list_any (λ v. nat_lt v u && differs q.rule (side items) (side items) p v) ts)
          | Always ↦ u == 1 * q.from || changes_at (side items) (code_of p.one) u || changes_at (side items) (code_of p.other) u
        ])
        by_extent First = ap not (before (λ v. list_any (λ o. differs q.rule (side items') (side items') o v) all) ∙ any_below u _ _ ts (any_same all))
        by_extent EachPair = ap not (before (λ v. differs q.rule (side items') (side items') p v) ∙ any_below u _ _ ts (differs_same p))
        by_extent Always = rw (same.changes (code_of p.one), same.changes (code_of p.other)) refl

    line_same : (p : Pair) → value_line (side items') (side items') p u ≡ value_line (side items) (side items) p u
    line_same p = rw (same.state (code_of p.one) u (omega arith), same.state (code_of p.other) u (omega arith)) refl

    pub lines_same : (ps : List Pair) → flat_map (λ p. cond (is_due q (side items') (side items') all ts' u p)
        (value_line (side items') (side items') p u) []) ps ≡ flat_map
        (λ p. cond (is_due q (side items) (side items) all ts u p) (value_line (side items) (side items) p u) []) ps
    lines_same [] = refl
    lines_same (p ∷ ps) = rw (due_same p, line_same p, lines_same ps) refl

-- so it is after an item that gives nothing, and up to a time that is below the last one
pub up_to_still : (u : ℕ) (items : List BodyItem) (x : BodyItem) → ((c : IdCode) → gives_to c x ≡ false) → SameUpTo u items (items ++ x ∷ [])
up_to_still u items x none = record { state = λ c v le. state_other items x c (none c) v; changes = λ c. changes_other items x c (none c) u }

pub up_to_past : (u : ℕ) (items more : List BodyItem) → u < time_after items → SameUpTo u items (items ++ more)
up_to_past u items more l = record {
  state = λ c v le. state_stays 1 v items more c (omega arith);
  changes = λ c. changes_stay 1 u items more c (omega arith);
}

-- ---- what is written

flat_map_same : (f g : ℕ → List ℕ) (ts : List ℕ) → AllByRecursion (λ t. f t ≡ g t) ts → flat_map f ts ≡ flat_map g ts
flat_map_same f g [] same = refl
flat_map_same f g (t ∷ ts) same = rw (same.0, flat_map_same f g ts same.1) refl

all_filtered : (P : ℕ → Type 0) (test : ℕ → Bool) (ts : List ℕ) → ((t : ℕ) → test t ≡ true → P t) → AllByRecursion P (filter test ts)
all_filtered P test [] holds = tt
all_filtered P test (t ∷ ts) holds = by_test (test t) refl (all_filtered P test ts holds)
  where
    by_test : (b : Bool) → test t ≡ b → AllByRecursion P (filter test ts) → AllByRecursion P (cond b (t ∷ filter test ts) (filter test ts))
    by_test true e rest = (holds t e, rest)
    by_test false e rest = rest

each : (P : ℕ → Type 0) (ts : List ℕ) → ((t : ℕ) → P t) → AllByRecursion P ts
each P [] holds = tt
each P (t ∷ ts) holds = (holds t, each P ts holds)

all_mapped : (P Q : ℕ → Type 0) (ts : List ℕ) → ((t : ℕ) → P t → Q t) → AllByRecursion P ts → AllByRecursion Q ts
all_mapped P Q [] f all = tt
all_mapped P Q (t ∷ ts) f all = (f t all.0, all_mapped P Q ts f all.1)

all_in : (P : ℕ → Type 0) (test : ℕ → Bool) (ts : List ℕ) → AllByRecursion P ts → AllByRecursion P (filter test ts)
all_in P test [] all = tt
all_in P test (t ∷ ts) all = by_test (test t) (all_in P test ts all.1)
  where
    by_test : (b : Bool) → AllByRecursion P (filter test ts) → AllByRecursion P (cond b (t ∷ filter test ts) (filter test ts))
    by_test true rest = (all.0, rest)
    by_test false rest = rest

all_up_to : (top : ℕ) (ts : List ℕ) → AllByRecursion (λ u. u < top) ts → AllByRecursion (λ u. u ≤ top) (ts ++ top ∷ [])
all_up_to top [] all = (omega arith, tt)
all_up_to top (t ∷ ts) all = (let l = all.0 in omega arith, all_up_to top ts all.1)

module _ (q : Asked) (h : Header) (ns : List Names) (items : List BodyItem) where
  -- the lines of these times, by those of the window
  abbrev lines_by : List BodyItem → (all ts : List ℕ) → List ℕ
  lines_by its all ts = flat_map (lines_at q (compared_in q h ns) (side its) (side its) all) ts

  -- the times of the window, by the timestamps
  abbrev window : List ℕ → List ℕ
  window ms = filter (λ t. nat_le q.from t && nat_le t q.to) (in_order (q.from ∷ ms))

  -- no line comes with an item that is no timestamp
  pub open_other : (x : BodyItem) → marks (x ∷ []) ≡ [] → within_open q h ns (items ++ x ∷ []) ≡ within_open q h ns items
  unfolding within_open
  open_other x other =
      let same : marks (items ++ x ∷ []) ≡ marks items = marks-append items (x ∷ []) ∙ ap (λ l. marks items ++ l) other ∙ append-nil (marks items) in
      ap (λ l. within_head q h ns ++ l)
      (ap (λ ms. lines_by (items ++ x ∷ []) (window ms) (filter (λ t. list_any (nat_lt t) ms) (window ms))) same
      ∙ flat_map_same _ _ (filter (is_settled items) (times_in q items))
      (all_filtered _ (is_settled items) (times_in q items) (λ t e. lines_same q items (items ++ x ∷ []) t
      (up_to_past t items (x ∷ []) (below_greatest t 0 (marks items) e)) (compared_in q h ns) (times_in q items) (times_in q items) (λ f. refl)
      (compared_in q h ns))))

  -- the times up to the last one that is asked for
  abbrev kept : List ℕ → List ℕ
  kept ts = filter (λ t. nat_le t q.to) ts

  -- the lines at the time that is compared
  due_is : lines_by items (times_in q items) (kept (time_compared q items ∷ [])) ≡ lines_due q h ns items
  unfolding lines_due
  due_is = by_test (nat_le (time_compared q items) q.to)
    where
      by_test : (b : Bool) → flat_map (lines_at q (compared_in q h ns) (side items) (side items) (times_in q items))
          (cond b (time_compared q items ∷ []) []) ≡ cond b (lines_at q (compared_in q h ns) (side items) (side items) (times_in q items)
          (time_compared q items)) []
      by_test true = append-nil (lines_at q (compared_in q h ns) (side items) (side items) (times_in q items) (time_compared q items))
      by_test false = refl

  -- at the end they are what is left
  pub close_is : DoNotFall 0 (marks items) → within_close q h ns items ≡ lines_due q h ns items
  unfolding within_close
  close_is up = ap (lines_by items (times_in q items)) (other_times q items up) ∙ due_is

  module _ (t : ℕ) (up : DoNotFall 0 (marks items)) (up' : DoNotFall 0 (marks (items ++ BodyItem.Time t ∷ []))) where
    abbrev after : List BodyItem
    after = items ++ BodyItem.Time t ∷ []

    more_marks : marks after ≡ marks items ++ t ∷ []
    more_marks = marks-append items (BodyItem.Time t ∷ [])

    pub compared_more : time_compared q after ≡ max (time_compared q items) t
    compared_more = ap (fold max q.from) more_marks ∙ fold-append max q.from (marks items) (t ∷ [])

    past_after : past q.from (marks after) ≡ past q.from (marks items) ++ cond (nat_lt (time_compared q items) t) (time_compared q items ∷ []) []
    past_after = ap (past q.from) more_marks ∙ past_more q.from (marks items) t

    open_by_past : within_open q h ns after ≡ within_head q h ns ++ lines_by after (times_in q after) (kept (past q.from (marks after)))
    unfolding within_open
    open_by_past = ap (λ l. within_head q h ns ++ lines_by after (times_in q after) l) (settled_times q after up')

    open_before : within_open q h ns items ≡ within_head q h ns ++ lines_by items (times_in q items) (kept (past q.from (marks items)))
    unfolding within_open
    open_before = ap (λ l. within_head q h ns ++ lines_by items (times_in q items) l) (settled_times q items up)

    same_at : (ts' : List ℕ) (u : ℕ) → ((f : ℕ → Bool) → list_any (λ v. nat_lt v u && f v) ts' ≡ list_any (λ v. nat_lt v u && f v) (times_in q items))
        → lines_at q (compared_in q h ns) (side after) (side after) ts' u ≡ lines_at q (compared_in q h ns) (side items) (side items) (times_in q items) u
    same_at ts' u before = lines_same q items after u (up_to_still u items (BodyItem.Time t) (λ c. refl)) (compared_in q h ns) (times_in q items) ts' before (compared_in q h ns)

    -- a timestamp that is not above the time that is compared settles nothing
    module _ (low : t ≤ time_compared q items) where
      same_compared : time_compared q after ≡ time_compared q items
      same_compared = compared_more ∙ omega arith

      same_past : past q.from (marks after) ≡ past q.from (marks items)
      same_past = past_after ∙ rw (le-ltb (time_compared q items) t low) (append-nil (past q.from (marks items)))

      same_times : times_in q after ≡ times_in q items
      same_times = times_are q after up' ∙ rw (same_past, same_compared) (sym (times_are q items up))

      pub open_again : within_open q h ns after ≡ within_open q h ns items
      open_again =
          open_by_past ∙ rw (same_times, same_past)
          (ap (λ l. within_head q h ns ++ l) (flat_map_same _ _ (kept (past q.from (marks items))) (each _ (kept (past q.from (marks items))) (λ u. same_at (times_in q items) u (λ f. refl)))))
          ∙ sym open_before

    -- one above it settles this time
    module _ (high : time_compared q items < t) where
      pub later_compared : time_compared q after ≡ t
      later_compared = compared_more ∙ omega arith

      later_past : past q.from (marks after) ≡ past q.from (marks items) ++ time_compared q items ∷ []
      later_past = past_after ∙ rw (lt-ltb (time_compared q items) t high) refl

      pub later_times : times_in q after ≡ times_in q items ++ kept (t ∷ [])
      later_times =
          times_are q after up'
          ∙ rw (later_past, later_compared) (ap (λ l. l ++ kept (t ∷ []))
          (filter-append (λ t. nat_le t q.to) (past q.from (marks items)) (time_compared q items ∷ []) ∙ sym (times_are q items up)))

      none_before : (u : ℕ) (f : ℕ → Bool) → u ≤ time_compared q items
          → list_any (λ v. nat_lt v u && f v) (times_in q items ++ kept (t ∷ [])) ≡ list_any (λ v. nat_lt v u && f v) (times_in q items)
      none_before u f le =
          list_any-append (λ v. nat_lt v u && f v) (times_in q items) (kept (t ∷ []))
          ∙ ap (λ b. list_any (λ v. nat_lt v u && f v) (times_in q items) || b) (by_test (nat_le t q.to))
          ∙ or-false (list_any (λ v. nat_lt v u && f v) (times_in q items))
        where
          by_test : (b : Bool) → list_any (λ v. nat_lt v u && f v) (cond b (t ∷ []) []) ≡ false
          by_test true = rw (le-ltb t u (omega arith)) refl
          by_test false = refl

      all_same : (ts : List ℕ) → AllByRecursion (λ u. u ≤ time_compared q items) ts → lines_by after (times_in q after) ts ≡ lines_by items (times_in q items) ts
      all_same ts low =
          flat_map_same _ _ ts
          (all_mapped (λ u. u ≤ time_compared q items) _ ts (λ u le. same_at (times_in q after) u (λ f. ap (list_any (λ v. nat_lt v u && f v)) later_times ∙ none_before u f le)) low)

      pub open_later : within_open q h ns after ≡ within_open q h ns items ++ lines_due q h ns items
      open_later =
          let before = past q.from (marks items) in
          let last = time_compared q items in
          open_by_past ∙ ap (λ l. within_head q h ns ++ lines_by after (times_in q after) (kept l)) later_past
          ∙ ap (λ l. within_head q h ns ++ l)
          (all_same (kept (before ++ last ∷ [])) (all_in (λ u. u ≤ last) (λ u. nat_le u q.to) (before ++ last ∷ []) (all_up_to last before (past_below q.from (marks items))))
          ∙ ap (lines_by items (times_in q items)) (filter-append (λ u. nat_le u q.to) before (last ∷ []))
          ∙ flat_map-append (lines_at q (compared_in q h ns) (side items) (side items) (times_in q items)) (kept before) (kept (last ∷ []))
          ∙ ap (λ l. lines_by items (times_in q items) (kept before) ++ l) due_is)
          ∙ sym (append_assoc (within_head q h ns) (lines_by items (times_in q items) (kept before)) (lines_due q h ns items))
          ∙ ap (λ l. l ++ lines_due q h ns items) (sym open_before)
