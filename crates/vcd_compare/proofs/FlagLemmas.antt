-- The flag of two codes with one item more.
use Rattle.vcd_compare.proofs.Cited.{◌≡◌, ◌≢◌, ◌⊎◌, inl, inr, ℕ, ◌<◌, ◌≤◌, ◌*◌, ◌==◌, max, Bool, true, false, not, cond, ◌&&◌, ◌||◌, nat_lt, nat_le, List, [], ◌∷◌, ◌++◌, fold, filter, None, refl, sym, ap, ◌∙◌, append-nil, arith, AllByRecursion, list_any, cases_eq, eqb-false, lt-ltb, le-leb, eq-eqb, ne_eqb, filter-append, list_any-append, or-false, or-true, and-false, IdCode, final_value, gives_to, BodyItem, Entry, entries, entry_after, marks, time_after, is_settled, Asked, Extent, changes_at, in_order, is_triggered, state_at, side, times_in, times_within, value_by, entries-append, below_greatest, fold-append, marks-append, DoNotFall, changed_at, codes_differ, flag_by, had_line, is_always, time_compared}
use Rattle.vcd_compare.specs.Lines.{flag_of}
use Rattle.vcd_compare.proofs.OpenGrows.{changes_other, state_other, triggered_other}
use Rattle.vcd_compare.proofs.PastTimes.{past, past_more, settled_times}
use Rattle.vcd_compare.proofs.StateLemmas.{state_stays}

-- ---- states after all items

time_is : (from low : ℕ) (ms : List ℕ) → fold max (max from low) ms ≡ max from (fold max low ms)
time_is from low [] = refl
time_is from low (m ∷ ms) = let same : max (max from low) m ≡ max from (max low m) = omega arith in ap (λ k. fold max k ms) same ∙ time_is from (max low m) ms

-- the time that is compared is the last one, or the first that is asked for
pub compared_is : (q : Asked) (items : List BodyItem) → time_compared q items ≡ max q.from (time_after items)
compared_is q items = let zero : max q.from 0 ≡ q.from = omega arith in ap (λ k. fold max k (marks items)) (sym zero) ∙ time_is q.from 0 (marks items)

-- a value is the last one
pub value_final : (c : IdCode) (items : List BodyItem) (t : ℕ) → time_after items ≤ t → c.event ≡ false → state_at 1 items c t ≡ final_value items c
value_final c items t le event = rw event (value_by c (λ u. nat_le (1 * u) t) items (λ u l. le-leb (1 * u) t (omega arith)))

none_of : (test : Entry → Bool) (top : ℕ) (es : List Entry) → ((e : Entry) → e.time ≤ top → test e ≡ false) → AllByRecursion (λ e. e.time ≤ top) es → list_any test es ≡ false
none_of test top [] fails all = refl
none_of test top (e ∷ es) fails all = rw (fails e all.0, none_of test top es fails all.1) refl

-- after all items nothing is triggered, and nothing changes
pub triggered_after : (c : IdCode) (items : List BodyItem) (t : ℕ) → time_after items < t → is_triggered 1 items c t ≡ false
triggered_after c items t l =
    none_of (λ e. gives_to c e.item && not e.inside && 1 * e.time == t) (time_after items) (entries items)
    (λ e le. rw (ne_eqb (1 * e.time) t (λ i. omega (arith, le, l, i))) (and-false (gives_to c e.item && not e.inside)))
    (times_within [] items)

pub changes_after : (c : IdCode) (items : List BodyItem) (t : ℕ) → time_after items < t → changes_at (side items) c t ≡ false
changes_after c items t l =
    none_of (λ e. gives_to c e.item && 1 * e.time == t) (time_after items) (entries items)
    (λ e le. rw (ne_eqb (1 * e.time) t (λ i. omega (arith, le, l, i))) (and-false (gives_to c e.item)))
    (times_within [] items)

-- ---- items with which the two codes stay as they are

module _ (q : Asked) (items items' : List BodyItem) (a b : IdCode) (state_a : (t : ℕ) → state_at 1 items' a t ≡ state_at 1 items a t)
    (state_b : (t : ℕ) → state_at 1 items' b t ≡ state_at 1 items b t) where
  pub differ_same : (t : ℕ) → codes_differ q.rule items' a b t ≡ codes_differ q.rule items a b t
  differ_same t = rw (state_a t, state_b t) refl

  any_differ : (ts : List ℕ) → list_any (codes_differ q.rule items' a b) ts ≡ list_any (codes_differ q.rule items a b) ts
  any_differ [] = refl
  any_differ (t ∷ ts) = rw (differ_same t, any_differ ts) refl

  module _ (same_time : time_compared q items' ≡ time_compared q items) (same_times : filter (is_settled items') (times_in q items') ≡ filter (is_settled items) (times_in q items))
      (changes_a : (t : ℕ) → changes_at (side items') a t ≡ changes_at (side items) a t) (changes_b : (t : ℕ) → changes_at (side items') b t ≡ changes_at (side items) b t) where
    had_same : had_line q items' a b ≡ had_line q items a b
    had_same = ap (list_any (codes_differ q.rule items' a b)) same_times ∙ any_differ (filter (is_settled items) (times_in q items))

    changed_same : (t : ℕ) → changed_at items' a b t ≡ changed_at items a b t
    changed_same t = rw (changes_a t, changes_b t) refl

    pub flag_same : flag_of q items' a b ≡ flag_of q items a b
    unfolding flag_of
    flag_same =
        ap (λ t. cond (is_always q.extent) (cond (codes_differ q.rule items' a b t && (t == q.from || changed_at items' a b t)) 1 0)
        (cond (had_line q items' a b) 2 (cond (codes_differ q.rule items' a b t) 1 0))) same_time
        ∙ rw (had_same, differ_same (time_compared q items), changed_same (time_compared q items)) refl

-- ---- flags by marks

-- what becomes of a flag once the lines of a time were written
abbrev pub settled_flag : Extent → ℕ → ℕ
settled_flag e f = cond (f == 1) (cond (is_always e) 0 2) f

low_parts : (always now had differs : Bool) → cond {A = ℕ} always (cond now 1 0) (cond had 2 (cond differs 1 0)) ≤ 2
low_parts true true had differs = omega arith
low_parts true false had differs = omega arith
low_parts false now true differs = omega arith
low_parts false now false true = omega arith
low_parts false now false false = omega arith

pub flag_low : (q : Asked) (items : List BodyItem) (a b : IdCode) → flag_of q items a b ≤ 2
unfolding flag_of
flag_low q items a b = low_parts _ _ _ _

-- the flag by a mark, once the class is touched by a change
pub touched_flag : (mark now : ℕ) (was differs : Bool) (flag next : ℕ) → ((now ≡ mark) × (now ≢ 0)) ⊎ ((mark ≡ 0) × (now ≡ 1))
    → flag ≡ flag_by mark was → flag ≤ 2 → next ≡ cond (flag == 2) 2 (cond differs 1 0) → next ≡ flag_by now differs
touched_flag mark now was differs flag next known is low next_is = by_two (cases_eq flag 2)
  where
    not_two : (b : Bool) → cond {A = ℕ} b 1 0 ≢ 2
    not_two true e = cc
    not_two false e = cc

    other : mark ≢ 1 → flag ≡ mark
    other d = is ∙ ap (λ b. cond b (cond was 1 0) mark) (ne_eqb mark 1 d)

    mark_two : flag ≡ 2 → (mark ≡ 1) ⊎ (mark ≢ 1) → mark ≡ 2
    mark_two two (inl one) = absurd (not_two was (sym (is ∙ ap (λ m. flag_by m was) one) ∙ two))
    mark_two two (inr d) = sym (other d) ∙ two

    now_two : mark ≡ 2 → ((now ≡ mark) × (now ≢ 0)) ⊎ ((mark ≡ 0) × (now ≡ 1)) → now ≡ 2
    now_two two (inl same) = same.0 ∙ two
    now_two two (inr new) = let zero = new.0 in absurd (omega (arith, two, zero))

    now_one : flag ≢ 2 → (mark ≡ 1) ⊎ (mark ≢ 1) → ((now ≡ mark) × (now ≢ 0)) ⊎ ((mark ≡ 0) × (now ≡ 1)) → now ≡ 1
    now_one apart any (inr new) = new.1
    now_one apart (inl one) (inl same) = same.0 ∙ one
    now_one apart (inr d) (inl same) = let e = other d in let f = same.0 in let g = same.1 in absurd (omega (arith, e, f, g, low, apart, d))

    by_two : (flag ≡ 2) ⊎ (flag ≢ 2) → next ≡ flag_by now differs
    by_two (inl two) =
        let done = now_two (mark_two two (cases_eq mark 1)) known in
        next_is ∙ ap (λ f. cond (f == 2) 2 (cond {A = ℕ} differs 1 0)) two ∙ ap (λ m. flag_by m differs) (sym done)
    by_two (inr d) =
        next_is ∙ ap (λ b. cond b 2 (cond {A = ℕ} differs 1 0)) (ne_eqb flag 2 d) ∙ ap (λ m. flag_by m differs) (sym (now_one d (cases_eq mark 1) known))

-- a mark that is not 1 is the flag, whatever differs
pub settled_mark : (e : Extent) (flag : ℕ) (differs : Bool) → settled_flag e flag ≡ flag_by (settled_flag e flag) differs
settled_mark e flag differs = by_test (flag == 1) refl
  where
    by_extent : (always : Bool) → cond {A = ℕ} always 0 2 ≡ flag_by (cond always 0 2) differs
    by_extent true = refl
    by_extent false = refl

    by_test : (b : Bool) → (flag == 1) ≡ b → cond b (cond (is_always e) 0 2) flag ≡ flag_by (cond b (cond (is_always e) 0 2) flag) differs
    by_test true one = by_extent (is_always e)
    by_test false other = sym (ap (λ b. cond b (cond {A = ℕ} differs 1 0) flag) other)

-- ---- a change of one of the two

left_more : (f p s : Bool) → (f || p) ≡ true → (f || (p || s)) ≡ true
left_more true p s e = refl
left_more false true s e = refl
left_more false false s e = cc

right_more : (f p s : Bool) → (f || s) ≡ true → (f || (p || s)) ≡ true
right_more true p s e = refl
right_more false true s e = refl
right_more false false s e = e

-- a flag of 2 stays, and any other says whether the two differ now
by_parts : (always had now was changed : Bool) → ◌≡◌ {A = ℕ} (cond always (cond (now && true) 1 0) (cond had 2 (cond now 1 0)))
    (cond (cond always (cond (was && changed) 1 0) (cond had 2 (cond was 1 0)) == 2) 2 (cond now 1 0))
by_parts true had true true true = refl
by_parts true had true true false = refl
by_parts true had true false changed = refl
by_parts true had false true true = refl
by_parts true had false true false = refl
by_parts true had false false changed = refl
by_parts false true now was changed = refl
by_parts false false now true changed = refl
by_parts false false now false changed = refl

module _ (q : Asked) (items : List BodyItem) (x : BodyItem) (other : marks (x ∷ []) ≡ []) where
  same_marks : marks (items ++ x ∷ []) ≡ marks items
  same_marks = marks-append items (x ∷ []) ∙ ap (λ l. marks items ++ l) other ∙ append-nil (marks items)

  pub compared_other : time_compared q (items ++ x ∷ []) ≡ time_compared q items
  compared_other = ap (fold max q.from) same_marks

  pub settled_other : filter (is_settled (items ++ x ∷ [])) (times_in q (items ++ x ∷ [])) ≡ filter (is_settled items) (times_in q items)
  settled_other = ap (λ ms. filter (λ t. list_any (nat_lt t) ms) (filter (λ t. nat_le q.from t && nat_le t q.to) (in_order (q.from ∷ ms)))) same_marks

  pub any_settled : (f g : ℕ → Bool) (ts : List ℕ) → ((t : ℕ) → is_settled items t ≡ true → f t ≡ g t)
      → list_any f (filter (is_settled items) ts) ≡ list_any g (filter (is_settled items) ts)
  any_settled f g [] same = refl
  any_settled f g (t ∷ ts) same = by_test (is_settled items t) refl (any_settled f g ts same)
    where
      by_test : (b : Bool) → is_settled items t ≡ b → list_any f (filter (is_settled items) ts) ≡ list_any g (filter (is_settled items) ts)
          → list_any f (cond b (t ∷ filter (is_settled items) ts) (filter (is_settled items) ts)) ≡ list_any g (cond b (t ∷ filter (is_settled items) ts) (filter (is_settled items) ts))
      by_test true e rest = rw (same t e, rest) refl
      by_test false e rest = rest

  module _ (a b : IdCode) where
    pub differed_same : (t : ℕ) → is_settled items t ≡ true → codes_differ q.rule (items ++ x ∷ []) a b t ≡ codes_differ q.rule items a b t
    differed_same t e =
        let low = below_greatest t 0 (marks items) e in
        rw (state_stays 1 t items (x ∷ []) a (omega arith), state_stays 1 t items (x ∷ []) b (omega arith)) refl

    had_stays : had_line q (items ++ x ∷ []) a b ≡ had_line q items a b
    had_stays =
        ap (list_any (codes_differ q.rule (items ++ x ∷ []) a b)) settled_other
        ∙ any_settled (codes_differ q.rule (items ++ x ∷ []) a b) (codes_differ q.rule items a b) (times_in q items) differed_same

    -- a change is at the time that is compared, unless that is the first one
    change_there : (c : IdCode) → gives_to c x ≡ true → (time_compared q items == q.from || changes_at (side (items ++ x ∷ [])) c (time_compared q items)) ≡ true
    change_there c gives = by_test (time_compared q items == q.from) refl
      where
        by_test : (same : Bool) → (time_compared q items == q.from) ≡ same → (same || changes_at (side (items ++ x ∷ [])) c (time_compared q items)) ≡ true
        by_test true e = refl
        by_test false e =
            let ne = eqb-false (time_compared q items) q.from e in
            let is = compared_is q items in
            let test = λ (e : Entry). gives_to c e.item && 1 * e.time == time_compared q items in
            let there : 1 * time_after items ≡ time_compared q items = omega (arith, ne, is) in
            ap (list_any test) (entries-append items (x ∷ [])) ∙ list_any-append test (entries items) (entry_after items x ∷ [])
            ∙ rw (gives, eq-eqb (1 * time_after items) (time_compared q items) there) (or-true (list_any test (entries items)))

    changed_now : (gives_to a x ≡ true) ⊎ (gives_to b x ≡ true) → (time_compared q items == q.from || changed_at (items ++ x ∷ []) a b (time_compared q items)) ≡ true
    changed_now (inl one) = left_more (time_compared q items == q.from) (changes_at (side (items ++ x ∷ [])) a (time_compared q items)) _ (change_there a one)
    changed_now (inr two) = right_more (time_compared q items == q.from) _ (changes_at (side (items ++ x ∷ [])) b (time_compared q items)) (change_there b two)

    pub flag_changed : (gives_to a x ≡ true) ⊎ (gives_to b x ≡ true)
        → flag_of q (items ++ x ∷ []) a b ≡ cond (flag_of q items a b == 2) 2
        (cond (codes_differ q.rule (items ++ x ∷ []) a b (time_compared q items)) 1 0)
    unfolding flag_of
    flag_changed either =
        ap (λ t. cond (is_always q.extent) (cond (codes_differ q.rule (items ++ x ∷ []) a b t && (t == q.from || changed_at (items ++ x ∷ []) a b t))
        1 0) (cond (had_line q (items ++ x ∷ []) a b) 2 (cond (codes_differ q.rule (items ++ x ∷ []) a b t) 1 0))) compared_other
        ∙ rw (had_stays, changed_now either) (by_parts (is_always q.extent) (had_line q items a b)
        (codes_differ q.rule (items ++ x ∷ []) a b (time_compared q items)) (codes_differ q.rule items a b (time_compared q items))
        (time_compared q items == q.from || changed_at items a b (time_compared q items)))

-- ---- a timestamp above the time that is compared

parts_after : (always had now late early : Bool) → (late ≡ true → now ≡ true)
    → ◌≡◌ {A = ℕ} (cond always (cond (late && false) 1 0) (cond (had || now) 2 (cond late 1 0)))
    (cond (cond always (cond (now && early) 1 0) (cond had 2 (cond now 1 0)) == 1) (cond always 0 2)
    (cond always (cond (now && early) 1 0) (cond had 2 (cond now 1 0))))
parts_after true had now late early g = ap (λ b. cond {A = ℕ} b 1 0) (and-false late) ∙ by_flag (now && early)
  where
    by_flag : (b : Bool) → ◌≡◌ {A = ℕ} 0 (cond (cond b 1 0 == 1) 0 (cond b 1 0))
    by_flag true = refl
    by_flag false = refl
parts_after false true now late early g = refl
parts_after false false true late early g = refl
parts_after false false false true early g = let no = g refl in cc
parts_after false false false false early g = refl

module _ (q : Asked) (items : List BodyItem) (t : ℕ) (up : DoNotFall 0 (marks items)) (up' : DoNotFall 0 (marks (items ++ BodyItem.Time t ∷ [])))
    (high : time_compared q items < t) (asked : time_compared q items ≤ q.to) where
  abbrev after : List BodyItem
  after = items ++ BodyItem.Time t ∷ []

  abbrev last : ℕ
  last = time_compared q items

  pub compared_after : time_compared q after ≡ t
  compared_after = ap (fold max q.from) (marks-append items (BodyItem.Time t ∷ [])) ∙ fold-append max q.from (marks items) (t ∷ []) ∙ omega arith

  pub settled_after : filter (is_settled after) (times_in q after) ≡ filter (is_settled items) (times_in q items) ++ last ∷ []
  settled_after =
      settled_times q after up'
      ∙ ap (filter (λ u. nat_le u q.to)) (ap (past q.from) (marks-append items (BodyItem.Time t ∷ [])) ∙ past_more q.from (marks items) t ∙ rw (lt-ltb last t high) refl)
      ∙ filter-append (λ u. nat_le u q.to) (past q.from (marks items)) (last ∷ [])
      ∙ rw (le-leb last q.to asked) (ap (λ l. l ++ last ∷ []) (sym (settled_times q items up)))

  low : time_after items < t
  low = let is = compared_is q items in omega arith

  module _ (a b : IdCode) (same : a.event ≡ b.event) where
    had_after : had_line q after a b ≡ (had_line q items a b || codes_differ q.rule items a b last)
    had_after =
        ap (list_any (codes_differ q.rule after a b)) settled_after
        ∙ any_differ q items after a b (state_other items (BodyItem.Time t) a refl) (state_other items (BodyItem.Time t) b refl) (filter (is_settled items) (times_in q items) ++ last ∷ [])
        ∙ list_any-append (codes_differ q.rule items a b) (filter (is_settled items) (times_in q items)) (last ∷ [])
        ∙ ap (λ d. had_line q items a b || d) (or-false (codes_differ q.rule items a b last))

    -- values stay
    value_stays : (c : IdCode) → c.event ≡ false → state_at 1 after c t ≡ state_at 1 items c last
    value_stays c e =
        let is = compared_is q items in
        state_other items (BodyItem.Time t) c refl t ∙ value_final c items t (omega arith) e ∙ sym (value_final c items last (omega arith) e)

    -- and no event is triggered yet
    event_ends : (c : IdCode) → c.event ≡ true → state_at 1 after c t ≡ None
    event_ends c e = rw (e, triggered_other items (BodyItem.Time t) c refl t, triggered_after c items t low) refl

    differ_after : codes_differ q.rule after a b t ≡ true → codes_differ q.rule items a b last ≡ true
    differ_after = by_event a.event refl
      where
        by_event : (e : Bool) → a.event ≡ e → codes_differ q.rule after a b t ≡ true → codes_differ q.rule items a b last ≡ true
        by_event true e d = let none : codes_differ q.rule after a b t ≡ false = rw (event_ends a e, event_ends b (sym same ∙ e)) refl in cc
        by_event false e d = rw (← (value_stays a e), ← (value_stays b (sym same ∙ e))) d

    pub flag_after : flag_of q after a b ≡ settled_flag q.extent (flag_of q items a b)
    unfolding flag_of
    flag_after =
        let is = compared_is q items in
        let late : (t == q.from) ≡ false = ne_eqb t q.from (λ e. omega arith) in
        ap (λ u. cond (is_always q.extent) (cond (codes_differ q.rule after a b u && (u == q.from || changed_at after a b u)) 1 0)
        (cond (had_line q after a b) 2 (cond (codes_differ q.rule after a b u) 1 0))) compared_after
        ∙ rw (had_after, late, changes_other items (BodyItem.Time t) a refl t ∙ changes_after a items t low, changes_other items (BodyItem.Time t) b refl t ∙ changes_after b items t low)
        (parts_after (is_always q.extent) (had_line q items a b) (codes_differ q.rule items a b last) (codes_differ q.rule after a b t) (last == q.from || changed_at items a b last) differ_after)
