-- No item after those that end a run adds a line at a settled time, or takes one away.
use Rattle.vcd_compare.proofs.Cited.{◌≡◌, ◌⊎◌, inl, inr, ℕ, ◌<◌, ◌≤◌, Bool, true, false, cond, ◌&&◌, ◌||◌, nat_lt, nat_le, List, [], ◌∷◌, ◌++◌, filter, flat_map, refl, sym, ap, subst, ◌∙◌, append-nil, append_assoc, list_any, cases_lt, lt-leb, or_parts, append_cancel_left, list_any-append, and-false, is_empty, is_mark_above, Header, BodyItem, marks, is_settled, Asked, Extent, Pair, differs, ends_with, is_due, lines_at, value_line, First, EachPair, Always, Names, compared_in, ends_run, lines_where, side, times_in, within_head, below_greatest, marks-append, DoNotFall, time_compared}
use Rattle.vcd_model.specs.Within.{within_open}
use Rattle.vcd_compare.specs.Lines.{lines_due}
use Rattle.vcd_compare.proofs.DueFlags.{before_last}
use Rattle.vcd_compare.proofs.OpenGrows.{open_again, open_later, open_other}

-- ---- timestamps

-- those of some first items do not fall either
no_fall_front : (low : ℕ) (ms ns : List ℕ) → DoNotFall low (ms ++ ns) → DoNotFall low ms
no_fall_front low [] ns up = tt
no_fall_front low (m ∷ ms) ns up = (up.0, no_fall_front m ms ns up.1)

pub up_front : (items more : List BodyItem) → DoNotFall 0 (marks (items ++ more)) → DoNotFall 0 (marks items)
up_front items more up = no_fall_front 0 (marks items) (marks more) (subst (DoNotFall 0) (marks-append items more) up)

-- an item that is a timestamp above a bound, by the timestamps
above_is : (b : ℕ) (items : List BodyItem) → list_any (is_mark_above b) items ≡ list_any (nat_lt b) (marks items)
above_is b [] = refl
above_is b (BodyItem.Time t ∷ items) = ap (λ x. nat_lt b t || x) (above_is b items)
above_is b (BodyItem.Begin s ∷ items) = above_is b items
above_is b (BodyItem.End ∷ items) = above_is b items
above_is b (BodyItem.Changes c ∷ items) = above_is b items

-- ---- lines

-- lines that end a comparison are those of the first time
ends_first : (e : Extent) (lines : List ℕ) → ends_with e lines ≡ true → (e ≡ First) × (is_empty lines ≡ false)
ends_first First [] ends = cc
ends_first First (b ∷ bs) ends = (refl, refl)
ends_first EachPair lines ends = cc
ends_first Always lines ends = cc

module _ (q : Asked) (h : Header) (ns : List Names) (items : List BodyItem) where
  -- some pair differs at the time
  abbrev some_at : ℕ → Bool
  some_at u = list_any (λ p. differs q.rule (side items) (side items) p u) (compared_in q h ns)

  -- no line is due at a time at which no pair differs
  none_at : (ts : List ℕ) (u : ℕ) (ps : List Pair) → list_any (λ p. differs q.rule (side items) (side items) p u) ps ≡ false
      → flat_map (λ p. cond (is_due q (side items) (side items) (compared_in q h ns) ts u p) (value_line (side items) (side items) p u) []) ps ≡ []
  none_at ts u [] none = refl
  none_at ts u (p ∷ ps) none =
      let both = or_parts (differs q.rule (side items) (side items) p u) (list_any (λ o. differs q.rule (side items) (side items) o u) ps) none in
      let one : differs q.rule (side items) (side items) p u ≡ false = both.0 in
      rw (one, none_at ts u ps both.1) refl

  none_of : (ts us : List ℕ) → list_any some_at us ≡ false → flat_map (lines_at q (compared_in q h ns) (side items) (side items) ts) us ≡ []
  none_of ts [] none = refl
  none_of ts (u ∷ us) none = let both = or_parts _ _ none in rw (none_at ts u (compared_in q h ns) both.0, none_of ts us both.1) refl

  -- nor at a time that comes after one at which some pair differs, if only those of the first time
  -- are asked for
  none_after : q.extent ≡ First → (ts : List ℕ) (t : ℕ) → list_any (λ u. nat_lt u t && some_at u) ts ≡ true → (ps : List Pair)
      → flat_map (λ p. cond (is_due q (side items) (side items) (compared_in q h ns) ts t p) (value_line (side items) (side items) p t) []) ps ≡ []
  none_after first ts t before [] = refl
  none_after first ts t before (p ∷ ps) = rw (none_after first ts t before ps, first, before, and-false (differs q.rule (side items) (side items) p t)) refl

  module _ (up : DoNotFall 0 (marks items)) where
    first_is_past : q.extent ≡ First → is_empty (lines_where q h ns items (is_settled items)) ≡ false → lines_due q h ns items ≡ []
    unfolding lines_due
    first_is_past first some = by_test (list_any some_at (filter (is_settled items) (times_in q items))) refl
      where
        both : (b : Bool) → ◌≡◌ {A = List ℕ} (cond b [] []) []
        both true = refl
        both false = refl

        by_test : (b : Bool) → list_any some_at (filter (is_settled items) (times_in q items)) ≡ b
            → cond (nat_le (time_compared q items) q.to) (lines_at q (compared_in q h ns) (side items) (side items) (times_in q items) (time_compared q items)) [] ≡ []
        by_test true e =
            rw (none_after first (times_in q items) (time_compared q items) (before_last q items up some_at ∙ e) (compared_in q h ns)) (both (nat_le (time_compared q items) q.to))
        by_test false e = let none = ap is_empty (none_of (times_in q items) (filter (is_settled items) (times_in q items)) e) in let no = sym none ∙ some in cc

    -- nothing more is due if these items end the run
    none_due : ends_run q h ns items ≡ true → lines_due q h ns items ≡ []
    unfolding lines_due
    none_due ends = by_test (list_any (is_mark_above q.to) items) refl ends
      where
        by_test : (b : Bool) → list_any (is_mark_above q.to) items ≡ b → (b || ends_with q.extent (lines_where q h ns items (is_settled items))) ≡ true → lines_due q h ns items ≡ []
        by_test true e f = let last = below_greatest q.to q.from (marks items) (sym (above_is q.to items) ∙ e) in rw (lt-leb (time_compared q items) q.to last) refl
        by_test false e f = let first = ends_first q.extent (lines_where q h ns items (is_settled items)) f in first_is_past first.0 first.1

-- ---- one item more

or_more : (a b c : Bool) → (a || c) ≡ true → ((a || b) || c) ≡ true
or_more true b c e = refl
or_more false true c e = refl
or_more false false c e = e

module _ (q : Asked) (h : Header) (ns : List Names) where
  same_open : (items : List BodyItem) (x : BodyItem) → DoNotFall 0 (marks (items ++ x ∷ [])) → ends_run q h ns items ≡ true
      → within_open q h ns (items ++ x ∷ []) ≡ within_open q h ns items
  same_open items (BodyItem.Time t) up ends = by_order (cases_lt (time_compared q items) t)
    where
      by_order : (time_compared q items < t) ⊎ (t ≤ time_compared q items) → within_open q h ns (items ++ BodyItem.Time t ∷ []) ≡ within_open q h ns items
      by_order (inl high) =
          open_later q h ns items t (up_front items (BodyItem.Time t ∷ []) up) up high
          ∙ ap (λ l. within_open q h ns items ++ l) (none_due q h ns items (up_front items (BodyItem.Time t ∷ []) up) ends) ∙ append-nil (within_open q h ns items)
      by_order (inr low) = open_again q h ns items t (up_front items (BodyItem.Time t ∷ []) up) up low
  same_open items (BodyItem.Begin s) up ends = open_other q h ns items (BodyItem.Begin s) refl
  same_open items BodyItem.End up ends = open_other q h ns items BodyItem.End refl
  same_open items (BodyItem.Changes c) up ends = open_other q h ns items (BodyItem.Changes c) refl

  -- these items end the run too
  still_ends : (items : List BodyItem) (x : BodyItem) → within_open q h ns (items ++ x ∷ []) ≡ within_open q h ns items
      → ends_run q h ns items ≡ true → ends_run q h ns (items ++ x ∷ []) ≡ true
  unfolding within_open
  still_ends items x same ends =
      let lines : lines_where q h ns (items ++ x ∷ []) (is_settled (items ++ x ∷ [])) ≡ lines_where q h ns items (is_settled items) = append_cancel_left (within_head q h ns) _ _ same in
      rw (list_any-append (is_mark_above q.to) items (x ∷ []), lines)
      (or_more (list_any (is_mark_above q.to) items) (list_any (is_mark_above q.to) (x ∷ [])) (ends_with q.extent (lines_where q h ns items (is_settled items))) ends)

  -- ---- any items more

  pub ended : (items more : List BodyItem) → DoNotFall 0 (marks (items ++ more)) → ends_run q h ns items ≡ true
      → (ends_run q h ns (items ++ more) ≡ true) × (within_open q h ns (items ++ more) ≡ within_open q h ns items)
  ended items [] up ends = rw (append-nil items) (ends, refl)
  ended items (x ∷ more) up ends =
      let next : items ++ x ∷ more ≡ (items ++ x ∷ []) ++ more = sym (append_assoc items (x ∷ []) more) in
      let up' = subst (λ l. DoNotFall 0 (marks l)) next up in
      let one = same_open items x (up_front (items ++ x ∷ []) more up') ends in
      let rest = ended (items ++ x ∷ []) more up' (still_ends items x one ends) in
      rw next (rest.0, rest.1 ∙ one)
