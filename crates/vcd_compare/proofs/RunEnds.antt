-- Which items end a run, and what is written with a timestamp.
use Rattle.vcd_compare.proofs.Cited.{◌≡◌, ◌⊎◌, inl, inr, ℕ, ◌<◌, ◌≤◌, true, false, not, nat_lt, List, [], ◌∷◌, ◌++◌, filter, refl, sym, ap, ◌∙◌, append-nil, append_assoc, list_any, cases_lt, le-ltb, lt-ltb, or_from, or_left, or_right, append_cancel_left, list_any-append, is_empty, Header, BodyItem, marks, time_after, is_settled, Extent, ends_with, is_mark_above, Names, compared_in, ends_run, lines_where, times_in, within_head, model_asked, Compares, DoNotFall, lines_due, time_compared, settled_by, Comparison, Watched}
use Rattle.vcd_model.specs.Compare.{Asked as ModelAsked}
use Rattle.vcd_model.specs.Within.{within_open}
use Rattle.vcd_compare.proofs.DueSome.{more_lines, none_of_times}
use Rattle.vcd_compare.proofs.OpenGrows.{open_again, open_later}
use Rattle.vcd_compare.proofs.QuietLemmas.{no_fall-marks}

-- items after which the comparison goes on do not end it
pub not_ended : (h : Header) (exceptions : List (List ℕ)) (ns : List Names) (items : List BodyItem) (c : Comparison) (w : Watched)
    → Compares h exceptions ns items c w → ends_run (model_asked c.current.asked exceptions) h ns items ≡ false
not_ended h exceptions ns items c w stands = or_from _ _ stands.on (by_extent (model_asked c.current.asked exceptions).extent refl)
  where
    by_extent : (e : Extent) → (model_asked c.current.asked exceptions).extent ≡ e → ends_with e (lines_where (model_asked c.current.asked exceptions) h ns items (is_settled items)) ≡ false
    by_extent Extent.First is =
        let q = model_asked c.current.asked exceptions in
        ap (λ l. not (is_empty l)) (none_of_times q items (compared_in q h ns) (times_in q items) (filter (is_settled items) (times_in q items)) (stands.quiet is))
    by_extent Extent.EachPair is = refl
    by_extent Extent.Always is = refl

module _ (q : ModelAsked) (h : Header) (ns : List Names) (items : List BodyItem) (t : ℕ) where
  abbrev after : List BodyItem
  after = items ++ BodyItem.Time t ∷ []

  -- a timestamp after the last time ends the run
  pub past_ends : nat_lt q.to t ≡ true → ends_run q h ns after ≡ true
  past_ends past =
      or_left _ _ (list_any-append (is_mark_above q.to) items (BodyItem.Time t ∷ []) ∙ or_right (list_any (is_mark_above q.to) items) _ (or_left _ _ past))

  module _ (up : DoNotFall 0 (marks items)) (forth : time_after items ≤ t) where
    up_after : DoNotFall 0 (marks after)
    up_after = no_fall-marks items t up forth

    -- with a timestamp the lines that it settles come
    pub open_settled : within_open q h ns after ≡ within_open q h ns items ++ settled_by q h ns items t
    open_settled = by_order (cases_lt (time_compared q items) t)
      where
        by_order : (time_compared q items < t) ⊎ (t ≤ time_compared q items) → within_open q h ns after ≡ within_open q h ns items ++ settled_by q h ns items t
        by_order (inl high) = rw (lt-ltb (time_compared q items) t high) (open_later q h ns items t up up_after high)
        by_order (inr low) = rw (le-ltb (time_compared q items) t low) (open_again q h ns items t up up_after low ∙ sym (append-nil (within_open q h ns items)))

    module _ (high : time_compared q items < t) (some : is_empty (lines_due q h ns items) ≡ false) where
      -- lines are due, so some were written
      pub open_some : is_empty (within_open q h ns after) ≡ false
      open_some = ap is_empty (open_later q h ns items t up up_after high) ∙ more_lines (within_open q h ns items) (lines_due q h ns items) some

      values_later : lines_where q h ns after (is_settled after) ≡ lines_where q h ns items (is_settled items) ++ lines_due q h ns items
      unfolding within_open
      values_later =
          let all : within_open q h ns after ≡ within_open q h ns items ++ lines_due q h ns items = open_later q h ns items t up up_after high in
          append_cancel_left (within_head q h ns) _ _ (all ∙ append_assoc (within_head q h ns) (lines_where q h ns items (is_settled items)) (lines_due q h ns items))

      -- and if only the first ones are asked for, the run ends
      pub first_ends : q.extent ≡ Extent.First → ends_run q h ns after ≡ true
      first_ends first =
          or_right (list_any (is_mark_above q.to) after) _
          (ap (λ e. ends_with e (lines_where q h ns after (is_settled after))) first
          ∙ (ap not (ap is_empty values_later ∙ more_lines (lines_where q h ns items (is_settled items)) (lines_due q h ns items) some)))
