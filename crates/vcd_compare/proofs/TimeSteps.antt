-- What is written at a timestamp and at the end of the body, and how a run stands after it.
use Rattle.vcd_compare.proofs.Cited.{◌≡◌, ◌⊎◌, inl, inr, ℕ, ◌<◌, ◌≤◌, ◌==◌, Bool, true, false, not, cond, ◌&&◌, nat_le, nat_lt, List, [], ◌∷◌, ◌++◌, length, flat_map, get_or, refl, sym, ap, subst, ◌∙◌, append-nil, arith, and_cases, le-leb, le-ltb, leb-true, lt-ltb, ltb-false, is_empty, Header, BodyItem, time_after, Extent, value_line, Names, compared_in, ends_run, side, within_close, within_open, IsViewOf, HeadView, model_asked, Compares, HasFlags, differs_at, flag_by, some_differ, settled_as, ArePairLines, time_compared, RunStands, TellsEnd, flag_after, is_due_now, settled_by, Comparison, Watched, Run}
use Rattle.vcd_model.specs.Compare.{Asked as ModelAsked}
use Rattle.vcd_compare.specs.Lines.{lines_due}
use Rattle.vcd_compare.specs.declared.asked.Asked.{Asked}
use Rattle.vcd_compare.proofs.CompareSteps.{compares_again, compares_later, flag_is, flags_are, none_for_all, open_stays, some_there, time_later}
use Rattle.vcd_compare.proofs.DueFlags.{due_by_flags, flag_for, none_due}
use Rattle.vcd_compare.proofs.DueSome.{due_some, more_lines, with_flags}
use Rattle.vcd_compare.proofs.FlagLemmas.{compared_is}
use Rattle.vcd_compare.proofs.OpenGrows.{close_is}
use Rattle.vcd_compare.proofs.RunEnds.{first_ends, not_ended, open_settled, open_some, past_ends}
use Rattle.vcd_compare.specs.Comparing.{differs_now}

both_true : (a b : Bool) → (a && b) ≡ true → (a ≡ true) × (b ≡ true)
both_true true b e = (refl, e)
both_true false b e = cc

-- ---- the lines at the time that is compared

module _ (h : Header) (exceptions : List (List ℕ)) (ns : List Names) (items : List BodyItem) (c : Comparison) (w : Watched) (stands : Compares h exceptions ns items c w) where
  abbrev q : ModelAsked
  q = model_asked c.current.asked exceptions

  pub not_before : time_after items ≤ w.at
  not_before = let at = stands.at in let is = compared_is q items in omega arith

  late : nat_le (time_compared q items) q.to ≡ false → lines_due q h ns items ≡ []
  unfolding lines_due
  late e = rw e refl

  -- if none is due there are none
  pub none_now : is_due_now w c ≡ false → lines_due q h ns items ≡ []
  none_now none = by_cases (and_cases _ _ none)
    where
      by_cases : (nat_le w.at c.current.asked.to ≡ false) ⊎ (some_differ c w.at ≡ false) → lines_due q h ns items ≡ []
      by_cases (inl e) = late (ap (λ (t : ℕ). nat_le t c.current.asked.to) (sym stands.at) ∙ e)
      by_cases (inr e) = none_due q h ns items stands.up stands.quiet (none_for_all h exceptions ns items c w stands e)

  module _ (due : is_due_now w c ≡ true) where
    asked_now : time_compared q items ≤ q.to
    asked_now = let le : w.at ≤ c.current.asked.to = leb-true w.at c.current.asked.to (both_true (nat_le w.at c.current.asked.to) (some_differ c w.at) due).0 in let at = stands.at in omega arith

    -- else they are those of the flags
    pub lines_now : flat_map (λ p. cond (flag_for q items p == 1) (value_line (side items) (side items) p w.at) []) (compared_in q h ns) ≡ lines_due q h ns items
    lines_now =
        ap (λ (t : ℕ). flat_map (λ p. cond (flag_for q items p == 1) (value_line (side items) (side items) p t) []) (compared_in q h ns)) stands.at
        ∙ sym (due_by_flags q h ns items stands.up stands.quiet ∙ rw (le-leb (time_compared q items) q.to asked_now) refl)

    -- and they are put by the flags
    pub puts_now : (v : HeadView) (takes : List ℕ → Type 0) (flags : List ℕ) → IsViewOf v h → HasFlags c w.at flags
        → ArePairLines v c.current flags w.at takes → takes (lines_due q h ns items)
    puts_now v takes flags views has lines =
        let ps = c.current.pairs.now in
        subst takes lines_now
        (lines h items (compared_in q h ns) (flag_for q items) views stands.current not_before
        (with_flags ps h q ns items stands.pairs flags (flags_are h exceptions ns items c w stands flags has) ps.rows.items (compared_in q h ns) stands.pairs.rows))

    -- and there are some
    pub some_now : is_empty (lines_due q h ns items) ≡ false
    some_now =
        let some = some_there (differs_at c w.at) (length c.touched.marks.now) (both_true (nat_le w.at c.current.asked.to) (some_differ c w.at) due).1 in
        let both = both_true (get_or c.touched.marks.now some.0 0 == 1) (differs_now c.current some.0 w.at) some.2 in
        let low = some.1 in
        let many = stands.flags.many in
        let below : some.0 < c.current.pairs.now.classes = omega (arith, low, many) in
        due_some c.current.pairs.now h q ns items stands.pairs some.0
        (λ p is. flag_is h exceptions ns items c w stands some.0 p below is ∙ rw (both.0, both.1) refl)
        below stands.up stands.quiet asked_now

-- ---- the end of the body

module _ (h : Header) (exceptions : List (List ℕ)) (ns : List Names) (items : List BodyItem) (run : Run)
    (stands : RunStands h exceptions ns items run) where
  abbrev its : ModelAsked
  its = model_asked run.comparison.current.asked exceptions

  abbrev both : List ℕ
  both = within_open its h ns items ++ within_close its h ns items

  pub left_due : within_close its h ns items ≡ lines_due its h ns items
  left_due = close_is its h ns items stands.compares.up

  pub none_left : is_due_now run.watched run.comparison ≡ false → within_close its h ns items ≡ []
  none_left none = left_due ∙ none_now h exceptions ns items run.comparison run.watched stands.compares none

  pub differs_none : is_due_now run.watched run.comparison ≡ false → run.differs ≡ not (is_empty both)
  differs_none none = stands.differs ∙ ap (λ l. not (is_empty l)) (sym (ap (λ l. within_open its h ns items ++ l) (none_left none) ∙ append-nil (within_open its h ns items)))

  pub differs_some : is_due_now run.watched run.comparison ≡ true → true ≡ not (is_empty both)
  differs_some due =
      sym (ap not (more_lines (within_open its h ns items) (within_close its h ns items) (ap is_empty left_due
      ∙ some_now h exceptions ns items run.comparison run.watched stands.compares due)))

-- ---- a timestamp

module _ (h : Header) (exceptions : List (List ℕ)) (ns : List Names) (items : List BodyItem) (t : ℕ) (run : Run)
    (stands : RunStands h exceptions ns items run) (forth : time_after items ≤ t) where
  abbrev request : ModelAsked
  request = model_asked run.comparison.current.asked exceptions

  abbrev after : List BodyItem
  after = items ++ BodyItem.Time t ∷ []

  abbrev open_after : List ℕ
  open_after = within_open request h ns after

  abbrev to : ℕ
  to = run.comparison.current.asked.to

  -- the run ends if and only if the timestamp is after the last time
  tells_past : (run' : Run) → run'.comparison.current.asked ≡ run.comparison.current.asked
      → (nat_lt to t ≡ false → Compares h exceptions ns after run'.comparison run'.watched) → run'.differs ≡ not (is_empty open_after)
      → TellsEnd request h exceptions ns after run' (nat_lt to t)
  tells_past run' same compares differs = by_test (nat_lt to t) refl
    where
      by_test : (b : Bool) → nat_lt to t ≡ b → TellsEnd request h exceptions ns after run' b
      by_test true past = record { ended = sym (past_ends request h ns items t past); stands = λ no. cc; differs = differs }
      by_test false on =
          let on_after = compares on in
          record {
            ended = sym (subst (λ (a : Asked). ends_run (model_asked a exceptions) h ns after ≡ false) same (not_ended h exceptions ns after run'.comparison run'.watched on_after));
            stands = λ no. record { compares = on_after; differs = differs ∙ ap (λ (a : Asked). not (is_empty (within_open (model_asked a exceptions) h ns after))) (sym same) };
            differs = differs;
          }

  -- one that is not above the time that is compared settles nothing
  module _ (low : t ≤ run.watched.at) where
    pub settles_none : settled_by request h ns items t ≡ []
    settles_none = let at = stands.compares.at in rw (le-ltb (time_compared request items) t (omega arith)) refl

    pub tells_again : TellsEnd request h exceptions ns after run (nat_lt to t)
    tells_again =
        tells_past run refl (λ on. compares_again h exceptions ns items t run.comparison run.watched stands.compares forth low on run.watched refl)
        (stands.differs ∙ ap (λ l. not (is_empty l)) (sym (open_stays h exceptions ns items t run.comparison run.watched stands.compares forth low)))

  -- one above it settles it
  module _ (high : run.watched.at < t) where
    above : time_compared request items < t
    above = let at = stands.compares.at in omega arith

    pub settles_due : settled_by request h ns items t ≡ lines_due request h ns items
    settles_due = rw (lt-ltb (time_compared request items) t above) refl

    -- no line is due
    module _ (none : is_due_now run.watched run.comparison ≡ false) where
      open_same : within_open request h ns items ≡ open_after
      open_same =
          sym (open_settled request h ns items t stands.compares.up forth
          ∙ ap (λ l. within_open request h ns items ++ l) (settles_due ∙ none_now h exceptions ns items run.comparison run.watched stands.compares none)
          ∙ append-nil (within_open request h ns items))

      none_here : nat_lt to t ≡ false → some_differ run.comparison run.watched.at ≡ false
      none_here on =
          let within = ltb-false to t on in
          ap (λ b. b && some_differ run.comparison run.watched.at) (sym (le-leb run.watched.at to (omega arith))) ∙ none

      pub tells_none : (run' : Run) → run'.comparison.current ≡ run.comparison.current → run'.comparison.skips.now ≡ run.comparison.skips.now → run'.watched.at ≡ t
          → length run'.comparison.touched.marks.now ≡ length run.comparison.touched.marks.now
          → ((k : ℕ) → get_or run'.comparison.touched.marks.now k 0 ≡ settled_as 0 (get_or run.comparison.touched.marks.now k 0))
          → run'.differs ≡ run.differs → TellsEnd request h exceptions ns after run' (nat_lt to t)
      tells_none run' same skips at many cleared differs =
          tells_past run' (ap (λ c. c.asked) same)
          (λ on. (time_later h exceptions ns items t run.comparison run.watched stands.compares forth on high (none_here on) run'.comparison run'.watched same skips at many cleared).0)
          (differs ∙ stands.differs ∙ ap (λ l. not (is_empty l)) open_same)

    -- some are
    module _ (due : is_due_now run.watched run.comparison ≡ true) where
      some : is_empty (lines_due request h ns items) ≡ false
      some = some_now h exceptions ns items run.comparison run.watched stands.compares due

      differs_after : true ≡ not (is_empty open_after)
      differs_after = sym (ap not (open_some request h ns items t stands.compares.up forth above some))

      pub tells_first : (run' : Run) → request.extent ≡ Extent.First → run'.differs ≡ true → TellsEnd request h exceptions ns after run' true
      tells_first run' first differs = record {
        ended = sym (first_ends request h ns items t stands.compares.up forth above some first);
        stands = λ no. cc;
        differs = differs ∙ differs_after;
      }

      pub tells_later : (run' : Run) (flags : List ℕ) → HasFlags run.comparison run.watched.at flags → run'.comparison.current ≡ run.comparison.current
          → run'.comparison.skips.now ≡ run.comparison.skips.now → run'.watched.at ≡ t
          → length run'.comparison.touched.marks.now ≡ length run.comparison.touched.marks.now
          → ((k : ℕ) → get_or run'.comparison.touched.marks.now k 0 ≡ settled_as (flag_after request.extent) (get_or flags k 0))
          → (request.extent ≡ Extent.First → ⊥) → run'.differs ≡ true → TellsEnd request h exceptions ns after run' (nat_lt to t)
      tells_later run' flags has same skips at many each others differs =
          let are = flags_are h exceptions ns items run.comparison run.watched stands.compares flags has in
          tells_past run' (ap (λ c. c.asked) same)
          (λ on. compares_later h exceptions ns items t run.comparison run.watched stands.compares forth high on run'.comparison run'.watched same skips at many
          (λ k two. each k ∙ ap (settled_as (flag_after request.extent)) (has.each k ∙ ap (λ m. flag_by m (differs_now run.comparison.current k run.watched.at)) two))
          (λ class p below is. each class ∙ ap (settled_as (flag_after request.extent)) (are.each class p below is)) (λ e. absurd (others e)))
          (differs ∙ differs_after)
