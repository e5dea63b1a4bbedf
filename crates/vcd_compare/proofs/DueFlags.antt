-- The lines at the time that is compared, by the flags.
use Rattle.vcd_compare.proofs.Cited.{◌≡◌, ℕ, ◌<◌, ◌*◌, ◌==◌, Bool, true, false, not, cond, ◌&&◌, ◌||◌, nat_lt, nat_le, List, [], ◌∷◌, filter, flat_map, refl, sym, ap, ◌∙◌, arith, AllByRecursion, list_any, lt-ltb, le-ltb, or_parts, or_from, list_any-append, or-false, code_of, Header, BodyItem, marks, is_settled, Asked, Extent, Pair, changes_at, differs, is_due, value_line, First, EachPair, Always, Names, compared_in, side, times_in, DoNotFall, IsQuiet, changed_at, codes_differ, had_line, is_always, time_compared}
use Rattle.vcd_compare.specs.Lines.{flag_of, lines_due}
use Rattle.vcd_compare.proofs.PastTimes.{past, past_below, settled_times, times_are}

abbrev pub flag_for : Asked → List BodyItem → Pair → ℕ
flag_for q items p = flag_of q items (code_of p.one) (code_of p.other)

regroup : (x a b : Bool) → (x || a || b) ≡ (x || (a || b))
regroup true a b = refl
regroup false true b = refl
regroup false false b = refl

by_flag : (e : Extent) (now was any changes : Bool) → (e ≡ First → (was ≡ false) × (any ≡ false))
    → ◌≡◌ {A = Bool} (now && elim e [ First ↦ not any | EachPair ↦ not was | Always ↦ changes ]) (cond (is_always e) (cond (now && changes) 1 0) (cond was 2 (cond now 1 0)) == 1)
by_flag First now was any changes none = let h = none refl in rw (h.0, h.1) (by_now now)
  where
    by_now : (b : Bool) → (b && true) ≡ (cond {A = ℕ} b 1 0 == 1)
    by_now true = refl
    by_now false = refl
by_flag EachPair true true any changes none = refl
by_flag EachPair true false any changes none = refl
by_flag EachPair false true any changes none = refl
by_flag EachPair false false any changes none = refl
by_flag Always now was any changes none = by_now (now && changes)
  where
    by_now : (b : Bool) → b ≡ (cond {A = ℕ} b 1 0 == 1)
    by_now true = refl
    by_now false = refl

-- ---- what comes before the time that is compared

below_all : (last : ℕ) (f test : ℕ → Bool) (ts : List ℕ) → AllByRecursion (λ t. t < last) ts → list_any (λ u. nat_lt u last && f u) (filter test ts) ≡ list_any f (filter test ts)
below_all last f test [] low = refl
below_all last f test (t ∷ ts) low = by_test (test t) (below_all last f test ts low.1)
  where
    by_test : (b : Bool) → list_any (λ u. nat_lt u last && f u) (filter test ts) ≡ list_any f (filter test ts)
        → list_any (λ u. nat_lt u last && f u) (cond b (t ∷ filter test ts) (filter test ts)) ≡ list_any f
        (cond b (t ∷ filter test ts) (filter test ts))
    by_test true e = rw (lt-ltb t last low.0, e) refl
    by_test false e = e

module _ (q : Asked) (items : List BodyItem) (up : DoNotFall 0 (marks items)) where
  abbrev last : ℕ
  last = time_compared q items

  abbrev done : List ℕ
  done = filter (is_settled items) (times_in q items)

  pub before_last : (f : ℕ → Bool) → list_any (λ u. nat_lt u last && f u) (times_in q items) ≡ list_any f done
  before_last f =
      ap (list_any (λ u. nat_lt u last && f u)) (times_are q items up)
      ∙ list_any-append (λ u. nat_lt u last && f u) (filter (λ t. nat_le t q.to) (past q.from (marks items))) (filter (λ t. nat_le t q.to) (last ∷ []))
      ∙ rw (by_test (nat_le last q.to)) (or-false (list_any (λ u. nat_lt u last && f u) (filter (λ t. nat_le t q.to) (past q.from (marks items)))))
      ∙ below_all last f (λ t. nat_le t q.to) (past q.from (marks items)) (past_below q.from (marks items))
      ∙ ap (list_any f) (sym (settled_times q items up))
    where
      by_test : (b : Bool) → list_any (λ u. nat_lt u last && f u) (cond b (last ∷ []) []) ≡ false
      by_test true = rw (le-ltb last last (omega arith)) refl
      by_test false = refl

  -- ---- a pair

  module _ (p : Pair) where
    abbrev now : Bool
    now = differs q.rule (side items) (side items) p last

    abbrev had : Bool
    had = had_line q items (code_of p.one) (code_of p.other)

    abbrev any : List Pair → Bool
    any ps = list_any (λ u. list_any (λ o. differs q.rule (side items) (side items) o u) ps) done

    abbrev changes : Bool
    changes = last == q.from || changed_at items (code_of p.one) (code_of p.other) last

    same_tests : (ps : List Pair) (e : Extent) → ◌≡◌ {A = Bool} (elim e [
      | First ↦ not (list_any (λ u. nat_lt u last && list_any (λ o. differs q.rule (side items) (side items) o u) ps) (times_in q items))
      | EachPair ↦ not (list_any (λ u. nat_lt u last && differs q.rule (side items) (side items) p u) (times_in q items))
      | Always ↦ last == 1 * q.from || changes_at (side items) (code_of p.one) last || changes_at (side items) (code_of p.other) last
    ]) (elim e [ First ↦ not (any ps) | EachPair ↦ not had | Always ↦ changes ])
    same_tests ps First = ap not (before_last (λ u. list_any (λ o. differs q.rule (side items) (side items) o u) ps))
    same_tests ps EachPair = ap not (before_last (λ u. differs q.rule (side items) (side items) p u))
    same_tests ps Always =
        let one : 1 * q.from ≡ q.from = omega arith in
        ap (λ k. last == k || changes_at (side items) (code_of p.one) last || changes_at (side items) (code_of p.other) last) one
        ∙ regroup (last == q.from) (changes_at (side items) (code_of p.one) last) (changes_at (side items) (code_of p.other) last)

    pub due_by_flag : (ps : List Pair) → (q.extent ≡ First → (had ≡ false) × (any ps ≡ false))
        → is_due q (side items) (side items) ps (times_in q items) last p ≡ (flag_for q items p == 1)
    unfolding flag_of
    due_by_flag ps quiet = ap (λ b. now && b) (same_tests ps q.extent) ∙ by_flag q.extent now had (any ps) changes quiet

-- ---- all pairs

-- if no pair differed before, none of them had a line
pub none_had : (q : Asked) (items : List BodyItem) (ps : List Pair) (ts : List ℕ) → list_any (λ u. list_any (λ o. differs q.rule (side items) (side items) o u) ps) ts ≡ false
    → AllByRecursion (λ p. list_any (codes_differ q.rule items (code_of p.one) (code_of p.other)) ts ≡ false) ps
none_had q items [] ts e = tt
none_had q items (p ∷ ps) ts e = (first ts e, none_had q items ps ts (others ts e))
  where
    first : (ts : List ℕ) → list_any (λ u. list_any (λ o. differs q.rule (side items) (side items) o u) (p ∷ ps)) ts ≡ false
        → list_any (codes_differ q.rule items (code_of p.one) (code_of p.other)) ts ≡ false
    first [] e = refl
    first (t ∷ ts) e =
        let both = or_parts _ _ e in
        or_from _ _ (or_parts _ _ both.0).0 (first ts both.1)

    others : (ts : List ℕ) → list_any (λ u. list_any (λ o. differs q.rule (side items) (side items) o u) (p ∷ ps)) ts ≡ false
        → list_any (λ u. list_any (λ o. differs q.rule (side items) (side items) o u) ps) ts ≡ false
    others [] e = refl
    others (t ∷ ts) e =
        let both = or_parts _ _ e in
        or_from _ _ (or_parts _ _ both.0).1 (others ts both.1)

module _ (q : Asked) (h : Header) (ns : List Names) (items : List BodyItem) (up : DoNotFall 0 (marks items)) (quiet : q.extent ≡ First → IsQuiet q h ns items) where
  abbrev pub line_for : Pair → List ℕ
  line_for p = cond (flag_for q items p == 1) (value_line (side items) (side items) p (time_compared q items)) []

  lines_by_flags : (ps : List Pair) → (q.extent ≡ First → AllByRecursion (λ p. had_line q items (code_of p.one) (code_of p.other) ≡ false) ps)
      → flat_map (λ p. cond (is_due q (side items) (side items) (compared_in q h ns) (times_in q items) (time_compared q items) p)
      (value_line (side items) (side items) p (time_compared q items)) []) ps ≡ flat_map line_for ps
  lines_by_flags [] none = refl
  lines_by_flags (p ∷ ps) none =
      rw (due_by_flag q items up p (compared_in q h ns) (λ e. ((none e).0, quiet e)), lines_by_flags ps (λ e. (none e).1)) refl

  -- the lines that are due are those of the flags
  pub due_by_flags : lines_due q h ns items ≡ cond (nat_le (time_compared q items) q.to) (flat_map line_for (compared_in q h ns)) []
  unfolding lines_due
  due_by_flags = rw (lines_by_flags (compared_in q h ns) (λ e. none_had q items (compared_in q h ns) (filter (is_settled items) (times_in q items)) (quiet e))) refl

  -- none is due if no flag is 1
  none_for : (ps : List Pair) → AllByRecursion (λ p. (flag_for q items p == 1) ≡ false) ps → flat_map line_for ps ≡ []
  none_for [] none = refl
  none_for (p ∷ ps) none = rw (none.0, none_for ps none.1) refl

  pub none_due : AllByRecursion (λ p. (flag_for q items p == 1) ≡ false) (compared_in q h ns) → lines_due q h ns items ≡ []
  none_due none = due_by_flags ∙ rw (none_for (compared_in q h ns) none) (both (nat_le (time_compared q items) q.to))
    where
      both : (b : Bool) → ◌≡◌ {A = List ℕ} (cond b [] []) []
      both true = refl
      both false = refl
