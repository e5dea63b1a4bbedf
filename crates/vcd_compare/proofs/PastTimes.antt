-- The times of a comparison, in order: those that are settled, and then the one that is compared next.
use Rattle.vcd_compare.proofs.Cited.{◌≡◌, ℕ, ◌<◌, ◌≤◌, ◌==◌, max, Bool, true, false, not, cond, ◌&&◌, nat_lt, nat_le, List, [], ◌∷◌, ◌++◌, fold, filter, refl, sym, ap, subst, ◌∙◌, append-nil, arith, AllByRecursion, list_any, eqb-true, eqb-false, ltb-true, ltb-false, le-ltb, lt-leb, le-leb, or_left, or_right, filter-append, BodyItem, marks, is_settled, Asked, in_order, with_time, times_in, greatest_from, DoNotFall, time_compared}

-- the numbers above all before them and above a bound
abbrev rises : ℕ → List ℕ → List ℕ
rises low [] = []
rises low (m ∷ ms) = cond (nat_lt low m) (m ∷ rises m ms) (rises low ms)

-- the bound and these, without the greatest
abbrev pub past : ℕ → List ℕ → List ℕ
past low [] = []
past low (m ∷ ms) = cond (nat_lt low m) (low ∷ past m ms) (past low ms)

-- ---- in order

same_times : (m n : ℕ) → m ≡ n → (m == n) ≡ true
same_times m n e = grind (arith, e)

-- times that do not fall are in order once each is taken only once
ordered : (m : ℕ) (ms : List ℕ) → DoNotFall m ms → in_order (m ∷ ms) ≡ m ∷ rises m ms
ordered m [] up = refl
ordered m (n ∷ ns) up = ap (with_time m) (ordered n ns up.1) ∙ by_tests (m == n) (nat_lt m n) refl refl
  where
    by_tests : (same less : Bool) → (m == n) ≡ same → nat_lt m n ≡ less
        → cond same (n ∷ rises n ns) (cond less (m ∷ n ∷ rises n ns) (n ∷ with_time m (rises n ns))) ≡ m ∷ cond less (n ∷ rises n ns) (rises m ns)
    by_tests true true e f = let is = eqb-true m n e in let low = ltb-true m n f in absurd (omega arith)
    by_tests true false e f = rw (eqb-true m n e) refl
    by_tests false true e f = refl
    by_tests false false e f = let other = ltb-false m n f in let first = up.0 in let ne = eqb-false m n e in absurd (ne (omega arith))

-- all of them from a bound on are above what they begin with
kept_from : (from low : ℕ) (ms : List ℕ) → from ≤ low → filter (nat_le from) (rises low ms) ≡ rises low ms
kept_from from low [] le = refl
kept_from from low (m ∷ ms) le = by_test (nat_lt low m) refl (λ more. kept_from from m ms more) (kept_from from low ms le)
  where
    by_test : (b : Bool) → nat_lt low m ≡ b → (from ≤ m → filter (nat_le from) (rises m ms) ≡ rises m ms)
        → filter (nat_le from) (rises low ms) ≡ rises low ms → filter (nat_le from) (cond b (m ∷ rises m ms) (rises low ms)) ≡ cond b
        (m ∷ rises m ms) (rises low ms)
    by_test true e above same = let up = ltb-true low m e in rw (le-leb from m (omega arith), above (omega arith)) refl
    by_test false e above same = same

-- a bound in its place among them: those below it are left out
module _ (from : ℕ) where
  bound : (m : ℕ) (ms : List ℕ) → (m < from → filter (nat_le from) (with_time from (rises m ms)) ≡ from ∷ rises from ms)
      → filter (nat_le from) (with_time from (m ∷ rises m ms)) ≡ from ∷ cond (nat_lt from m) (m ∷ rises m ms) (rises from ms)
  bound m ms low = by_tests (from == m) (nat_lt from m) refl refl
    where
      by_tests : (same less : Bool) → (from == m) ≡ same → nat_lt from m ≡ less
          → filter (nat_le from) (cond same (m ∷ rises m ms) (cond less (from ∷ m ∷ rises m ms) (m ∷ with_time from (rises m ms)))) ≡ from ∷ cond less (m ∷ rises m ms) (rises from ms)
      by_tests true true e f = let is = eqb-true from m e in let above = ltb-true from m f in absurd (omega arith)
      by_tests true false e f = rw (← (eqb-true from m e)) (rw (le-leb from from (omega arith)) (ap (λ l. from ∷ l) (kept_from from from ms (omega arith))))
      by_tests false true e f = let above = ltb-true from m f in rw (le-leb from from (omega arith), le-leb from m (omega arith)) (ap (λ l. from ∷ m ∷ l) (kept_from from m ms (omega arith)))
      by_tests false false e f = let le = ltb-false from m f in let ne = eqb-false from m e in let below : m < from = omega (arith, ne) in rw (lt-leb from m below) (low below)

  below : (low : ℕ) (ms : List ℕ) → low < from → filter (nat_le from) (with_time from (rises low ms)) ≡ from ∷ rises from ms
  below low [] l = rw (le-leb from from (omega arith)) refl
  below low (m ∷ ms) l = by_test (nat_lt low m) refl (bound m ms (below m ms)) (below low ms l)
    where
      by_test : (b : Bool) → nat_lt low m ≡ b → filter (nat_le from) (with_time from (m ∷ rises m ms)) ≡ from ∷ cond (nat_lt from m) (m ∷ rises m ms) (rises from ms)
          → filter (nat_le from) (with_time from (rises low ms)) ≡ from ∷ rises from ms
          → filter (nat_le from) (with_time from (cond b (m ∷ rises m ms) (rises low ms))) ≡ from ∷ cond (nat_lt from m) (m ∷ rises m ms) (rises from ms)
      by_test true e above same = above
      by_test false e above same = let le = ltb-false low m e in rw (le-ltb from m (omega arith)) same

  from_on : (ms : List ℕ) → DoNotFall 0 ms → filter (nat_le from) (in_order (from ∷ ms)) ≡ from ∷ rises from ms
  from_on [] up = rw (le-leb from from (omega arith)) refl
  from_on (m ∷ ms) up = rw (ordered m ms up.1) (bound m ms (below m ms))

-- ---- the last of them

-- without the greatest, and then the greatest
past_and_last : (low : ℕ) (ms : List ℕ) → low ∷ rises low ms ≡ past low ms ++ fold max low ms ∷ []
past_and_last low [] = refl
past_and_last low (m ∷ ms) = by_test (nat_lt low m) refl (past_and_last m ms) (past_and_last low ms)
  where
    by_test : (b : Bool) → nat_lt low m ≡ b → m ∷ rises m ms ≡ past m ms ++ fold max m ms ∷ [] → low ∷ rises low ms ≡ past low ms ++ fold max low ms ∷ []
        → low ∷ cond b (m ∷ rises m ms) (rises low ms) ≡ cond b (low ∷ past m ms) (past low ms) ++ fold max (max low m) ms ∷ []
    by_test true e above same = let up = ltb-true low m e in let is : max low m ≡ m = omega arith in rw is (ap (λ l. low ∷ l) above)
    by_test false e above same = let le = ltb-false low m e in let is : max low m ≡ low = omega arith in rw is same

-- with one number more
pub past_more : (low : ℕ) (ms : List ℕ) (m : ℕ) → past low (ms ++ m ∷ []) ≡ past low ms ++ cond (nat_lt (fold max low ms) m) (fold max low ms ∷ []) []
past_more low [] m = refl
past_more low (n ∷ ns) m = by_test (nat_lt low n) refl (past_more n ns m) (past_more low ns m)
  where
    by_test : (b : Bool) → nat_lt low n ≡ b → past n (ns ++ m ∷ []) ≡ past n ns ++ cond (nat_lt (fold max n ns) m) (fold max n ns ∷ []) []
        → past low (ns ++ m ∷ []) ≡ past low ns ++ cond (nat_lt (fold max low ns) m) (fold max low ns ∷ []) []
        → cond b (low ∷ past n (ns ++ m ∷ [])) (past low (ns ++ m ∷ [])) ≡ cond b (low ∷ past n ns) (past low ns) ++ cond
        (nat_lt (fold max (max low n) ns) m) (fold max (max low n) ns ∷ []) []
    by_test true e above same = let up = ltb-true low n e in let is : max low n ≡ n = omega arith in rw is (ap (λ l. low ∷ l) above)
    by_test false e above same = let le = ltb-false low n e in let is : max low n ≡ low = omega arith in rw is same

both_tests : (f g : ℕ → Bool) (ts : List ℕ) → filter (λ t. f t && g t) ts ≡ filter g (filter f ts)
both_tests f g [] = refl
both_tests f g (t ∷ ts) = by_test (f t) (both_tests f g ts)
  where
    by_test : (b : Bool) → filter (λ t. f t && g t) ts ≡ filter g (filter f ts)
        → cond (b && g t) (t ∷ filter (λ t. f t && g t) ts) (filter (λ t. f t && g t) ts) ≡ filter g (cond b (t ∷ filter f ts) (filter f ts))
    by_test true e = ap (λ l. cond (g t) (t ∷ l) l) e
    by_test false e = e

-- all times of the window: those before the last one, and that
pub times_are : (q : Asked) (items : List BodyItem) → DoNotFall 0 (marks items)
    → times_in q items ≡ filter (λ t. nat_le t q.to) (past q.from (marks items)) ++ filter (λ t. nat_le t q.to) (time_compared q items ∷ [])
times_are q items up =
    both_tests (nat_le q.from) (λ t. nat_le t q.to) (in_order (q.from ∷ marks items))
    ∙ ap (filter (λ t. nat_le t q.to)) (from_on q.from (marks items) up ∙ past_and_last q.from (marks items))
    ∙ filter-append (λ t. nat_le t q.to) (past q.from (marks items)) (time_compared q items ∷ [])

-- ---- which are settled

-- those before the last one are below it
pub past_below : (low : ℕ) (ms : List ℕ) → AllByRecursion (λ t. t < fold max low ms) (past low ms)
past_below low [] = tt
past_below low (m ∷ ms) = by_test (nat_lt low m) refl (past_below m ms) (past_below low ms)
  where
    by_test : (b : Bool) → nat_lt low m ≡ b → AllByRecursion (λ t. t < fold max m ms) (past m ms) → AllByRecursion (λ t. t < fold max low ms) (past low ms)
        → AllByRecursion (λ t. t < fold max (max low m) ms) (cond b (low ∷ past m ms) (past low ms))
    by_test true e above same = let up = ltb-true low m e in let is : max low m ≡ m = omega arith in let g = greatest_from m ms in
        subst (λ (k : ℕ). AllByRecursion (λ t. t < fold max k ms) (low ∷ past m ms)) (sym is) (omega arith, above)
    by_test false e above same = let le = ltb-false low m e in let is : max low m ≡ low = omega arith in subst (λ (k : ℕ). AllByRecursion (λ t. t < fold max k ms) (past low ms)) (sym is) same

weaker : (m : ℕ) (ms ts : List ℕ) → AllByRecursion (λ t. list_any (nat_lt t) ms ≡ true) ts → AllByRecursion (λ t. list_any (nat_lt t) (m ∷ ms) ≡ true) ts
weaker m ms [] all = tt
weaker m ms (t ∷ ts) all = (or_right (nat_lt t m) (list_any (nat_lt t) ms) all.0, weaker m ms ts all.1)

past_settled : (low : ℕ) (ms : List ℕ) → AllByRecursion (λ t. list_any (nat_lt t) ms ≡ true) (past low ms)
past_settled low [] = tt
past_settled low (m ∷ ms) = by_test (nat_lt low m) refl (weaker m ms (past m ms) (past_settled m ms)) (weaker m ms (past low ms) (past_settled low ms))
  where
    by_test : (b : Bool) → nat_lt low m ≡ b → AllByRecursion (λ t. list_any (nat_lt t) (m ∷ ms) ≡ true) (past m ms)
        → AllByRecursion (λ t. list_any (nat_lt t) (m ∷ ms) ≡ true) (past low ms)
        → AllByRecursion (λ t. list_any (nat_lt t) (m ∷ ms) ≡ true) (cond b (low ∷ past m ms) (past low ms))
    by_test true e above same = (or_left (nat_lt low m) (list_any (nat_lt low) ms) e, above)
    by_test false e above same = same

-- no timestamp is above the last one
none_above : (t low : ℕ) (ms : List ℕ) → fold max low ms ≤ t → list_any (nat_lt t) ms ≡ false
none_above t low [] le = refl
none_above t low (m ∷ ms) le = let g = greatest_from (max low m) ms in rw (le-ltb t m (omega arith), none_above t (max low m) ms le) refl

pub last_open : (q : Asked) (items : List BodyItem) → is_settled items (time_compared q items) ≡ false
last_open q items = none_above (time_compared q items) q.from (marks items) (omega arith)

-- a test that all pass, or none, in a part of them
all_kept : (f g : ℕ → Bool) (ts : List ℕ) → AllByRecursion (λ t. f t ≡ true) ts → filter f (filter g ts) ≡ filter g ts
all_kept f g [] all = refl
all_kept f g (t ∷ ts) all = by_test (g t) (all_kept f g ts all.1)
  where
    by_test : (b : Bool) → filter f (filter g ts) ≡ filter g ts → filter f (cond b (t ∷ filter g ts) (filter g ts)) ≡ cond b (t ∷ filter g ts) (filter g ts)
    by_test true e = rw (all.0) (ap (λ l. t ∷ l) e)
    by_test false e = e

none_kept : (f g : ℕ → Bool) (ts : List ℕ) → AllByRecursion (λ t. f t ≡ false) ts → filter f (filter g ts) ≡ []
none_kept f g [] all = refl
none_kept f g (t ∷ ts) all = by_test (g t) (none_kept f g ts all.1)
  where
    by_test : (b : Bool) → filter f (filter g ts) ≡ [] → filter f (cond b (t ∷ filter g ts) (filter g ts)) ≡ []
    by_test true e = rw (all.0) e
    by_test false e = e

all_not : (f : ℕ → Bool) (ts : List ℕ) → AllByRecursion (λ t. f t ≡ true) ts → AllByRecursion (λ t. not (f t) ≡ false) ts
all_not f [] all = tt
all_not f (t ∷ ts) all = (ap not all.0, all_not f ts all.1)

module _ (q : Asked) (items : List BodyItem) (up : DoNotFall 0 (marks items)) where
  abbrev last : List ℕ
  last = time_compared q items ∷ []

  pub settled_times : filter (is_settled items) (times_in q items) ≡ filter (λ t. nat_le t q.to) (past q.from (marks items))
  settled_times =
      ap (filter (is_settled items)) (times_are q items up)
      ∙ filter-append (is_settled items) (filter (λ t. nat_le t q.to) (past q.from (marks items))) (filter (λ t. nat_le t q.to) last)
      ∙ rw (
        all_kept (is_settled items) (λ t. nat_le t q.to) (past q.from (marks items)) (past_settled q.from (marks items)),
        none_kept (is_settled items) (λ t. nat_le t q.to) last (last_open q items, tt),
      )
      (append-nil (filter (λ t. nat_le t q.to) (past q.from (marks items))))

  pub other_times : filter (λ t. not (is_settled items t)) (times_in q items) ≡ filter (λ t. nat_le t q.to) last
  other_times =
      ap (filter (λ t. not (is_settled items t))) (times_are q items up)
      ∙ filter-append (λ t. not (is_settled items t)) (filter (λ t. nat_le t q.to) (past q.from (marks items))) (filter (λ t. nat_le t q.to) last)
      ∙ rw (
        none_kept (λ t. not (is_settled items t)) (λ t. nat_le t q.to) (past q.from (marks items))
            (all_not (is_settled items) (past q.from (marks items)) (past_settled q.from (marks items))),
        all_kept (λ t. not (is_settled items t)) (λ t. nat_le t q.to) last (ap not (last_open q items), tt),
      ) refl
