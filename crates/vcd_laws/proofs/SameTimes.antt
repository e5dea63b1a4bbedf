-- Times in order: two lists of the same times are the same.
use Rattle.vcd_laws.proofs.Cited.{◌≡◌, ℕ, ◌<◌, ◌≤◌, ◌==◌, max, min, Bool, true, false, cond, ◌&&◌, nat_lt, nat_le, List, [], ◌∷◌, filter, fold, ◌⊎◌, inl, inr, ⊤, refl, sym, ap, ◌∙◌, subst, arith, AllByRecursion, eq-eqb, eqb-true, ltb-true, ltb-false, le-leb, lt-leb, cases_lt, greatest_from, filter_words}
use Rattle.vcd_model.specs.Compare.{in_order, with_time}
use Rattle.vcd_laws.proofs.WrittenCodes.{In, from_filter, to_filter}

-- ---- elements

pub at_in : {X : Type 0} (P : X → Type 0) (xs : List X) (x : X) → AllByRecursion P xs → In x xs → P x
at_in P [] x all i = absurd i
at_in P (y ∷ ys) x all (inl e) = subst P (sym e) all.0
at_in P (y ∷ ys) x all (inr i) = at_in P ys x all.1 i

pub equal_apart : (m n : ℕ) → (m == n) ≡ false → m ≡ n → ⊥
equal_apart m n e same = let f = eq-eqb m n same in cc

-- ---- lists that rise

abbrev pub Rises : List ℕ → Type 0
Rises [] = ⊤
Rises (x ∷ xs) = AllByRecursion (λ y. x < y) xs × Rises xs

above_all : (x y : ℕ) (ys : List ℕ) → x < y → AllByRecursion (λ z. y < z) ys → AllByRecursion (λ z. x < z) ys
above_all x y [] l all = tt
above_all x y (z ∷ ys) l all = (let a = all.0 in omega arith, above_all x y ys l all.1)

not_in : (x : ℕ) (ys : List ℕ) → AllByRecursion (λ y. x < y) ys → In x ys → ⊥
not_in x ys all i = let l = at_in (λ y. x < y) ys x all i in omega arith

pub rising_filter : (test : ℕ → Bool) (xs : List ℕ) → Rises xs → Rises (filter test xs)
rising_filter test [] up = tt
rising_filter test (x ∷ xs) up = by_test (test x) (filter_words (λ y. x < y) test xs up.0) (rising_filter test xs up.1)
  where
    by_test : (b : Bool) → AllByRecursion (λ y. x < y) (filter test xs) → Rises (filter test xs)
        → Rises (cond b (x ∷ filter test xs) (filter test xs))
    by_test true above more = (above, more)
    by_test false above more = more

-- lists that rise and have the same elements
abbrev AreIn : List ℕ → List ℕ → Type 0
AreIn xs ys = (t : ℕ) → In t xs → In t ys

rest_in : (x : ℕ) (xs ys : List ℕ) → AllByRecursion (λ y. x < y) xs → AreIn (x ∷ xs) (x ∷ ys) → AreIn xs ys
rest_in x xs ys above all t i = by_place (all t (inr i))
  where
    by_place : (t ≡ x) ⊎ In t ys → In t ys
    by_place (inl e) = absurd (not_in x xs above (subst (λ n. In n xs) e i))
    by_place (inr j) = j

first_least : (x y : ℕ) (xs ys : List ℕ) → AllByRecursion (λ z. y < z) ys → AreIn (x ∷ xs) (y ∷ ys) → y ≤ x
first_least x y xs ys above all = by_place (all x (inl refl))
  where
    by_place : (x ≡ y) ⊎ In x ys → y ≤ x
    by_place (inl e) = omega arith
    by_place (inr j) = let l = at_in (λ z. y < z) ys x above j in omega arith

pub same_rising : (xs ys : List ℕ) → Rises xs → Rises ys → AreIn xs ys → AreIn ys xs → xs ≡ ys
same_rising [] [] up up' all back = refl
same_rising [] (y ∷ ys) up up' all back = absurd (back y (inl refl))
same_rising (x ∷ xs) [] up up' all back = absurd (all x (inl refl))
same_rising (x ∷ xs) (y ∷ ys) up up' all back =
    let low = first_least x y xs ys up'.0 all in
    let high = first_least y x ys xs up.0 back in
    let same : x ≡ y = omega arith in
    let all' : AreIn (y ∷ xs) (y ∷ ys) = subst (λ n. AreIn (n ∷ xs) (y ∷ ys)) same all in
    let back' : AreIn (y ∷ ys) (y ∷ xs) = subst (λ n. AreIn (y ∷ ys) (n ∷ xs)) same back in
    ap (λ n. n ∷ xs) same ∙ ap (λ l. y ∷ l)
    (same_rising xs ys up.1 up'.1 (rest_in y xs ys (subst (λ n. AllByRecursion (λ z. n < z) xs) same up.0) all')
    (rest_in y ys xs up'.0 back'))

-- ---- times in order

above_with : (x t : ℕ) (us : List ℕ) → x < t → AllByRecursion (λ u. x < u) us → AllByRecursion (λ u. x < u) (with_time t us)
above_with x t [] l all = (l, tt)
above_with x t (u ∷ us) l all = by_tests (t == u) (nat_lt t u) (above_with x t us l all.1)
  where
    by_tests : (same less : Bool) → AllByRecursion (λ u. x < u) (with_time t us)
        → AllByRecursion (λ u. x < u) (cond same (u ∷ us) (cond less (t ∷ u ∷ us) (u ∷ with_time t us)))
    by_tests true less more = all
    by_tests false true more = (l, all)
    by_tests false false more = (all.0, more)

rises_with : (t : ℕ) (us : List ℕ) → Rises us → Rises (with_time t us)
rises_with t [] up = (tt, tt)
rises_with t (u ∷ us) up = by_tests (t == u) (nat_lt t u) refl refl (rises_with t us up.1)
  where
    by_tests : (same less : Bool) → (t == u) ≡ same → nat_lt t u ≡ less → Rises (with_time t us)
        → Rises (cond same (u ∷ us) (cond less (t ∷ u ∷ us) (u ∷ with_time t us)))
    by_tests true less e f more = up
    by_tests false true e f more = let l = ltb-true t u f in ((l, above_all t u us l up.0), up)
    by_tests false false e f more =
        let low = ltb-false t u f in
        let apart = equal_apart t u e in
        (above_with u t us (omega (arith, apart)) up.0, more)

in_with : (t x : ℕ) (us : List ℕ) → In x (with_time t us) → In x (t ∷ us)
in_with t x [] i = i
in_with t x (u ∷ us) i = by_tests (t == u) (nat_lt t u) i (in_with t x us)
  where
    by_tests : (same less : Bool) → In x (cond same (u ∷ us) (cond less (t ∷ u ∷ us) (u ∷ with_time t us)))
        → (In x (with_time t us) → In x (t ∷ us)) → In x (t ∷ u ∷ us)
    by_tests true less j more = inr j
    by_tests false true j more = j
    by_tests false false (inl e) more = inr (inl e)
    by_tests false false (inr j) more = elim (more j) [ inl e ↦ inl e | inr k ↦ inr (inr k) ]

to_with : (t x : ℕ) (us : List ℕ) → In x (t ∷ us) → In x (with_time t us)
to_with t x [] i = i
to_with t x (u ∷ us) i = by_tests (t == u) (nat_lt t u) refl i (to_with t x us)
  where
    by_tests : (same less : Bool) → (t == u) ≡ same → In x (t ∷ u ∷ us) → (In x (t ∷ us) → In x (with_time t us))
        → In x (cond same (u ∷ us) (cond less (t ∷ u ∷ us) (u ∷ with_time t us)))
    by_tests true less e (inl f) more = inl (f ∙ eqb-true t u e)
    by_tests true less e (inr j) more = j
    by_tests false true e j more = j
    by_tests false false e (inl f) more = inr (more (inl f))
    by_tests false false e (inr (inl f)) more = inl f
    by_tests false false e (inr (inr j)) more = inr (more (inr j))

pub rises_in_order : (ts : List ℕ) → Rises (in_order ts)
rises_in_order [] = tt
rises_in_order (t ∷ ts) = rises_with t (in_order ts) (rises_in_order ts)

pub from_order : (x : ℕ) (ts : List ℕ) → In x (in_order ts) → In x ts
from_order x [] i = i
from_order x (t ∷ ts) i = by_place (in_with t x (in_order ts) i) (from_order x ts)
  where
    by_place : (x ≡ t) ⊎ In x (in_order ts) → (In x (in_order ts) → In x ts) → In x (t ∷ ts)
    by_place (inl e) more = inl e
    by_place (inr j) more = inr (more j)

pub to_order : (x : ℕ) (ts : List ℕ) → In x ts → In x (in_order ts)
to_order x [] i = i
to_order x (t ∷ ts) (inl e) = to_with t x (in_order ts) (inl e)
to_order x (t ∷ ts) (inr i) = to_with t x (in_order ts) (inr (to_order x ts i))

-- times of two lists in order that pass the same test: those of the one list are those of the other
-- that are kept
pub same_times : (one other : List ℕ) (test test' keep : ℕ → Bool) → ((t : ℕ) → test t ≡ test' t)
    → ((t : ℕ) → In t one → test t ≡ true → In t other × (keep t ≡ true))
    → ((t : ℕ) → keep t ≡ true → In t one)
    → filter test (in_order one) ≡ filter keep (filter test' (in_order other))
same_times one other test test' keep same all back =
    same_rising (filter test (in_order one)) (filter keep (filter test' (in_order other)))
    (rising_filter test (in_order one) (rises_in_order one))
    (rising_filter keep (filter test' (in_order other)) (rising_filter test' (in_order other) (rises_in_order other)))
    (λ t i. let f = from_filter test (in_order one) t i in
    let h = all t (from_order t one f.0) f.1 in
    to_filter keep (filter test' (in_order other)) t
    (to_filter test' (in_order other) t (to_order t other h.0) (sym (same t) ∙ f.1)) h.1)
    (λ t i. let f = from_filter keep (filter test' (in_order other)) t i in
    let g = from_filter test' (in_order other) t f.0 in
    to_filter test (in_order one) t (to_order t one (back t f.1)) (same t ∙ g.1))

-- ---- the greatest of some times

pub greatest_in : (a : ℕ) (ms : List ℕ) → In (fold max a ms) (a ∷ ms)
greatest_in a [] = inl refl
greatest_in a (m ∷ ms) = by_order (cases_lt a m) (greatest_in (max a m) ms)
  where
    by_order : (a < m) ⊎ (m ≤ a) → In (fold max (max a m) ms) (max a m ∷ ms) → In (fold max (max a m) ms) (a ∷ m ∷ ms)
    by_order (inl l) (inl e) = let same : max a m ≡ m = omega arith in inr (inl (e ∙ same))
    by_order (inr l) (inl e) = let same : max a m ≡ a = omega arith in inl (e ∙ same)
    by_order c (inr i) = inr (inr i)

pub greatest_above : (a x : ℕ) (ms : List ℕ) → In x ms → x ≤ fold max a ms
greatest_above a x [] i = absurd i
greatest_above a x (m ∷ ms) (inl e) = let g = greatest_from (max a m) ms in omega arith
greatest_above a x (m ∷ ms) (inr i) = greatest_above (max a m) x ms i

-- ---- bounds

pub le_min : (t x y : ℕ) → nat_le t (min x y) ≡ (nat_le t x && nat_le t y)
le_min t x y = by_order (cases_lt x t) (cases_lt y t)
  where
    and_false : (b : Bool) → false ≡ (b && false)
    and_false true = refl
    and_false false = refl

    by_order : (x < t) ⊎ (t ≤ x) → (y < t) ⊎ (t ≤ y) → nat_le t (min x y) ≡ (nat_le t x && nat_le t y)
    by_order (inl l) c = lt-leb t (min x y) (omega arith) ∙ ap (λ b. b && nat_le t y) (sym (lt-leb t x l))
    by_order (inr h) (inl l) = lt-leb t (min x y) (omega arith) ∙ and_false (nat_le t x) ∙ ap (λ b. nat_le t x && b) (sym (lt-leb t y l))
    by_order (inr h) (inr g) = le-leb t (min x y) (omega arith) ∙ rw (le-leb t x h, le-leb t y g) refl
