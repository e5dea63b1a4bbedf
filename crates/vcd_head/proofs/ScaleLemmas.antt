-- Numbers and units of time scales.
use Rattle.vcd_head.proofs.Cited.{◌≡◌, ◌≢◌, ℕ, ℤ, pos, negsuc, ◌+ℤ◌, Bool, true, false, cond, List, [], ◌∷◌, ◌++◌, bytes_eq, codes, Option, Some, None, option_map, find, MatchOption, refl, sym, ap, subst, ◌∙◌, Bor, bytes_eq-Decides, is_end, to_z, of_z, w8, AllByRecursion, scales, unit_exponent, power_in, unit_in, bytes_flip}
use Rattle.std.proofs.Common.{ne_eqb}
use Rattle.vcd_model.specs.Scales.{exponent_of, is_scale_number, is_scale_unit}

pub number_cases : (t : List ℕ) (x : ℤ) (Q : List ℕ → ℤ → Type 0) → power_in t ≡ Some x → Q (codes "1") (pos 0) → Q (codes "10") (pos 1) → Q (codes "100") (pos 2) → Q t x
number_cases t x Q h q0 q1 q2 = by_tests (bytes_eq (codes "1") t) (bytes_eq (codes "10") t) (bytes_eq (codes "100") t) refl refl refl h
  where
    at : (w : List ℕ) (y : ℤ) → bytes_eq w t ≡ true → ◌≡◌ {A = Option ℤ} (Some y) (Some x) → Q w y → Q t x
    at w y e s q = let z : y ≡ x = cc in subst (λ v. Q v x) ((bytes_eq-Decides w t).0 e) (subst (Q w) z q)

    by_tests : (b0 b1 b2 : Bool) → bytes_eq (codes "1") t ≡ b0 → bytes_eq (codes "10") t ≡ b1 → bytes_eq (codes "100") t ≡ b2
        → ◌≡◌ {A = Option ℤ} (cond b0 (Some (pos 0)) (cond b1 (Some (pos 1)) (cond b2 (Some (pos 2)) None))) (Some x) → Q t x
    by_tests true b1 b2 e0 e1 e2 s = at (codes "1") (pos 0) e0 s q0
    by_tests false true b2 e0 e1 e2 s = at (codes "10") (pos 1) e1 s q1
    by_tests false false true e0 e1 e2 s = at (codes "100") (pos 2) e2 s q2
    by_tests false false false e0 e1 e2 s = cc

pub number_cases_none : (t : List ℕ) → power_in t ≡ None → (bytes_eq (codes "1") t ≡ false) × (bytes_eq (codes "10") t ≡ false) × (bytes_eq (codes "100") t ≡ false)
number_cases_none t h = by_tests (bytes_eq (codes "1") t) (bytes_eq (codes "10") t) (bytes_eq (codes "100") t) refl refl refl h
  where
    by_tests : (b0 b1 b2 : Bool) → bytes_eq (codes "1") t ≡ b0 → bytes_eq (codes "10") t ≡ b1 → bytes_eq (codes "100") t ≡ b2
        → ◌≡◌ {A = Option ℤ} (cond b0 (Some (pos 0)) (cond b1 (Some (pos 1)) (cond b2 (Some (pos 2)) None))) None → (bytes_eq (codes "1") t ≡ false)
        × (bytes_eq (codes "10") t ≡ false) × (bytes_eq (codes "100") t ≡ false)
    by_tests true b1 b2 e0 e1 e2 s = cc
    by_tests false true b2 e0 e1 e2 s = cc
    by_tests false false true e0 e1 e2 s = cc
    by_tests false false false e0 e1 e2 s = (e0, e1, e2)

pub unit_cases : (t : List ℕ) (x : ℤ) (Q : List ℕ → ℤ → Type 0) → unit_in t ≡ Some x → Q (codes "s") (pos 0) → Q (codes "ms") (negsuc 2)
    → Q (codes "us") (negsuc 5) → Q (codes "ns") (negsuc 8) → Q (codes "ps") (negsuc 11) → Q (codes "fs") (negsuc 14) → Q t x
unit_cases t x Q h q0 q1 q2 q3 q4 q5 = by_tests (bytes_eq (codes "s") t) (bytes_eq (codes "ms") t) (bytes_eq (codes "us") t)
    (bytes_eq (codes "ns") t) (bytes_eq (codes "ps") t) (bytes_eq (codes "fs") t) refl refl refl refl refl refl h
  where
    at : (w : List ℕ) (y : ℤ) → bytes_eq w t ≡ true → ◌≡◌ {A = Option ℤ} (Some y) (Some x) → Q w y → Q t x
    at w y e s q = let z : y ≡ x = cc in subst (λ v. Q v x) ((bytes_eq-Decides w t).0 e) (subst (Q w) z q)

    by_tests : (b0 b1 b2 b3 b4 b5 : Bool) → bytes_eq (codes "s") t ≡ b0 → bytes_eq (codes "ms") t ≡ b1 → bytes_eq (codes "us") t ≡ b2
        → bytes_eq (codes "ns") t ≡ b3 → bytes_eq (codes "ps") t ≡ b4 → bytes_eq (codes "fs") t ≡ b5
        → ◌≡◌ {A = Option ℤ} (cond b0 (Some (pos 0)) (cond b1 (Some (negsuc 2))
        (cond b2 (Some (negsuc 5)) (cond b3 (Some (negsuc 8)) (cond b4 (Some (negsuc 11)) (cond b5 (Some (negsuc 14)) None)))))) (Some x) → Q t x
    by_tests true b1 b2 b3 b4 b5 e0 e1 e2 e3 e4 e5 s = at (codes "s") (pos 0) e0 s q0
    by_tests false true b2 b3 b4 b5 e0 e1 e2 e3 e4 e5 s = at (codes "ms") (negsuc 2) e1 s q1
    by_tests false false true b3 b4 b5 e0 e1 e2 e3 e4 e5 s = at (codes "us") (negsuc 5) e2 s q2
    by_tests false false false true b4 b5 e0 e1 e2 e3 e4 e5 s = at (codes "ns") (negsuc 8) e3 s q3
    by_tests false false false false true b5 e0 e1 e2 e3 e4 e5 s = at (codes "ps") (negsuc 11) e4 s q4
    by_tests false false false false false true e0 e1 e2 e3 e4 e5 s = at (codes "fs") (negsuc 14) e5 s q5
    by_tests false false false false false false e0 e1 e2 e3 e4 e5 s = cc

pub unit_cases_none : (t : List ℕ) → unit_in t ≡ None → (bytes_eq (codes "s") t ≡ false) × (bytes_eq (codes "ms") t ≡ false)
    × (bytes_eq (codes "us") t ≡ false) × (bytes_eq (codes "ns") t ≡ false) × (bytes_eq (codes "ps") t ≡ false) × (bytes_eq (codes "fs") t ≡ false)
unit_cases_none t h = by_tests (bytes_eq (codes "s") t) (bytes_eq (codes "ms") t) (bytes_eq (codes "us") t) (bytes_eq (codes "ns") t)
    (bytes_eq (codes "ps") t) (bytes_eq (codes "fs") t) refl refl refl refl refl refl h
  where
    by_tests : (b0 b1 b2 b3 b4 b5 : Bool) → bytes_eq (codes "s") t ≡ b0 → bytes_eq (codes "ms") t ≡ b1 → bytes_eq (codes "us") t ≡ b2
        → bytes_eq (codes "ns") t ≡ b3 → bytes_eq (codes "ps") t ≡ b4 → bytes_eq (codes "fs") t ≡ b5
        → ◌≡◌ {A = Option ℤ} (cond b0 (Some (pos 0)) (cond b1 (Some (negsuc 2))
        (cond b2 (Some (negsuc 5)) (cond b3 (Some (negsuc 8)) (cond b4 (Some (negsuc 11)) (cond b5 (Some (negsuc 14)) None)))))) None
        → (bytes_eq (codes "s") t ≡ false) × (bytes_eq (codes "ms") t ≡ false) × (bytes_eq (codes "us") t ≡ false)
        × (bytes_eq (codes "ns") t ≡ false) × (bytes_eq (codes "ps") t ≡ false) × (bytes_eq (codes "fs") t ≡ false)
    by_tests true b1 b2 b3 b4 b5 e0 e1 e2 e3 e4 e5 s = cc
    by_tests false true b2 b3 b4 b5 e0 e1 e2 e3 e4 e5 s = cc
    by_tests false false true b3 b4 b5 e0 e1 e2 e3 e4 e5 s = cc
    by_tests false false false true b4 b5 e0 e1 e2 e3 e4 e5 s = cc
    by_tests false false false false true b5 e0 e1 e2 e3 e4 e5 s = cc
    by_tests false false false false false true e0 e1 e2 e3 e4 e5 s = cc
    by_tests false false false false false false e0 e1 e2 e3 e4 e5 s = (e0, e1, e2, e3, e4, e5)

-- a number and a unit together
pub exponent_sum : (n u : List ℕ) (p e : ℤ) → power_in n ≡ Some p → unit_in u ≡ Some e → exponent_of (n ++ u) ≡ Some (e +ℤ p)
unfolding exponent_of
exponent_sum n u p e h k = number_cases n p (λ m q. exponent_of (m ++ u) ≡ Some (e +ℤ q)) h
    (unit_cases u e (λ w x. exponent_of (codes "1" ++ w) ≡ Some (x +ℤ pos 0)) k refl refl refl refl refl refl)
    (unit_cases u e (λ w x. exponent_of (codes "10" ++ w) ≡ Some (x +ℤ pos 1)) k refl refl refl refl refl refl)
    (unit_cases u e (λ w x. exponent_of (codes "100" ++ w) ≡ Some (x +ℤ pos 2)) k refl refl refl refl refl refl)

pub number_test : (n : List ℕ) (p : ℤ) → power_in n ≡ Some p → is_scale_number n ≡ true
unfolding is_scale_number
number_test n p h = number_cases n p (λ m q. is_scale_number m ≡ true) h refl refl refl

pub number_no_end : (n : List ℕ) (p : ℤ) → power_in n ≡ Some p → is_end n ≡ false
number_no_end n p h = number_cases n p (λ m q. is_end m ≡ false) h refl refl refl

pub number_test_none : (n : List ℕ) → power_in n ≡ None → is_scale_number n ≡ false
unfolding is_scale_number
number_test_none n h = let c = number_cases_none n h in rw (bytes_flip n (codes "1") ∙ c.0, bytes_flip n (codes "10") ∙ c.1, bytes_flip n (codes "100") ∙ c.2) refl

pub unit_test : (u : List ℕ) (e : ℤ) → unit_in u ≡ Some e → is_scale_unit u ≡ true
unfolding is_scale_unit
unit_test u e h = unit_cases u e (λ m q. is_scale_unit m ≡ true) h refl refl refl refl refl refl

pub unit_no_end : (u : List ℕ) (e : ℤ) → unit_in u ≡ Some e → is_end u ≡ false
unit_no_end u e h = unit_cases u e (λ m q. is_end m ≡ false) h refl refl refl refl refl refl

pub unit_test_none : (u : List ℕ) → unit_in u ≡ None → is_scale_unit u ≡ false
unfolding is_scale_unit
unit_test_none u h = let c = unit_cases_none u h in rw (
  bytes_flip u (codes "s") ∙ c.0,
  bytes_flip u (codes "ms") ∙ c.1,
  bytes_flip u (codes "us")
      ∙ c.2,
  bytes_flip u (codes "ns") ∙ c.3,
  bytes_flip u (codes "ps") ∙ c.4,
  bytes_flip u (codes "fs") ∙ c.5,
) refl

-- the exponent of a unit is that of the scale of one unit
pub unit_exponent_is : (u : List ℕ) → unit_in u ≡ unit_exponent u
unfolding is_scale_unit exponent_of
unit_exponent_is u = by_unit (unit_in u) refl
  where
    by_unit : (o : Option ℤ) → unit_in u ≡ o → o ≡ unit_exponent u
    by_unit (Some e) h = unit_cases u e (λ w x. Some x ≡ unit_exponent w) h refl refl refl refl refl refl
    by_unit None h = rw (unit_test_none u h) refl

none_there : (x : ℤ) → exponent_of (codes "$end") ≡ Some x → ⊥
unfolding exponent_of
none_there x s = cc

-- no scale is `$end`
pub exponent_no_end : (t : List ℕ) (e : ℤ) → exponent_of t ≡ Some e → is_end t ≡ false
exponent_no_end t e h = by_test (is_end t) refl
  where
    by_test : (b : Bool) → is_end t ≡ b → b ≡ false
    by_test false q = refl
    by_test true q = let s = subst (λ x. exponent_of x ≡ Some e) (sym ((bytes_eq-Decides (codes "$end") t).0 q)) h in absurd (none_there e s)

-- ---- a scale by its front

not_front : (b : ℕ) (u : List ℕ) → ((w : List ℕ) → u ≢ b ∷ w) → (r : List ℕ) → bytes_eq (b ∷ r) u ≡ false
not_front b [] h r = refl
not_front b (x ∷ w) h r = rw (ne_eqb b x (λ e. h w (ap (λ y. y ∷ w) (sym e)))) refl

pub front_100 : (u : List ℕ) → exponent_of (codes "100" ++ u) ≡ option_map (λ e. e +ℤ pos 2) (unit_in u)
unfolding exponent_of
front_100 u = by_unit (unit_in u) refl
  where
    by_unit : (o : Option ℤ) → unit_in u ≡ o → exponent_of (codes "100" ++ u) ≡ option_map (λ e. e +ℤ pos 2) o
    by_unit (Some e) h = unit_cases u e (λ w x. exponent_of (codes "100" ++ w) ≡ Some (x +ℤ pos 2)) h refl refl refl refl refl refl
    by_unit None h = let c = unit_cases_none u h in rw (c.0, c.1, c.2, c.3, c.4, c.5) refl

pub front_10 : (u : List ℕ) → ((w : List ℕ) → u ≢ 48 ∷ w) → exponent_of (codes "10" ++ u) ≡ option_map (λ e. e +ℤ pos 1) (unit_in u)
unfolding exponent_of
front_10 u n = by_unit (unit_in u) refl
  where
    by_unit : (o : Option ℤ) → unit_in u ≡ o → exponent_of (codes "10" ++ u) ≡ option_map (λ e. e +ℤ pos 1) o
    by_unit (Some e) h = unit_cases u e (λ w x. exponent_of (codes "10" ++ w) ≡ Some (x +ℤ pos 1)) h refl refl refl refl refl refl
    by_unit None h = let c = unit_cases_none u h in rw (
      not_front 48 u n (codes "s"),
      c.0,
      not_front 48 u n (codes "ms"),
      c.1,
      not_front 48 u n (codes "us"),
      c.2,
      not_front 48 u n (codes "ns"),
      c.3,
      not_front 48 u n (codes "ps"),
      c.4,
      not_front 48 u n (codes "fs"),
      c.5,
    ) refl

pub front_1 : (u : List ℕ) → ((w : List ℕ) → u ≢ 48 ∷ w) → exponent_of (codes "1" ++ u) ≡ option_map (λ e. e +ℤ pos 0) (unit_in u)
unfolding exponent_of
front_1 u n = by_unit (unit_in u) refl
  where
    by_unit : (o : Option ℤ) → unit_in u ≡ o → exponent_of (codes "1" ++ u) ≡ option_map (λ e. e +ℤ pos 0) o
    by_unit (Some e) h = unit_cases u e (λ w x. exponent_of (codes "1" ++ w) ≡ Some (x +ℤ pos 0)) h refl refl refl refl refl refl
    by_unit None h = let c = unit_cases_none u h in rw (
      not_front 48 u n (codes "0s"),
      not_front 48 u n (codes "s"),
      c.0,
      not_front 48 u n (codes "0ms"),
      not_front 48 u n (codes "ms"),
      c.1,
      not_front 48 u n (codes "0us"),
      not_front 48 u n (codes "us"),
      c.2,
      not_front 48 u n (codes "0ns"),
      not_front 48 u n (codes "ns"),
      c.3,
      not_front 48 u n (codes "0ps"),
      not_front 48 u n (codes "ps"),
      c.4,
      not_front 48 u n (codes "0fs"),
      not_front 48 u n (codes "fs"),
      c.5,
    ) refl

pub front_other : (t : List ℕ) → ((w : List ℕ) → t ≢ 49 ∷ w) → exponent_of t ≡ None
unfolding exponent_of
front_other t n = rw (
  not_front 49 t n (codes "00s"),
  not_front 49 t n (codes "0s"),
  not_front 49 t n (codes "s"),
  not_front 49 t n (codes "00ms"),
  not_front 49 t n (codes "0ms"),
  not_front 49 t n (codes "ms"),
  not_front 49 t n (codes "00us"),
  not_front 49 t n (codes "0us"),
  not_front 49 t n (codes "us"),
  not_front 49 t n (codes "00ns"),
  not_front 49 t n (codes "0ns"),
  not_front 49 t n (codes "ns"),
  not_front 49 t n (codes "00ps"),
  not_front 49 t n (codes "0ps"),
  not_front 49 t n (codes "ps"),
  not_front 49 t n (codes "00fs"),
  not_front 49 t n (codes "0fs"),
  not_front 49 t n (codes "fs"),
) refl

pub stripped : (t p : List ℕ) (r : Option (Bor (List ℕ))) (x : Bor (List ℕ)) → r ≡ Some x
    → MatchOption r ((rest : List ℕ) → t ≢ p ++ rest) (λ y. t ≡ p ++ y.now) → t ≡ p ++ x.now
stripped t p r x e h = subst (λ o. MatchOption o ((rest : List ℕ) → t ≢ p ++ rest) (λ y. t ≡ p ++ y.now)) e h

pub not_stripped : (t p : List ℕ) (r : Option (Bor (List ℕ))) → ((x : Bor (List ℕ)) → r ≡ Some x → ⊥)
    → MatchOption r ((rest : List ℕ) → t ≢ p ++ rest) (λ y. t ≡ p ++ y.now) → (rest : List ℕ) → t ≢ p ++ rest
not_stripped t p None n h = h
not_stripped t p (Some x) n h = absurd (n x refl)

-- ---- exponents fit a byte

pub unit_fits : (u : List ℕ) (e : ℤ) → unit_in u ≡ Some e → to_z w8 (of_z w8 e) ≡ e
unit_fits u e h = unit_cases u e (λ w x. to_z w8 (of_z w8 x) ≡ x) h refl refl refl refl refl refl

pub number_fits : (n : List ℕ) (p : ℤ) → power_in n ≡ Some p → to_z w8 (of_z w8 p) ≡ p
number_fits n p h = number_cases n p (λ m q. to_z w8 (of_z w8 q) ≡ q) h refl refl refl

pub sum_fits : (n u : List ℕ) (p e : ℤ) → power_in n ≡ Some p → unit_in u ≡ Some e → to_z w8 (of_z w8 (e +ℤ p)) ≡ e +ℤ p
sum_fits n u p e h k = number_cases n p (λ m q. to_z w8 (of_z w8 (e +ℤ q)) ≡ e +ℤ q) h
    (unit_cases u e (λ w x. to_z w8 (of_z w8 (x +ℤ pos 0)) ≡ x +ℤ pos 0) k refl refl refl refl refl refl)
    (unit_cases u e (λ w x. to_z w8 (of_z w8 (x +ℤ pos 1)) ≡ x +ℤ pos 1) k refl refl refl refl refl refl)
    (unit_cases u e (λ w x. to_z w8 (of_z w8 (x +ℤ pos 2)) ≡ x +ℤ pos 2) k refl refl refl refl refl refl)

fits_found : (xs : List (List ℕ × ℤ)) (t : List ℕ) (e : ℤ) → AllByRecursion (λ (s : List ℕ × ℤ). to_z w8 (of_z w8 s.1) ≡ s.1) xs
    → option_map (λ (s : List ℕ × ℤ). s.1) (find (λ (s : List ℕ × ℤ). bytes_eq s.0 t) xs) ≡ Some e → to_z w8 (of_z w8 e) ≡ e
fits_found [] t e h f = cc
fits_found (x ∷ xs) t e h f = by_test (bytes_eq x.0 t) f (fits_found xs t e h.1)
  where
    by_test : (b : Bool) → option_map (λ (s : List ℕ × ℤ). s.1) (cond b (Some x) (find (λ (s : List ℕ × ℤ). bytes_eq s.0 t) xs)) ≡ Some e
        → (option_map (λ (s : List ℕ × ℤ). s.1) (find (λ (s : List ℕ × ℤ). bytes_eq s.0 t) xs) ≡ Some e → to_z w8 (of_z w8 e) ≡ e)
        → to_z w8 (of_z w8 e) ≡ e
    by_test true k more = let s : x.1 ≡ e = cc in subst (λ y. to_z w8 (of_z w8 y) ≡ y) s h.0
    by_test false k more = more k

pub exponent_fits : (t : List ℕ) (e : ℤ) → exponent_of t ≡ Some e → to_z w8 (of_z w8 e) ≡ e
unfolding exponent_of
exponent_fits t e h = fits_found scales t e (refl, (refl, (refl, (refl, (refl, (refl, (refl, (refl, (refl, (refl, (refl, (refl, (refl, (refl, (refl, (refl, (refl, (refl, tt)))))))))))))))))) h
