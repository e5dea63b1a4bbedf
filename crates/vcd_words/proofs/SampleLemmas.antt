-- The times of a sample in ticks.
use Rattle.vcd_words.proofs.Cited.{◌≡◌, ℕ, suc, zero, ◌+◌, ◌<◌, Bool, true, false, not, ◌||◌, ◌&&◌, ◌==◌, nat_lt, is_some, is_ok, List, [], ◌∷◌, ◌++◌, length, replicate, vec_len, map, filter_map, get_or, set, take, drop, Option, Some, None, Result, Ok, Err, refl, sym, ap, ap₂, ◌∙◌, arith, ℤ, ◌≢◌, Vec, list_any, list_all, IsAllAdjacentAnswer, and_from, and_parts, eq-eqb, eqb-true, length-map, is_empty, Want, do_rise, has_unit, is_without_scale, ok_of, sample_at, sample_request, Request, Moment, rises_at, tick_fault_number, TickFault, NoTimescale, OutOfRange, model_refusal, tick_refusal, Refusal, all_ticks, has_units, times_with, AreRefused, AreTicks}
use Rattle.vcd_model.specs.Job as model
use Rattle.vcd_model.specs.Job.{request_of}
use Rattle.vcd_model.specs.Ticks.{moment_ticks}
use Rattle.vcd_words.proofs.PeriodLemmas.{scaled, unscaled}

-- numbers of ticks, as those of times that have some
abbrev pub found : List ℕ → List (Result ℕ ℕ)
found ks = map (λ k. Ok k) ks

-- ---- whether numbers rise

adjacent : (ts : List ℕ) → ((k d : ℕ) → k + 1 < length ts → true ≡ nat_lt (get_or ts k d) (get_or ts (k + 1) d)) → do_rise ts ≡ true
adjacent [] h = refl
adjacent (t ∷ []) h = refl
adjacent (t ∷ u ∷ ts) h = and_from (nat_lt t u) (do_rise (u ∷ ts)) (sym (h 0 0 (omega arith))) (adjacent (u ∷ ts) next)
  where
    next : (k d : ℕ) → k + 1 < length (u ∷ ts) → true ≡ nat_lt (get_or (u ∷ ts) k d) (get_or (u ∷ ts) (k + 1) d)
    next k d l = let n : suc k + 1 ≡ suc (k + 1) = omega arith in let here = h (suc k) d (omega arith) in rw n at here

-- the test of each number and the next is that of all
pub rise_is : (ts : List ℕ) (r : Bool) → IsAllAdjacentAnswer (λ x y b. b ≡ nat_lt x y) ts r → r ≡ do_rise ts
rise_is ts true h = sym (adjacent ts h)
rise_is ts false (k, l, h) = by_test (do_rise ts) refl
  where
    by_test : (b : Bool) → do_rise ts ≡ b → false ≡ do_rise ts
    by_test false e = sym e
    by_test true e = let up = rises_at ts e k l in let low = h 0 in absurd (grind (arith, up, low))

-- ---- units

units_are : (ns : List ℕ) (us : List (Option ℤ)) → length us ≡ length ns → has_unit (times_with ns us) ≡ has_units us
units_are [] [] e = refl
units_are [] (u ∷ us) e = absurd (omega arith)
units_are (n ∷ ns) [] e = absurd (omega arith)
units_are (n ∷ ns) (u ∷ us) e = ap (λ b. is_some u || b) (units_are ns us (omega arith))

no_units : (n : ℕ) → has_units (replicate n None) ≡ false
no_units zero = refl
no_units (suc n) = no_units n

-- nothing but times without units
pub no_units_left : (us : List (Option ℤ)) (n : ℕ) → us ≡ replicate n None → has_units us ≡ false
no_units_left us n e = ap has_units e ∙ no_units n

-- without units the numbers are ticks
plain_ticks : (scale : Option ℤ) (ns : List ℕ) (us : List (Option ℤ)) → length us ≡ length ns → has_units us ≡ false → all_ticks scale ns us ≡ found ns
unfolding moment_ticks
plain_ticks scale [] us e h = refl
plain_ticks scale (n ∷ ns) [] e h = absurd (omega arith)
plain_ticks scale (n ∷ ns) (None ∷ us) e h = ap (λ ks. Ok n ∷ ks) (plain_ticks scale ns us (omega arith) h)
plain_ticks scale (n ∷ ns) (Some u ∷ us) e h = cc

-- ---- requests

all_found : (ks : List ℕ) → list_all is_ok (found ks) ≡ true
all_found [] = refl
all_found (k ∷ ks) = all_found ks

found_back : (ks : List ℕ) → filter_map ok_of (found ks) ≡ ks
found_back [] = refl
found_back (k ∷ ks) = ap (λ rest. k ∷ rest) (found_back ks)

-- a sample at numbers of ticks
at_found : (units : Bool) (ks : List ℕ) (names : List (List ℕ)) → sample_request units (found ks) names ≡ sample_at units ks names
at_found units ks names = rw (all_found ks, found_back ks) refl

module _ (scale : Option ℤ) (ns : List ℕ) (us : List (Option ℤ)) (names : List (List ℕ)) (paired : length us ≡ length ns) where
  -- times without units
  pub plain_request : has_units us ≡ false → request_of scale (Want.Sample (times_with ns us) names) ≡ Ok (Request.Sample ns names)
  unfolding request_of
  plain_request none =
      let units : has_unit (times_with ns us) ≡ false = units_are ns us paired ∙ none in
      ap₂ (λ (b : Bool) (ks : List (Result ℕ ℕ)). sample_request b ks names) units (plain_ticks scale ns us paired none) ∙ at_found false ns names

  module _ (some : has_units us ≡ true) where
    -- times with units, of which each has ticks
    asked_for : (ks : List ℕ) → AreTicks (all_ticks scale ns us) ks → request_of scale (Want.Sample (times_with ns us) names) ≡ sample_at true ks names
    unfolding request_of
    asked_for ks told =
        let units : has_unit (times_with ns us) ≡ true = units_are ns us paired ∙ some in
        ap₂ (λ (b : Bool) (ks : List (Result ℕ ℕ)). sample_request b ks names) units told ∙ at_found true ks names

    -- and which rise, or do not
    pub rising_request : (ks : List ℕ) → AreTicks (all_ticks scale ns us) ks → do_rise ks ≡ true → request_of scale (Want.Sample (times_with ns us) names) ≡ Ok (Request.Sample ks names)
    rising_request ks told up = asked_for ks told ∙ rw up refl

    pub falling_request : (ks : List ℕ) → AreTicks (all_ticks scale ns us) ks → do_rise ks ≡ false → request_of scale (Want.Sample (times_with ns us) names) ≡ Err model.Refusal.NotRising
    falling_request ks told up = asked_for ks told ∙ rw up refl

  -- times of which some has no ticks
  pub refused_request : (why : Refusal) → AreRefused (all_ticks scale ns us) why → request_of scale (Want.Sample (times_with ns us) names) ≡ Err (model_refusal why)
  unfolding request_of
  refused_request why (some, is) = rw (some, is) refl

-- ---- ticks over numbers, one by one

-- the ticks of the first p times, and those of the others
abbrev pub so_far : Option ℤ → List ℕ → List (Option ℤ) → ℕ → List (Result ℕ ℕ)
so_far scale ns us p = found (take p ns) ++ all_ticks scale (drop p ns) (drop p us)

-- the time at an index
abbrev pub time_at : List ℕ → List (Option ℤ) → ℕ → ℕ → Option ℤ → Moment
time_at ns us p n u = record { number = get_or ns p n; unit = get_or us p u }

pub one_more : (scale : Option ℤ) (ns : List ℕ) (us : List (Option ℤ)) (p k n : ℕ) (u : Option ℤ) → length us ≡ length ns → p < length ns
    → moment_ticks scale (time_at ns us p n u) false ≡ Ok k
    → so_far scale ns us p ≡ so_far scale (set ns p k) us (p + 1)
one_more scale [] us p k n u e l t = absurd (omega arith)
one_more scale (m ∷ ns) [] p k n u e l t = absurd (omega arith)
one_more scale (m ∷ ns) (v ∷ us) zero k n u e l t = ap (λ r. r ∷ all_ticks scale ns us) t
one_more scale (m ∷ ns) (v ∷ us) (suc p) k n u e l t =
    let next : suc p + 1 ≡ suc (p + 1) = omega arith in
    rw next (ap (λ rest. Ok m ∷ rest) (one_more scale ns us p k n u (omega arith) (omega arith) t))

-- the ticks of all times
pub all_written : (scale : Option ℤ) (ns : List ℕ) (us : List (Option ℤ)) → found (take (length ns) ns) ++ all_ticks scale (drop (length ns) ns) us ≡ found ns
all_written scale [] us = refl
all_written scale (n ∷ ns) us = ap (λ rest. Ok n ∷ rest) (all_written scale ns us)

-- ---- a time without ticks

not_all : (ks : List ℕ) (e : ℕ) (rest : List (Result ℕ ℕ)) → list_all is_ok (found ks ++ Err e ∷ rest) ≡ false
not_all [] e rest = refl
not_all (k ∷ ks) e rest = not_all ks e rest

unscaled_after : (ks : List ℕ) (rest : List (Result ℕ ℕ)) → list_any is_without_scale (found ks ++ Err 12 ∷ rest) ≡ true
unscaled_after [] rest = refl
unscaled_after (k ∷ ks) rest = unscaled_after ks rest

all_scaled : (scale : ℤ) (ms : List Moment) → list_any is_without_scale (map (λ m. moment_ticks (Some scale) m false) ms) ≡ false
all_scaled scale [] = refl
all_scaled scale (m ∷ ms) = rw (scaled scale m false) (all_scaled scale ms)

-- the ticks of these times begin with numbers, and then there is this fault
refused_at : (scale : Option ℤ) (m : Moment) (ms : List Moment) (ks : List ℕ) (rest : List (Result ℕ ℕ)) (fault : TickFault) → moment_ticks scale m false ≡ Err (tick_fault_number fault)
    → map (λ m. moment_ticks scale m false) ms ≡ found ks ++ Err (tick_fault_number fault) ∷ rest → AreRefused (map (λ m. moment_ticks scale m false) ms) (tick_refusal fault)
refused_at scale m ms ks rest NoTimescale t e = rw e (not_all ks 12 rest, rw (unscaled_after ks rest) refl)
refused_at None m ms ks rest OutOfRange t e = absurd (unscaled m false t)
refused_at (Some scale) m ms ks rest OutOfRange t e =
    (ap (list_all is_ok) e ∙ not_all ks 22 rest, rw (all_scaled scale ms) refl)

-- the list from an index on
from_place : (scale : Option ℤ) (ns : List ℕ) (us : List (Option ℤ)) (p n : ℕ) (u : Option ℤ) → length us ≡ length ns → p < length ns
    → all_ticks scale (drop p ns) (drop p us) ≡ moment_ticks scale (time_at ns us p n u) false ∷ all_ticks scale (drop (suc p) ns) (drop (suc p) us)
from_place scale [] us p n u e l = absurd (omega arith)
from_place scale (m ∷ ns) [] p n u e l = absurd (omega arith)
from_place scale (m ∷ ns) (v ∷ us) zero n u e l = refl
from_place scale (m ∷ ns) (v ∷ us) (suc p) n u e l = from_place scale ns us p n u (omega arith) (omega arith)

pub refused : (scale : Option ℤ) (ns ns' : List ℕ) (us : List (Option ℤ)) (p n : ℕ) (u : Option ℤ) (fault : TickFault) → length us ≡ length ns'
    → p < length ns' → moment_ticks scale (time_at ns' us p n u) false ≡ Err (tick_fault_number fault)
    → all_ticks scale ns us ≡ so_far scale ns' us p → AreRefused (all_ticks scale ns us) (tick_refusal fault)
refused scale ns ns' us p n u fault e l t is =
    refused_at scale (time_at ns' us p n u) (times_with ns us) (take p ns') (all_ticks scale (drop (suc p) ns') (drop (suc p) us)) fault t
    (is ∙ ap (λ rest. found (take p ns') ++ rest) (from_place scale ns' us p n u e l ∙ ap (λ r. r ∷ all_ticks scale (drop (suc p) ns') (drop (suc p) us)) t))

-- ---- what words may ask for

some_there : (ts : List ℕ) → not (is_empty ts) ≡ true → ts ≢ []
some_there [] e none = cc
some_there (t ∷ ts) e none = cc

module _ (ns : List ℕ) (us : List (Option ℤ)) (e : (length us == length ns && not (is_empty ns) && (has_units us || do_rise ns)) ≡ true) where
  parts_of : ((length us == length ns && not (is_empty ns)) ≡ true) × ((has_units us || do_rise ns) ≡ true)
  parts_of = and_parts _ _ e

  pub asked_pairs : length us ≡ length ns
  asked_pairs = eqb-true _ _ (and_parts _ _ parts_of.0).0

  pub asked_some : ns ≢ []
  asked_some = some_there ns (and_parts _ _ parts_of.0).1

  pub asked_rises : has_units us ≡ false → do_rise ns ≡ true
  asked_rises none = let rises = parts_of.1 in rw none at rises

-- numbers and units of the same times are as many
pub long_units : (ns : List ℕ) (us : List (Option ℤ)) (ms : List Moment) → ns ≡ map (λ (m : Moment). m.number) ms → us ≡ map (λ (m : Moment). m.unit) ms → length us ≡ length ns
long_units ns us ms n u = rw (n, u) (length-map ms (λ (m : Moment). m.unit) ∙ sym (length-map ms (λ (m : Moment). m.number)))

either : (a b : Bool) → (a ≡ false → b ≡ true) → (a || b) ≡ true
either true b h = refl
either false b h = h refl

not_none : (ts : List ℕ) → 0 < length ts → not (is_empty ts) ≡ true
not_none [] l = absurd (omega arith)
not_none (t ∷ ts) l = refl

-- a sample that words may ask for
pub asked_of : (ns : Vec ℕ) (us : Vec (Option ℤ)) → length us.items ≡ length ns.items → 0 < vec_len ns → (has_units us.items ≡ false → do_rise ns.items ≡ true)
    → (length us.items == length ns.items && not (is_empty ns.items) && (has_units us.items || do_rise ns.items)) ≡ true
asked_of ns us long some rises =
    let one : 0 < length ns.items = omega (arith, some, ns.ok.0) in
    and_from _ _ (and_from _ _ (eq-eqb _ _ long) (not_none ns.items one)) (either (has_units us.items) (do_rise ns.items) rises)
