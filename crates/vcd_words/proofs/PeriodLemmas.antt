-- The times of a cut in ticks.
use Rattle.vcd_words.proofs.Cited.{◌≡◌, ◌≢◌, ◌≤◌, ◌<◌, ◌||◌, ℕ, Bool, true, false, nat_lt, nat_le, is_some, [], ◌∷◌, Option, Some, None, Result, Ok, Err, refl, arith, ℤ, ◌^◌, leb-true, Want, cut_request, has_unit, is_without_scale, Request, Moment, in_range, number_ticks, ticks, tick_fault_number, TickFault, NoTimescale, OutOfRange, model_refusal, tick_refusal}
use Rattle.vcd_model.specs.Job as model
use Rattle.vcd_model.specs.Job.{request_of}
use Rattle.vcd_model.specs.Ticks.{moment_ticks}

-- where there is a scale, no time is without one
pub scaled : (scale : ℤ) (m : Moment) (up : Bool) → is_without_scale (moment_ticks (Some scale) m up) ≡ false
unfolding moment_ticks
scaled scale m up = by_unit m.unit refl
  where
    by_test : (b : Bool) (k : ℕ) → nat_lt k (2 ^ 64) ≡ b → is_without_scale (in_range k) ≡ false
    by_test true k e = rw e refl
    by_test false k e = rw e refl

    by_unit : (unit : Option ℤ) → m.unit ≡ unit → is_without_scale (moment_ticks (Some scale) m up) ≡ false
    by_unit None e = rw e refl
    by_unit (Some u) e = rw e (by_test (nat_lt (ticks m.number u scale up) (2 ^ 64)) (ticks m.number u scale up) refl)

-- without a scale no time is out of range
pub unscaled : (m : Moment) (up : Bool) → moment_ticks None m up ≡ Err 22 → ⊥
unfolding moment_ticks
unscaled m up = by_unit m.unit refl
  where
    differ : (r : Result ℕ ℕ) (n k : ℕ) → r ≡ Err n → r ≡ Err k → n ≢ k → ⊥
    differ r n k e f other = let same : n ≡ k = cc in other same

    by_unit : (unit : Option ℤ) → m.unit ≡ unit → moment_ticks None m up ≡ Err 22 → ⊥
    by_unit None e out = let same : number_ticks None m.number None up ≡ Err 22 = rw e at out in cc
    by_unit (Some u) e out = differ (moment_ticks None m up) 12 22 (rw e refl) out (omega arith)

-- a time is out of range, so no other is without a scale
has_scale : (scale : Option ℤ) (m other : Moment) (up up' : Bool) → moment_ticks scale m up ≡ Err 22 → is_without_scale (moment_ticks scale other up') ≡ false
has_scale None m other up up' out = absurd (unscaled m up out)
has_scale (Some scale) m other up up' out = scaled scale other up'

-- the first time has no ticks
pub from_refused : (scale : Option ℤ) (from to : Moment) (fault : TickFault) → moment_ticks scale from true ≡ Err (tick_fault_number fault)
    → request_of scale (Want.Cut from to) ≡ Err (model_refusal (tick_refusal fault))
unfolding request_of
from_refused scale from to NoTimescale e = rw e refl
from_refused scale from to OutOfRange e = let other = has_scale scale from to true false e in rw (e, other) refl

-- the last time has none
pub to_refused : (scale : Option ℤ) (from to : Moment) (a : ℕ) (fault : TickFault) → moment_ticks scale from true ≡ Ok a
    → moment_ticks scale to false ≡ Err (tick_fault_number fault) → request_of scale (Want.Cut from to) ≡ Err (model_refusal (tick_refusal fault))
unfolding request_of
to_refused scale from to a NoTimescale e f = rw (e, f) refl
to_refused scale from to a OutOfRange e f = rw (e, f) refl

-- the first is above the last; without units the words were refused
pub above : (scale : Option ℤ) (from to : Moment) (a b : ℕ) → (from.unit ≡ None → to.unit ≡ None → from.number ≤ to.number)
    → moment_ticks scale from true ≡ Ok a → moment_ticks scale to false ≡ Ok b → b < a
    → request_of scale (Want.Cut from to) ≡ Err model.Refusal.FromAboveTo
unfolding request_of moment_ticks
above scale from to a b ordered e f lt = by_units from.unit to.unit refl refl
  where
    less : nat_lt b a ≡ true
    less = grind (arith, lt)

    by_units : (u v : Option ℤ) → from.unit ≡ u → to.unit ≡ v → cut_request (has_unit (from ∷ to ∷ [])) (moment_ticks scale from true)
        (moment_ticks scale to false) ≡ Err model.Refusal.FromAboveTo
    by_units None None h k =
        let first : Ok from.number ≡ Ok a = rw h at e in
        let last : Ok to.number ≡ Ok b = rw k at f in
        let m : from.number ≡ a = cc in
        let n : to.number ≡ b = cc in
        let order = ordered h k in
        absurd (omega (arith, m, n, order, lt))
    by_units (Some u) v h k = rw (e, f, h, less) refl
    by_units None (Some v) h k = rw (e, f, h, k, less) refl

-- they are in order
pub in_order : (scale : Option ℤ) (from to : Moment) (a b : ℕ) → moment_ticks scale from true ≡ Ok a → moment_ticks scale to false ≡ Ok b → a ≤ b
    → request_of scale (Want.Cut from to) ≡ Ok (Request.Cut a b)
unfolding request_of
in_order scale from to a b e f le = by_test (has_unit (from ∷ to ∷ [])) refl
  where
    less : nat_lt b a ≡ false
    less = grind (arith, le)

    by_test : (u : Bool) → has_unit (from ∷ to ∷ []) ≡ u → cut_request (has_unit (from ∷ to ∷ [])) (moment_ticks scale from true) (moment_ticks scale to false) ≡ Ok (Request.Cut a b)
    by_test true h = rw (e, f, h, less) refl
    by_test false h = rw (e, f, h) refl

-- what words may ask for is in order without units
pub ordered : (u v : Option ℤ) (a b : ℕ) → (is_some u || is_some v || nat_le a b) ≡ true → u ≡ None → v ≡ None → a ≤ b
ordered None None a b e h k = leb-true a b e
ordered None (Some y) a b e h k = cc
ordered (Some x) v a b e h k = cc
