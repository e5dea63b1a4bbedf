-- The times of a sample in ticks.
use Rattle.std.specs.Prelude.{◌≡◌, ℕ, ℤ, Bool, false, List, [], ◌∷◌, map, Option, is_some, Result, Ok, Err, MatchResult, is_ok}
use Rattle.std.specs.List.{list_any, list_all}
use Rattle.vcd_model.specs.Header.{Header}
use Rattle.vcd_model.specs.Job as model
use Rattle.vcd_model.specs.Ticks.{Moment, moment_ticks}
use Rattle.vcd_view.specs.Views.{IsViewOf}
use Rattle.vcd_view.specs.declared.view.HeadView.{HeadView}
use Rattle.vcd_words.specs.declared.refusal.Refusal.{Refusal}
use Rattle.vcd_words.specs.Refusal.{model_refusal}

-- times with these numbers and units, one by one
abbrev pub times_with : List ℕ → List (Option ℤ) → List Moment
times_with [] units = []
times_with (n ∷ ns) [] = []
times_with (n ∷ ns) (u ∷ us) = record { number = n; unit = u } ∷ times_with ns us

-- some time has a unit
abbrev pub has_units : List (Option ℤ) → Bool
has_units units = list_any (λ unit. is_some unit) units

-- the ticks of these times in this scale, rounded down, or the faults of those that have none
abbrev pub all_ticks : Option ℤ → List ℕ → List (Option ℤ) → List (Result ℕ ℕ)
all_ticks scale numbers units = map (λ m. moment_ticks scale m false) (times_with numbers units)

-- each time has ticks, and these are they
abbrev pub AreTicks : List (Result ℕ ℕ) → List ℕ → Type 0
AreTicks all numbers = all ≡ map (λ k. Ok k) numbers

-- some time has no ticks, and this is why the times are refused
abbrev pub AreRefused : List (Result ℕ ℕ) → Refusal → Type 0
AreRefused all why = (list_all is_ok all ≡ false) × (model.first_refusal all ≡ model_refusal why)

-- over any header that the view shows, a run asks for the same with these words as before, or is
-- refused for this reason
abbrev pub KeepsRequest : {A : Type 0} → HeadView → (old new : model.Want) → Result A Refusal → Type 0
KeepsRequest v old new result = (h : Header) → IsViewOf v h → MatchResult result (λ _. model.request_of h.scale new ≡ model.request_of h.scale old)
    (λ why. model.request_of h.scale old ≡ Err (model_refusal why))
