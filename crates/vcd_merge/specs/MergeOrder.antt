-- Whose turn it is among the inputs of a merge, and the greatest of their times.
use Rattle.std.specs.Prelude.{◌≡◌, ℕ, ◌<◌, ◌≤◌, ◌⊎◌, false, cond, max, List, [], ◌∷◌, slice_get, Option, Some, None}
use Rattle.vcd_merge.specs.declared.seat.Seat.{Seat}

-- whose turn it is: no input that has not finished has a lesser time, nor the same time and a
-- smaller number
pub record IsNext (seats : List Seat) (k : ℕ) : Type 0 where
  pub seat : Seat
  pub there : slice_get seats k ≡ Some seat
  pub unfinished : seat.finished ≡ false
  pub least : (j : ℕ) (s : Seat) → slice_get seats j ≡ Some s → s.finished ≡ false → (seat.time < s.time) ⊎ ((seat.time ≡ s.time) × (k ≤ j))

-- the greatest of the times of those that had a timestamp
abbrev pub greater_time : Seat → Option ℕ → Option ℕ
greater_time s None = Some s.time
greater_time s (Some t) = Some (max t s.time)

abbrev pub greatest_from : Option ℕ → List Seat → Option ℕ
greatest_from t [] = t
greatest_from t (s ∷ ss) = greatest_from (cond s.regs.marked (greater_time s t) t) ss

abbrev pub greatest_time : List Seat → Option ℕ
greatest_time seats = greatest_from None seats
