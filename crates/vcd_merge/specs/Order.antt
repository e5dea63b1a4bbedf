-- The order in which the inputs of a merge have their turns.
use Rattle.std.specs.Prelude.{◌≡◌, ◌≢◌, ℕ, ◌<◌, ◌≤◌, ◌⊎◌, false, List, length, map, get_or, slice_get, Some}
use Rattle.vcd_merge.specs.declared.seat.Seat.{Seat}

-- an input with this time comes before the other one: by the times, and of equal times by the
-- numbers
abbrev pub ComesBefore : (time input other_time other : ℕ) → Type 0
ComesBefore t j u k = (t < u) ⊎ ((t ≡ u) × (j < k))

-- the time of an input
abbrev pub time_of : List Seat → ℕ → ℕ
time_of seats j = get_or (map (λ (s : Seat). s.time) seats) j 0

-- one of the first n inputs that has not finished, and not this one
pub record Waits (seats : List Seat) (n out j : ℕ) : Type 0 where
  pub within : j < n
  pub other : j ≢ out
  pub seat : Seat
  pub there : slice_get seats j ≡ Some seat
  pub unfinished : seat.finished ≡ false

-- in the first `len` indexes there are exactly these inputs, each before those in smaller indexes
pub record AreInOrder (In : ℕ → Type 0) (time : ℕ → ℕ) (inputs : List ℕ) (len : ℕ) : Type 0 where
  pub there : (p : ℕ) → p < len → In (get_or inputs p 0)
  pub all : (j : ℕ) → In j → (p : ℕ) × (p < len) × (get_or inputs p 0 ≡ j)
  pub falls : (p q : ℕ) → p < q → q < len → ComesBefore (time (get_or inputs q 0)) (get_or inputs q 0) (time (get_or inputs p 0)) (get_or inputs p 0)

-- these inputs wait, in order
abbrev pub IsOrder : List Seat → (n out : ℕ) → (inputs : List ℕ) → (len : ℕ) → Type 0
IsOrder seats n out = AreInOrder (Waits seats n out) (time_of seats)

-- all inputs that have not finished wait
abbrev pub AllWait : List Seat → (inputs : List ℕ) → (len : ℕ) → Type 0
AllWait seats = IsOrder seats (length seats) (length seats)

-- some inputs wait, and this one is not among them
abbrev pub MayJoin : List Seat → (input : ℕ) → (inputs : List ℕ) → (len : ℕ) → Type 0
MayJoin seats input inputs len = (n : ℕ) × (out : ℕ) × (n ≤ length seats) × IsOrder seats n out inputs len × ((n ≤ input) ⊎ (input ≡ out))

-- with any time before this one, the input would go before all others that have not finished
abbrev pub IsFirstBefore : List Seat → ℕ → ℕ → Type 0
IsFirstBefore seats k before = (t : ℕ) → t < before → (j : ℕ) (s : Seat) → j ≢ k → slice_get seats j ≡ Some s → s.finished ≡ false → (t < s.time)
    ⊎ ((t ≡ s.time) × (k ≤ j))
