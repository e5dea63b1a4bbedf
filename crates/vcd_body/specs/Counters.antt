-- Counters in two parts: those of the share, and the steps that the slot has counted since. The
-- slot counts falls, steps that are neither, and rises.
use Rattle.std.specs.Prelude.{ℕ, ◌+◌, ◌-◌, ◌^◌, min, List, [], ◌∷◌, get_or}

-- a counter of these two parts, which is at most a full one
abbrev pub count_of : ℕ → ℕ → ℕ
count_of count steps = min (count + steps) (2 ^ 64 - 1)

-- all three counters
abbrev pub counts_of : List ℕ → List ℕ → List ℕ
counts_of steps counts = count_of (get_or counts 0 0) (get_or steps 0 0 + get_or steps 1 0 + get_or steps 2 0) ∷ count_of (get_or counts 1 0)
    (get_or steps 2 0) ∷ count_of (get_or counts 2 0) (get_or steps 0 0) ∷ []
