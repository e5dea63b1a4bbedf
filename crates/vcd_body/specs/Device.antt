-- What was written between a sink before and after a call, by the texts that were due.
use Rattle.std.specs.Prelude.{◌≡◌, List, ℕ, ◌++◌, Result}
use Rattle.vcd_text.specs.Device.{Device, Takes, Writes, WritesSome}

-- what one text has more than the other was written
abbrev pub Grows : Device → Device → List ℕ → List ℕ → Type 0
Grows out out' text more = (due : List ℕ) × (more ≡ text ++ due) × Writes out out' due

-- a write failed of what one text has more than the other: a prefix of it was written
abbrev pub GrowsSome : Device → Device → List ℕ → List ℕ → Type 0
GrowsSome out out' text more = (due : List ℕ) × (more ≡ text ++ due) × WritesSome out out' due

-- what one text has more than the other is due, and this holds of it
abbrev pub DueBy : (List ℕ → Type 0) → List ℕ → List ℕ → Type 0
DueBy takes text more = (due : List ℕ) × (more ≡ text ++ due) × takes due

-- what one text has more than the other was written, or a prefix of it if a write failed
abbrev pub TakesDue : {A E : Type 0} → Device → Device → List ℕ → List ℕ → Result A E → Type 0
TakesDue out out' text more result = DueBy (λ due. Takes out out' due result) text more
