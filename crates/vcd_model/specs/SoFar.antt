-- Unfinished readings: the tokens so far are good phrases, and maybe the first tokens of one more.
use Rattle.std.specs.Prelude.{◌≡◌, ℕ, List, []}
use Rattle.vcd_model.specs.Tokens.{Token}
use Rattle.vcd_model.specs.Reading.{Placed, Grammar, reading_of}
use Rattle.vcd_model.specs.Reading.Ending.{AtEnd, AtLast}

-- these tokens are these good phrases, none of which is the last of its kind, and then these first
-- tokens of the next one, all without a fault
abbrev pub IsSoFar : {P : Type 0} → Grammar P → List Token → List (Placed P) → List (List ℕ) → Type 0
IsSoFar g given placed before = reading_of g given ≡ record { placed = placed; before = before; ending = AtEnd; rest = [] }

-- these tokens are these good phrases, of which the last one is the last of its kind
abbrev pub IsWhole : {P : Type 0} → Grammar P → List Token → List (Placed P) → Type 0
IsWhole g given placed = reading_of g given ≡ record { placed = placed; before = []; ending = AtLast; rest = [] }
