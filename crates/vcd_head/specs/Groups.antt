-- What holds of a group of names, by its names and their order.
use Rattle.std.specs.Prelude.{ℕ, Bool, List, map, string_bytes}
use Rattle.vcd_head.specs.Matched.{Matches}
use Rattle.vcd_head.specs.NameOrder.{AreShared, Rises, next_bytes}
use Rattle.vcd_head.specs.Runs.{Follows, GoesOn}
use Rattle.vcd_head.specs.declared.names.Group.{Group}
use Rattle.vcd_head.specs.declared.names.NameRun.{NameRun}

-- the bytes of the names of a group
abbrev pub names_of : Group → List (List ℕ)
names_of g = map string_bytes g.names.now

-- the run is that of this front of a path
abbrev pub IsRun : Group → List Bool → (front : List ℕ) → NameRun → Type 0
IsRun g flags front r = Follows (names_of g) g.order.now flags front r

-- the run is that of a longer front, and names that select all after it were flagged
abbrev pub IsRunOn : Group → (old new : List Bool) → (front : List ℕ) → NameRun → Type 0
IsRunOn g old new front r = GoesOn (names_of g) g.order.now old new front r

-- whatever front of a path the first run is of, the second is of this longer one
abbrev pub RunsOn : Group → (old new : List Bool) → NameRun → (longer : List ℕ → List ℕ) → NameRun → Type 0
RunsOn g old new run longer r = (front : List ℕ) → IsRun g old front run → IsRunOn g old new (longer front) r

-- whatever front the run is of, the names that pass the test were flagged, and this is whether
-- there are some
abbrev pub FlagsSome : Group → (old new : List Bool) → NameRun → (test : List ℕ → List ℕ → Bool) → Bool → Type 0
FlagsSome g old new run test some = (front : List ℕ) → IsRun g old front run → Matches (test front) (names_of g) old new some

-- between two indexes of its order the next byte of the names does not decrease
abbrev pub AreRising : Group → ℕ → (first end : ℕ) → Type 0
AreRising g front_len first end = Rises (names_of g) g.order.now front_len first end

-- after this many bytes the name at an index of its order continues with the first of these, this
-- many
abbrev pub GoesOnWith : Group → ℕ → ℕ → List ℕ → ℕ → Type 0
GoesOnWith g front_len i bytes n = AreShared (next_bytes (names_of g) g.order.now front_len i) bytes n
