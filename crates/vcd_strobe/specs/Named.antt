-- The clocks of names.
use Rattle.std.specs.Prelude.{◌≡◌, ℕ, ◌+◌, ◌&&◌, ◌||◌, nat_eq, not, Bool, true, false, List, [], ◌∷◌, ◌++◌, bytes_eq, codes, slice_get, Option, Some, None, string_bytes, Result, Ok, Err}
use Rattle.std.specs.List.{list_any, starts_with}
use Rattle.vcd_model.specs.Compare.{Kind, kind_of}
use Rattle.vcd_model.specs.Declarations.{Declaration, Variable, path_of}
use Rattle.vcd_model.specs.Header.{Header}
use Rattle.vcd_model.specs.Selection.{is_variable}
use Rattle.vcd_model.specs.Strobe.{Clock as ModelClock, ClockName as ModelClockName, NoClock as ModelNoClock, bit_of, clock_of, clocks_of, no_clock, no_clock_text, place_in, variables_at}
use Rattle.vcd_strobe.specs.Clocks.{AreClocks, IsClock}
use Rattle.vcd_strobe.specs.declared.clocks.Clock.{Clock}
use Rattle.vcd_strobe.specs.declared.named.ClockName.{ClockName}
use Rattle.vcd_strobe.specs.declared.named.NoClock.{NoClock}
use Rattle.vcd_strobe.specs.declared.named.NoClock.TheVariants.{Missing, Several, Event, Real, Wide, High}

-- what names a clock, as the definitions have it
abbrev pub model_name : ClockName → ModelClockName
model_name name = record { word = string_bytes name.word; path = string_bytes name.path; place = name.place; falls = name.falls }

-- why there is none, as the definitions have it
abbrev pub model_why : NoClock → ModelNoClock
model_why Missing = ModelNoClock.Missing
model_why Several = ModelNoClock.Several
model_why Event = ModelNoClock.AnEvent
model_why Real = ModelNoClock.AReal
model_why (Wide size) = ModelNoClock.Wide size
model_why (High size) = ModelNoClock.High size

-- a declaration that has these before it is a variable, and has this path
abbrev pub has_path : List Declaration → List ℕ → Declaration → Bool
has_path earlier path d = is_variable d && bytes_eq (path_of earlier d) path

-- one of these variables has another code than this one
abbrev pub has_other : Variable → List Variable → Bool
has_other v vs = list_any (λ u. not (bytes_eq u.code v.code)) vs

-- this is the row of the first of these variables, which are of one path, and all have its code; or
-- there is none
abbrev pub IsFirst : Header → List Variable → Option ℕ → Type 0
IsFirst h vs None = vs ≡ []
IsFirst h vs (Some row) = (v : Variable) × (rest : List Variable) × (slice_get h.declarations row ≡ Some (Declaration.Var v)) × (vs ≡ v ∷ rest) × (has_other v rest ≡ false)

-- the same of all variables with a path, unless they have different codes
abbrev pub FindsRow : Header → List ℕ → Result (Option ℕ) NoClock → Type 0
FindsRow h path (Ok found) = IsFirst h (variables_at h path) found
FindsRow h path (Err why) = (why ≡ Several) × (v : Variable) × (rest : List Variable) × (variables_at h path ≡ v ∷ rest) × (has_other v rest ≡ true)

-- the type is that of a real number
abbrev pub is_real : Variable → Bool
is_real v = starts_with nat_eq v.type (codes "real") || bytes_eq v.type (codes "shortreal")

-- this is the index from the left of the bit at a place of digits of this size, or there is no such
-- bit
abbrev pub FindsIndex : ℕ → Option ℕ → Result ℕ NoClock → Type 0
FindsIndex size place (Ok index) = (right : ℕ) × (place_in (Kind.Digits size) place ≡ Ok right) × (index + 1 + right ≡ size)
FindsIndex size place (Err why) = place_in (Kind.Digits size) place ≡ Err (model_why why)

-- this is the clock that a result of the definitions is, or why it is none
abbrev pub IsFound : Header → Result ModelClock ModelNoClock → Result Clock NoClock → Type 0
IsFound h asked (Ok c) = (k : ModelClock) × (asked ≡ Ok k) × IsClock h.codes c k
IsFound h asked (Err why) = asked ≡ Err (model_why why)

-- this is the clock that is a bit of a variable
abbrev pub FindsBit : Header → Variable → Option ℕ → (falls : Bool) → Result Clock NoClock → Type 0
FindsBit h v place falls result = IsFound h (bit_of v falls (place_in (kind_of v) place)) result

-- this is the clock of the name
abbrev pub FindsClock : Header → ModelClockName → Result Clock NoClock → Type 0
FindsClock h name result = IsFound h (clock_of h name) result

-- these are the clocks of the names, or this is the index of the first name that is that of no clock,
-- and why
abbrev pub FindsClocks : {A : Type 0} → Header → List ModelClockName → List Clock → Result A (ℕ × NoClock) → Type 0
FindsClocks h names clocks (Ok done) = (no_clock h names ≡ None) × AreClocks h.codes clocks (clocks_of h names)
FindsClocks h names clocks (Err found) = (name : ModelClockName) × (slice_get names found.0 ≡ Some name)
    × (no_clock h names ≡ Some (name.word ++ codes ": " ++ no_clock_text (model_why found.1)))
