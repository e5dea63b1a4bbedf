-- Inputs that are opened one by one, their names, and why some are not opened.
use Rattle.std.specs.Prelude.{◌≡◌, ◌⊎◌, ℕ, List, [], ◌∷◌, ◌++◌, codes, map, string_bytes, String, Option, Some, None, option_map, Result, Ok, Err}
use Rattle.std.specs.Borrow.{Bor}
use Rattle.clap.specs.Words.{Text}
use Rattle.vcd_host.specs.declared.host.OpenFault.{OpenFault}
use Rattle.vcd_host.specs.declared.host.OpenFault.TheVariants as fault
use Rattle.vcd_host.specs.declared.opened.OpenStop.{OpenStop}
use Rattle.vcd_host.specs.declared.opened.OpenStop.TheVariants as stop

-- what an input is called in a message; standard input has no name
abbrev pub called : Option Text → Text
called None = codes "(stdin)"
called (Some name) = name

-- a borrowed name as text
abbrev pub text_of : Option (Bor Text) → Option Text
text_of name = option_map (λ text. text.now) name

-- one more name was added to the names of the inputs
abbrev pub AddsOne : {A : Type 0} → Option (Bor Text) → List (String A) → List (String A) → Type 0
AddsOne name old new = map string_bytes new ≡ map string_bytes old ++ called (text_of name) ∷ []

-- In what follows `opens` says what a call of `open` may return for a name, and what it leaves of
-- the host.

-- the inputs of these names were opened, one by one in this order, and no others
abbrev pub Opens : {H I : Type 0} → (H → Option Text → Result I OpenFault → H → Type 0) → H → List (Option Text) → List I → H → Type 0
Opens {H} {I} opens host [] [] after = after ≡ host
Opens {H} {I} opens host (name ∷ names) (input ∷ inputs) after = (next : H) × opens host name (Ok input) next × Opens opens next names inputs after
Opens {H} {I} opens host names inputs after = ⊥

-- one more input was opened, of which no read has failed
abbrev pub OpensOne : {H I : Type 0} → (H → Option Text → Result I OpenFault → H → Type 0) → (I → ℕ) → Option Text → (host host' : H) → (inputs inputs' : List I) → Type 0
OpensOne {H} {I} opens failures name host host' inputs inputs' = (input : I) × opens host name (Ok input) host' × (failures input ≡ 0) × (inputs' ≡ inputs ++ input ∷ [])

-- why one more was not: it cannot be opened; or memory ran out, after it was opened or while it was
abbrev pub StopsAt : {H I : Type 0} → (H → Option Text → Result I OpenFault → H → Type 0) → Option Text → (host host' : H) → OpenStop → Type 0
StopsAt {H} {I} opens name host host' (stop.Unopened said) = (text_of said ≡ name) × opens host name (Err fault.Unopened) host'
StopsAt {H} {I} opens name host host' stop.OutOfMemory = ((input : I) × opens host name (Ok input) host') ⊎ opens host name (Err fault.OutOfMemory) host'

-- of the inputs of these names this one cannot be opened; those before it were opened, and none
-- after it
abbrev pub OpensUpTo : {H I : Type 0} → (H → Option Text → Result I OpenFault → H → Type 0) → List (Option Text) → Option Text → (host host' : H) → Type 0
OpensUpTo {H} {I} opens names name host host' =
    (before after : List (Option Text)) × (names ≡ before ++ name ∷ after) × (inputs : List I) × (next : H) × Opens opens host before inputs next × opens next name (Err fault.Unopened) host'

-- some first ones of the inputs of these names were opened, and then memory ran out, maybe while
-- the next one was
abbrev pub OpensSome : {H I : Type 0} → (H → Option Text → Result I OpenFault → H → Type 0) → List (Option Text) → (host host' : H) → Type 0
OpensSome {H} {I} opens names host host' =
    (before after : List (Option Text)) × (names ≡ before ++ after) × (inputs : List I) × (next : H) × Opens opens host before inputs next
    × ((host' ≡ next) ⊎ ((name : Option Text) × (rest : List (Option Text)) × (after ≡ name ∷ rest) × opens next name (Err fault.OutOfMemory) host'))

-- why not all inputs were opened
abbrev pub StopsAmong : {H I : Type 0} → (H → Option Text → Result I OpenFault → H → Type 0) → List (Option Text) → (host host' : H) → OpenStop → Type 0
StopsAmong {H} {I} opens names host host' (stop.Unopened said) = OpensUpTo opens names (text_of said) host host'
StopsAmong {H} {I} opens names host host' stop.OutOfMemory = OpensSome opens names host host'
