-- If `check` ends well, so does every other command; if it names a fault, the others do too.
use Rattle.std.specs.Prelude.{◌≡◌, ◌≢◌, ◌⊎◌, ℕ, ℤ, ◌≤◌, IsTrue, Bool, List, [], ◌∷◌, ◌++◌, length, map, Option, None, Ok, ◌<◌, Some, sum_by, find}
use Rattle.std.specs.List.{AllByRecursion, list_any}
use Rattle.std.specs.List.Sorted.{IsStrictlyIncreasing}
use Rattle.vcd_model.specs.Input.{Input}
use Rattle.vcd_model.specs.Tokens.{stream_of}
use Rattle.vcd_model.specs.Header.{Header, header_of}
use Rattle.vcd_model.specs.Items.{BodyItem}
use Rattle.vcd_model.specs.Ticks.{Moment, moment_ticks}
use Rattle.vcd_model.specs.Selection.{first_unmatched}
use Rattle.vcd_model.specs.Reading.{phrases_of, Fault, Placed}
use Rattle.vcd_model.specs.BodyPhrases.{BodyPhrase}
use Rattle.vcd_model.specs.HeaderReading.{read_header}
use Rattle.vcd_model.specs.Cut.{ends_cut}
use Rattle.vcd_model.specs.Merge.{placed_is_too_large, factor}
use Rattle.vcd_model.specs.Outcome.{Request, Outcome, Opened, declarations_allowed, items_in, fault_in, ends_early, fault_outcome, body_of, name_at}
use Rattle.vcd_model.specs.Job.{Want, outcome}
use Rattle.vcd_laws.specs.KeptValues.{Opens, OpenAll}

-- the outcome of a job over one input with this name
abbrev pub run_of : Want → ℕ → List ℕ → Input → Outcome
run_of want limit name input = outcome want limit (name ∷ []) (input ∷ [])

-- a run ends well: without a message, with status 0
abbrev pub EndsWell : Outcome → Type 0
EndsWell done = (done.message ≡ []) × (done.status ≡ 0)

-- a run ends with this fault of the input with this name, whatever it wrote before
abbrev pub NamesFault : Outcome → List ℕ → Fault → Type 0
NamesFault done name f = done ≡ fault_outcome done.output name f

-- the times of a sample are these in ticks
abbrev pub AreTicks : Option ℤ → List Moment → List ℕ → Type 0
AreTicks scale times ts = map (λ m. moment_ticks scale m Bool.false) times ≡ map (λ t. Ok t) ts

-- what is asked of one input fits its header: its times are ticks of it and are in order, and each
-- name selects something
abbrev pub Suits : Header → Want → Type 0
Suits h Want.Check = Unit {0}
Suits h Want.Listing = Unit {0}
Suits h (Want.Pick names) = first_unmatched names h.declarations ≡ None
Suits h (Want.Cut from to) =
    (a : ℕ) × (b : ℕ) × (moment_ticks h.scale from Bool.true ≡ Ok a)
    × (moment_ticks h.scale to Bool.false ≡ Ok b) × (a ≤ b)
Suits h (Want.Sample times names) =
    (ts : List ℕ) × AreTicks h.scale times ts × IsStrictlyIncreasing ts
    × (first_unmatched names h.declarations ≡ None)
Suits h (Want.Edges names) = first_unmatched names h.declarations ≡ None
Suits h Want.Merge = Unit {0}

-- a run needs no more than these items: a list needs none, a cut and a sample end at a timestamp
-- above their last time
abbrev pub EndsBefore : Header → List BodyItem → Want → Type 0
EndsBefore h items Want.Listing = Unit {0}
EndsBefore h items (Want.Cut from to) =
    (b : ℕ) × (moment_ticks h.scale to Bool.false ≡ Ok b) × IsTrue (ends_cut b items)
EndsBefore h items (Want.Sample times names) =
    (ts : List ℕ) × AreTicks h.scale times ts
    × IsTrue (list_any (ends_early (Request.Sample ts names)) items)
EndsBefore h items want = ⊥

-- if `check` has status 0, every job that fits the header ends well
abbrev pub CheckedIsSafe : Type 0
CheckedIsSafe = (limit : ℕ) (name : List ℕ) (input : Input)
    → (run_of Want.Check limit name input).status ≡ 0
    → (o : Opened) × Opens limit input o
    × ((want : Want) → Suits o.header want → EndsWell (run_of want limit name input))

-- If `check` has another status, it names a fault that the other commands name too. Each of them
-- names a fault of the header. Each that fits the header names a fault of the body, except those
-- that need no more than the items before it: these end well.
abbrev pub CheckNamesTheFault : Type 0
CheckNamesTheFault = (limit : ℕ) (name : List ℕ) (input : Input)
    → (run_of Want.Check limit name input).status ≢ 0
    → (f : Fault) × NamesFault (run_of Want.Check limit name input) name f
    × (((want : Want) → NamesFault (run_of want limit name input) name f)
    ⊎ ((o : Opened) × Opens limit input o × (fault_in o ≡ Some f)
    × ((want : Want) → Suits o.header want
    → (EndsBefore o.header (items_in o) want × EndsWell (run_of want limit name input))
    ⊎ NamesFault (run_of want limit name input) name f)))

-- if `pick` or `edges` has status 0, `check` ends well
abbrev pub CleanIsChecked : Type 0
CleanIsChecked = (limit : ℕ) (name : List ℕ) (names : List (List ℕ)) (input : Input)
    → ((run_of (Want.Pick names) limit name input).status ≡ 0)
    ⊎ ((run_of (Want.Edges names) limit name input).status ≡ 0)
    → EndsWell (run_of Want.Check limit name input)

-- the header of an input that is the only one
abbrev pub header_in : ℕ → Input → Header
header_in limit input =
    header_of (phrases_of (read_header declarations_allowed (stream_of limit input)).placed)

-- the first timestamp of an input that is too large in the merge of these
abbrev pub first_too_large : List Opened → Opened → Option (Placed BodyPhrase)
first_too_large os o =
    find (placed_is_too_large (factor (map (λ p. p.header) os) o.header)) (body_of o).placed

-- an input has a timestamp that is too large in the merge, and the run names the first of them
pub record NamesTooLarge (os : List Opened) (names : List (List ℕ)) (done : Outcome) : Type 0 where
  pub earlier : List Opened
  pub input : Opened
  pub later : List Opened
  pub inputs : os ≡ earlier ++ input ∷ later
  pub mark : Placed BodyPhrase
  pub first : first_too_large os input ≡ Some mark
  pub named : NamesFault done (name_at names (length earlier))
      (record { number = 20; line = mark.line })

-- if `check` of each input has status 0, and all have no more declarations than may be read in a
-- run, `merge` ends well, or names a timestamp that is too large if there is one
abbrev pub CheckedMergeIsSafe : Type 0
CheckedMergeIsSafe = (limit : ℕ) (name : List ℕ) (names : List (List ℕ)) (inputs : List Input)
    → AllByRecursion (λ i. (run_of Want.Check limit name i).status ≡ 0) inputs
    → sum_by (λ i. length (header_in limit i).declarations) inputs ≤ declarations_allowed
    → (os : List Opened) × OpenAll limit inputs os
    × ((AllByRecursion (λ o. first_too_large os o ≡ None) os
    × EndsWell (outcome Want.Merge limit names inputs))
    ⊎ NamesTooLarge os names (outcome Want.Merge limit names inputs))

-- the run of a merge names the fault that `check` names of one of these inputs
pub record NamesFaultOfOne (limit : ℕ) (name : List ℕ) (names : List (List ℕ)) (inputs : List Input)
    (done : Outcome) : Type 0 where
  pub earlier : List Input
  pub input : Input
  pub later : List Input
  pub parts : inputs ≡ earlier ++ input ∷ later
  pub fault : Fault
  pub checked : NamesFault (run_of Want.Check limit name input) name fault
  pub named : NamesFault done (name_at names (length earlier)) fault

-- if inputs have fewer declarations in all than may be read in a run, their merge ends well, or
-- names what `check` names of one of them, or names a timestamp that is too large if there is one
abbrev pub MergeNamesTheFault : Type 0
MergeNamesTheFault = (limit : ℕ) (name : List ℕ) (names : List (List ℕ)) (inputs : List Input)
    → sum_by (λ i. length (header_in limit i).declarations) inputs < declarations_allowed
    → EndsWell (outcome Want.Merge limit names inputs)
    ⊎ (NamesFaultOfOne limit name names inputs (outcome Want.Merge limit names inputs)
    ⊎ ((os : List Opened) × OpenAll limit inputs os
    × NamesTooLarge os names (outcome Want.Merge limit names inputs)))
