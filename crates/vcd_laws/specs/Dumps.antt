-- What is written is a dump.
use Rattle.std.specs.Prelude.{◌≡◌, ℕ, ◌*◌, ◌≤◌, IsFalse, Bool, List, [], ◌∷◌, ◌++◌, length, None, Contains, Ok, ◌^◌, ◌<◌}
use Rattle.std.specs.List.{AllByRecursion}
use Rattle.vcd_model.specs.Input.{Input, Mark}
use Rattle.vcd_model.specs.Declarations.{IdCode}
use Rattle.vcd_model.specs.Header.{Header}
use Rattle.vcd_model.specs.History.{value_at}
use Rattle.vcd_model.specs.Ticks.{Moment, moment_ticks}
use Rattle.vcd_model.specs.Merge.{Dump, factor, headers_of, first_fault}
use Rattle.vcd_model.specs.Outcome.{Outcome, Opened, declarations_allowed, items_in, fault_in, dumps_of}
use Rattle.vcd_model.specs.Job.{Want, IsJob, outcome}
use Rattle.vcd_model.specs.Laws.{renamed_code}
use Rattle.vcd_laws.specs.KeptValues.{Opens, OpenAll, written_by}
use Rattle.vcd_laws.specs.Heads.{most_declared, IsHeadFor, IsShallow, IsMergedHead, most_merged}

-- an input that gives this text, and ends
abbrev pub input_of : List ℕ → Input
input_of text = record { bytes = text; mark = Mark.Clean }

-- each code of a header is shorter than the token limit, so that a digit before it fits
abbrev pub CodesFit : ℕ → Header → Type 0
CodesFit limit h = (c : IdCode) → Contains h.codes c → length c.text < limit

-- A run over one input, whose header is that of o, has status 0, and its output is within the
-- limits under which it is read again.
pub record IsReadable (want : Want) (limit : ℕ) (name : List ℕ) (input : Input)
    (o : Opened) : Type 0 where
  pub opens : Opens limit input o
  pub clean : (outcome want limit (name ∷ []) (input ∷ [])).status ≡ 0
  pub least : 64 ≤ limit
  pub fits : CodesFit limit o.header
  pub bytes : length (written_by want limit name input) < 2 ^ 63
  pub few : most_declared o.header ≤ declarations_allowed

-- A text is a dump: its head is for these names, its body has no fault and gives each of its codes
-- that is no event the values of an input.
pub record IsDumpFor (limit : ℕ) (o : Opened) (names : List (List ℕ)) (InTime : ℕ → Type 0)
    (text : List ℕ) : Type 0 where
  pub dump : Opened
  pub opens : Opens limit (input_of text) dump
  pub head : IsHeadFor o.header names dump.header
  pub whole : fault_in dump ≡ None
  pub values : (c : IdCode) (t : ℕ) → Contains dump.header.codes c → IsFalse c.event → InTime t
      → value_at (items_in dump) c t ≡ value_at (items_in o) c t

-- the output of a run of `pick` with status 0 is a dump of the selected variables
abbrev pub PickIsADump : Type 0
PickIsADump = (limit : ℕ) (name : List ℕ) (names : List (List ℕ)) (input : Input) (o : Opened)
    → IsReadable (Want.Pick names) limit name input o
    → IsDumpFor limit o names (λ t. Unit {0}) (written_by (Want.Pick names) limit name input)

-- the output of a run of `cut` with status 0 is a dump of all variables, between its times in ticks
abbrev pub CutIsADump : Type 0
CutIsADump = (limit : ℕ) (name : List ℕ) (from to : Moment) (input : Input) (o : Opened)
    → IsJob (Want.Cut from to) → IsReadable (Want.Cut from to) limit name input o
    → (a : ℕ) × (b : ℕ) × (moment_ticks o.header.scale from Bool.true ≡ Ok a)
    × (moment_ticks o.header.scale to Bool.false ≡ Ok b)
    × IsDumpFor limit o [] (λ t. (a ≤ t) × (t ≤ b)) (written_by (Want.Cut from to) limit name input)

-- A run of `merge` has status 0, and its output is within the limits under which it is read again.
pub record AreReadable (limit : ℕ) (names : List (List ℕ)) (inputs : List Input)
    (os : List Opened) : Type 0 where
  pub opens : OpenAll limit inputs os
  pub clean : (outcome Want.Merge limit names inputs).status ≡ 0
  pub least : 64 ≤ limit
  pub shallow : AllByRecursion IsShallow (headers_of (dumps_of os))
  pub bytes : length (outcome Want.Merge limit names inputs).output < 2 ^ 63
  pub few : most_merged (headers_of (dumps_of os)) ≤ declarations_allowed

-- A text is a dump that declares all variables of all inputs; its body has no fault and gives the
-- new codes the values of the old ones at scaled times.
pub record IsMergedDump (limit : ℕ) (ds : List Dump) (text : List ℕ) : Type 0 where
  pub dump : Opened
  pub opens : Opens limit (input_of text) dump
  pub head : IsMergedHead (headers_of ds) dump.header
  pub whole : fault_in dump ≡ None
  pub values : (earlier later : List Dump) (d : Dump) → ds ≡ earlier ++ d ∷ later
      → (c : IdCode) (t : ℕ) → Contains d.header.codes c → IsFalse c.event
      → value_at (items_in dump) (renamed_code (headers_of earlier) d.header c)
      (factor (headers_of ds) d.header * t) ≡ value_at d.items c t

-- the output of a run of `merge` with status 0 is a dump of all variables of all inputs, none of
-- which has a fault
abbrev pub MergeIsADump : Type 0
MergeIsADump = (limit : ℕ) (names : List (List ℕ)) (inputs : List Input) (os : List Opened)
    → AreReadable limit names inputs os
    → (first_fault (dumps_of os) ≡ None) × IsMergedDump limit (dumps_of os)
    (outcome Want.Merge limit names inputs).output

-- the outcome of a job over what another job wrote of an input
abbrev pub over_written : Want → Want → ℕ → List ℕ → Input → Outcome
over_written want first limit name input =
    outcome want limit (name ∷ []) (input_of (written_by first limit name input) ∷ [])

-- the outcome of a job over what `merge` wrote of these inputs
abbrev pub over_merged : Want → ℕ → List ℕ → List (List ℕ) → List Input → Outcome
over_merged want limit name names inputs =
    outcome want limit (name ∷ []) (input_of (outcome Want.Merge limit names inputs).output ∷ [])
