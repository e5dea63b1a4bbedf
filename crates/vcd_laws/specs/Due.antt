-- What is due once the first tokens of an input are known: the longest text with which the output
-- begins, whatever follows them. A program that wrote more would be wrong for some input that
-- begins like this. A program that writes less withholds what is known.
use Rattle.std.specs.Prelude.{◌≡◌, ◌≢◌, ◌↔◌, ◌⊎◌, ℕ, IsTrue, cond, List, [], ◌∷◌, ◌++◌, map, Some, None}
use Rattle.std.specs.List.{AllByRecursion}
use Rattle.vcd_model.specs.Input.{Input, Mark}
use Rattle.vcd_model.specs.Tokens.{Token, stream_of}
use Rattle.vcd_model.specs.Header.{Header}
use Rattle.vcd_model.specs.Merge.{Dump}
use Rattle.vcd_model.specs.Outcome.{declarations_allowed, merge_outcome}
use Rattle.vcd_model.specs.Job.{Want, IsJob, outcome}
use Rattle.vcd_model.specs.Due.{due}
use Rattle.vcd_model.specs.Settled.{is_settled}
use Rattle.vcd_model.specs.SettledMerge.{Seen, SeenBody, SeenHeaders, dump_seen, headers_seen, is_at_its_end, is_settled_merge}
use Rattle.vcd_model.specs.SettledMerge.SeenHeaders.{Faulty, NotWhole, Whole}
use Rattle.vcd_model.specs.Laws.{IsPrefixOf}
use Rattle.vcd_laws.specs.Checked.{run_of}
use Rattle.vcd_laws.specs.Final.{BeginsWith, AreSeen, Prefix, first_tokens, IsShort}

-- ---- the laws of one input

-- a job that has one input: any but a merge
abbrev pub IsOverOne : Want → Type 0
IsOverOne want = IsJob want × (want ≢ Want.Merge)

-- what is due with more tokens begins with what is due with fewer
abbrev pub DueGrows : Type 0
DueGrows = (want : Want) (most : ℕ) (ts more : List Token) → IsJob want
    → IsPrefixOf (due want most ts) (due want most (ts ++ more))

-- the output over every input that begins with these tokens begins with what is due with them
abbrev pub DueIsNeverRevised : Type 0
DueIsNeverRevised = (want : Want) (limit : ℕ) (name : List ℕ) (ts : List Token) (input : Input)
    → IsOverOne want → BeginsWith limit input ts
    → IsPrefixOf (due want declarations_allowed ts) (run_of want limit name input).output

-- if reading is halted after the tokens of an input, as by a failed read, the output is what is due
-- with them
abbrev pub DueIsLeftAtAHalt : Type 0
DueIsLeftAtAHalt = (want : Want) (limit : ℕ) (name : List ℕ) (input : Input)
    → IsOverOne want → (stream_of limit input).halt ≢ None
    → (run_of want limit name input).output
    ≡ due want declarations_allowed (stream_of limit input).tokens

-- A text begins the output over every input that begins with these tokens if and only if it begins
-- what is due with them: so what is due is the longest such text. The inputs may end, go on or fail
-- after these tokens.
abbrev pub DueIsAllThatIsKnown : Type 0
DueIsAllThatIsKnown = (want : Want) (limit : ℕ) (name : List ℕ) (f : Prefix) (text : List ℕ)
    → IsOverOne want → IsShort limit f
    → ((input : Input) → BeginsWith limit input (first_tokens f)
    → IsPrefixOf text (run_of want limit name input).output)
    ↔ IsPrefixOf text (due want declarations_allowed (first_tokens f))

-- if these tokens settle the run, the output over every input that begins with them is what is due
-- with them
abbrev pub SettledDueIsAll : Type 0
SettledDueIsAll = (want : Want) (limit : ℕ) (name : List ℕ) (ts : List Token) (input : Input)
    → IsOverOne want → IsTrue (is_settled want declarations_allowed ts) → BeginsWith limit input ts
    → (run_of want limit name input).output ≡ due want declarations_allowed ts

-- ---- the inputs of a merge

-- an input as far as it is known: if more of it may come, its source fails there
abbrev pub dump_cut_off : List Header → SeenBody → Dump
dump_cut_off hs s =
    let d = dump_seen hs s in
    cond (is_at_its_end s d) d (record { header = d.header; items = d.items; fault = Some (record { number = 31; line = 1 }) })

-- by what is known of the headers: nothing is due if one has a fault, or before all are whole, and
-- then what a merge of these inputs writes
abbrev pub due_by_headers : SeenHeaders → List ℕ
due_by_headers Faulty = []
due_by_headers NotWhole = []
due_by_headers (Whole ss) = (merge_outcome [] (map (dump_cut_off (map (λ s. s.header) ss)) ss)).output

-- What is due once this is known of the inputs of a merge.
unfoldable pub due_of_merge : List Seen → List ℕ
due_of_merge seen = due_by_headers (headers_seen [] seen)

-- ---- the laws of a merge

-- the output over all inputs of which this is true begins with what is due
abbrev pub MergeDueIsNeverRevised : Type 0
MergeDueIsNeverRevised = (limit : ℕ) (names : List (List ℕ)) (seen : List Seen) (inputs : List Input)
    → AreSeen limit seen inputs
    → IsPrefixOf (due_of_merge seen) (outcome Want.Merge limit names inputs).output

-- the source gives no more than is known of its input: reading is halted after the known tokens, or
-- all that it gives is known
abbrev pub GivesNoMore : ℕ → Seen → Input → Type 0
GivesNoMore limit (Seen.First ts) input =
    ((stream_of limit input).tokens ≡ ts) × ((stream_of limit input).halt ≢ None)
GivesNoMore limit (Seen.All stream) input = stream_of limit input ≡ stream

-- no source gives more than is known of its input, for each input in order
abbrev pub GiveNoMore : ℕ → List Seen → List Input → Type 0
GiveNoMore limit [] [] = Unit {0}
GiveNoMore limit [] (input ∷ inputs) = ⊥
GiveNoMore limit (s ∷ ss) [] = ⊥
GiveNoMore limit (s ∷ ss) (input ∷ inputs) = GivesNoMore limit s input × GiveNoMore limit ss inputs

-- if no source gives more than is known of its input, the output is what is due
abbrev pub MergeDueIsLeftAtHalts : Type 0
MergeDueIsLeftAtHalts = (limit : ℕ) (names : List (List ℕ)) (seen : List Seen) (inputs : List Input)
    → GiveNoMore limit seen inputs
    → (outcome Want.Merge limit names inputs).output ≡ due_of_merge seen

-- what can be known of an input: first tokens of a text, or all that a source gives, which may fail
abbrev pub CanBeKnown : ℕ → Seen → Type 0
CanBeKnown limit (Seen.First ts) = (f : Prefix) × IsShort limit f × (ts ≡ first_tokens f)
CanBeKnown limit (Seen.All stream) = (input : Input) × (stream_of limit input ≡ stream)

-- a text begins the output over all inputs of which this is true if and only if it begins what is
-- due: so what is due is the longest such text
abbrev pub MergeDueIsAllThatIsKnown : Type 0
MergeDueIsAllThatIsKnown = (limit : ℕ) (names : List (List ℕ)) (seen : List Seen) (text : List ℕ)
    → AllByRecursion (CanBeKnown limit) seen
    → ((inputs : List Input) → AreSeen limit seen inputs
    → IsPrefixOf text (outcome Want.Merge limit names inputs).output)
    ↔ IsPrefixOf text (due_of_merge seen)

-- the second says at least as much of an input as the first
abbrev pub IsMore : Seen → Seen → Type 0
IsMore (Seen.First ts) (Seen.First us) = IsPrefixOf ts us
IsMore (Seen.First ts) (Seen.All stream) = IsPrefixOf ts stream.tokens
IsMore (Seen.All stream) (Seen.First us) = ⊥
IsMore (Seen.All stream) (Seen.All other) = other ≡ stream

-- the second says at least as much as the first of each input, in order
abbrev pub AreMore : List Seen → List Seen → Type 0
AreMore [] [] = Unit {0}
AreMore [] (m ∷ more) = ⊥
AreMore (s ∷ seen) [] = ⊥
AreMore (s ∷ seen) (m ∷ more) = IsMore s m × AreMore seen more

-- what is due if more is known begins with what is due if less is
abbrev pub MergeDueGrows : Type 0
MergeDueGrows = (limit : ℕ) (seen more : List Seen) → AllByRecursion (CanBeKnown limit) more
    → AreMore seen more → IsPrefixOf (due_of_merge seen) (due_of_merge more)

-- if what is known settles the merge, the output over all inputs of which it is true is what is due
abbrev pub SettledMergeDueIsAll : Type 0
SettledMergeDueIsAll = (limit : ℕ) (names : List (List ℕ)) (seen : List Seen) (inputs : List Input)
    → IsTrue (is_settled_merge seen) → AreSeen limit seen inputs
    → (outcome Want.Merge limit names inputs).output ≡ due_of_merge seen

-- ---- sources that fail

-- the first source gives a prefix of the bytes of the second, and then fails
abbrev pub IsCutOff : Input → Input → Type 0
IsCutOff cut input = (cut.mark ≡ Mark.Failed) × IsPrefixOf cut.bytes input.bytes

-- if a source fails earlier, the output is a prefix of what it would have been
abbrev pub CutOffIsAPrefix : Type 0
CutOffIsAPrefix = (want : Want) (limit : ℕ) (name : List ℕ) (cut input : Input)
    → IsOverOne want → IsCutOff cut input
    → IsPrefixOf (run_of want limit name cut).output (run_of want limit name input).output

-- each of these inputs fails earlier, or is the same
abbrev pub AreCutOff : List Input → List Input → Type 0
AreCutOff [] [] = Unit {0}
AreCutOff [] (input ∷ inputs) = ⊥
AreCutOff (cut ∷ cuts) [] = ⊥
AreCutOff (cut ∷ cuts) (input ∷ inputs) =
    (IsCutOff cut input ⊎ (cut ≡ input)) × AreCutOff cuts inputs

-- if some sources of a merge fail earlier, the output is a prefix of what it would have been
abbrev pub CutOffMergeIsAPrefix : Type 0
CutOffMergeIsAPrefix = (limit : ℕ) (names : List (List ℕ)) (cuts inputs : List Input)
    → AreCutOff cuts inputs
    → IsPrefixOf (outcome Want.Merge limit names cuts).output
    (outcome Want.Merge limit names inputs).output

-- A text begins the output over every input that begins with these bytes if and only if it begins
-- the output of a run whose source gives only them and then fails. So such a run leaves all that
-- was known of the output once they were read, and no more.
abbrev pub CutOffIsAllThatIsKnown : Type 0
CutOffIsAllThatIsKnown = (want : Want) (limit : ℕ) (name text : List ℕ) (cut : Input)
    → IsOverOne want → cut.mark ≡ Mark.Failed
    → ((input : Input) → IsPrefixOf cut.bytes input.bytes
    → IsPrefixOf text (run_of want limit name input).output)
    ↔ IsPrefixOf text (run_of want limit name cut).output

-- the same for a merge, some of whose inputs may have been read to their end
abbrev pub CutOffMergeIsAllThatIsKnown : Type 0
CutOffMergeIsAllThatIsKnown = (limit : ℕ) (names : List (List ℕ)) (text : List ℕ)
    (cuts : List Input)
    → ((inputs : List Input) → AreCutOff cuts inputs
    → IsPrefixOf text (outcome Want.Merge limit names inputs).output)
    ↔ IsPrefixOf text (outcome Want.Merge limit names cuts).output
