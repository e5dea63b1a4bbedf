-- What any program leaves of a job that was run: its outcome over what was read, and the lines for
-- what can go wrong besides.
use Rattle.std.specs.Prelude.{◌≡◌, ℕ, Bool, true, false, List, [], ◌∷◌, codes, map, Option, Some, Result, Ok}
use Rattle.clap.specs.Words.{Text}
use Rattle.clap.specs.declared.parser.matches.ArgMatches.{ArgMatches}
use Rattle.vcd_model.specs.Input.{Input}
use Rattle.vcd_model.specs.Outcome.{Outcome}
use Rattle.vcd_text.specs.Answer.{whole}
use Rattle.vcd_text.specs.Device.{Device, Supply, Writes, supply}
use Rattle.vcd_text.specs.declared.device.Sink.{Ghosts as Sinks}
use Rattle.vcd_text.specs.declared.device.Source.{Ghosts as Sources}
use Rattle.vcd_body.specs.Answer.{IsLeft}
use Rattle.vcd_words.specs.declared.job.UseFault.{UseFault}
use Rattle.vcd_words.specs.declared.job.UseFault.TheVariants.{OutOfMemory}
use Rattle.vcdkit.specs.Message.{Tells}
use Rattle.vcdkit.specs.Run.{IsOutcome, NoneFailed}
use Rattle.vcd_host.specs.Opens.{called}

-- ---- memory

-- nothing on the output, this message of the program of this name, and status 3
abbrev pub Fails : (program text : Text) → (out out' err err' : Device) → ℕ → Type 0
Fails program text out out' err err' status = Writes out out' [] × Tells program err err' text × (status ≡ 3)

-- the outcome if memory ran out
abbrev pub memory_outcome : Outcome
memory_outcome = record { output = []; message = codes "out of memory"; status = 3 }

-- the outcome of words with this fault, if it is not of memory, which is no fault of words
abbrev pub IsRefusal : UseFault → (of_words of_fault : Outcome) → Type 0
IsRefusal OutOfMemory of_words of_fault = Unit {0}
IsRefusal fault of_words of_fault = of_words ≡ of_fault

-- ---- a job

-- `asks` says what a program may make of matches, and `inputs` which inputs they name: some matches
-- ask for this job over inputs with these names
abbrev pub IsAsked : {J : Type 0} → (asks : ArgMatches → Result J UseFault → Type 0) → (inputs : ArgMatches → List (Option Text)) → J → (names : List Text) → Type 0
IsAsked asks inputs job names = (matches : ArgMatches) × asks matches (Ok job) × (names ≡ map called (inputs matches))

-- The inputs that are left of readers with these texts, one by one: all of a text; or, if a read
-- failed, what the reader gave until then.
abbrev pub AreLeft : (texts : List Text) → (old new : List Supply) → List Input → Type 0
AreLeft [] old new inputs = inputs ≡ []
AreLeft (text ∷ texts) [] new inputs = ⊥
AreLeft (text ∷ texts) (s ∷ old) [] inputs = ⊥
AreLeft (text ∷ texts) (s ∷ old) (t ∷ new) [] = ⊥
AreLeft (text ∷ texts) (s ∷ old) (t ∷ new) (i ∷ inputs) = IsLeft (whole text) s t i × AreLeft texts old new inputs

-- Over readers with these texts, of the program of this name: the outcome that is due for what is left of each; or nothing if
-- memory ran out, and then no read failed. `Reads` says how far they were read and when, for an
-- outcome and if memory ran out.
pub data Leaves (program : Text) (due : List Input → Outcome) (Reads : (ended : Bool) → (texts : List Text) → (old new : List Supply) → List Input
    → (out out' : Device) → Type 0) (texts : List Text) (old new : List Supply) (out out' err err' : Device) (status : ℕ) : Type 0 where
  WithOutcome : (inputs : List Input) (left : AreLeft texts old new inputs) (read : Reads true texts old new inputs out out')
      (leaves : IsOutcome program (due inputs) out out' err err' status) → Leaves program due Reads texts old new out out' err err' status
  NoMemory : (inputs : List Input) (left : AreLeft texts old new inputs) (read : Reads false texts old new inputs out out')
      (same : NoneFailed old new) (fails : Fails program (codes "out of memory") out out' err err' status)
      → Leaves program due Reads texts old new out out' err err' status

-- the same for any matches that ask for the job, as far as readers and sinks describe themselves
abbrev pub LeavesOf : {J X W E : Type 0} → (program : Text) → (asks : ArgMatches → Result J UseFault → Type 0)
    → (outcome : ArgMatches → List Text → List Input → Outcome) → (reads : J → Bool → List Text → (old new : List Supply) → List Input
    → (out out' : Device) → Type 0)
    → Sources X → Sinks W → Sinks E → J → (names : List Text) → (old new : List X) → (out out' : W) → (err err' : E) → ℕ → Type 0
LeavesOf program asks outcome reads s w e job names old new out out' err err' status = (matches : ArgMatches) → asks matches (Ok job)
    → (texts : List Text) → map s.rest old ≡ map (λ text. Some text) texts
    → Leaves program (outcome matches names) (reads job) texts (map (supply s.rest s.failures) old) (map (supply s.rest s.failures) new)
    (w.device out) (w.device out') (e.device err) (e.device err') status
