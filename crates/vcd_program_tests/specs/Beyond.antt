-- What callers rely on of vcdkit-compare and vcdkit-strobe, over a process and in memory.
use Rattle.std.specs.Prelude.{◌≡◌, ◌≢◌, ◌⊎◌, ◌≤◌, ℕ, true, List, [], ◌∷◌, codes, Option, Some, None, option_and_then, Ok, Err}
use Rattle.clap.specs.Words.{App, HasMatchesOf, IsAmong, Text, fault_of, takes}
use Rattle.clap.specs.declared.error.kind.ErrorKind.{ErrorKind}
use Rattle.clap.specs.declared.error.kind.ErrorKind.TheVariants as kind
use Rattle.clap.specs.declared.parser.matches.ArgMatches.{ArgMatches}
use Rattle.vcd_model.specs.Input.{Input}
use Rattle.vcd_model.specs.Outcome.{Outcome}
use Rattle.vcd_model.specs.Strobe.{strobe}
use Rattle.vcd_model.specs.Within.{comparison}
use Rattle.vcd_text.specs.Answer.{whole}
use Rattle.vcd_words.specs.Matches.{file_asked}
use Rattle.vcd_compare_words.specs.Asked.{Asks as ComparingAsks, comparing_asked}
use Rattle.vcd_compare_words.specs.Words.{compare_app}
use Rattle.vcd_compare_words.specs.declared.job.Comparing.{Comparing}
use Rattle.vcdkit_compare.specs.Program.{outcome_of as compare_outcome}
use Rattle.vcdkit_compare.specs.Calls.{speech_in as compare_speech}
use Rattle.vcdkit_compare.specs.Work.{work_in as compare_work}
use Rattle.vcd_strobe_words.specs.Asked.{Asks as StrobingAsks, strobe_asked}
use Rattle.vcd_strobe_words.specs.Words.{strobe_app}
use Rattle.vcd_strobe_words.specs.declared.strobing.Strobing.{Strobing}
use Rattle.vcdkit_strobe.specs.Program.{outcome_of as strobe_outcome}
use Rattle.vcdkit_strobe.specs.Calls.{speech_in as strobe_speech}
use Rattle.vcdkit_strobe.specs.Work.{work_in as strobe_work}
use Rattle.vcdkit.specs.Message.{unopened_outcome}
use Rattle.vcd_host.specs.Asked.{input_named}
use Rattle.vcd_host.specs.Opens.{called}
use Rattle.vcd_program.specs.Memory.{End, IsAnswered, IsLeft, IsOutOfMemory, bytes_among}
use Rattle.vcd_program.specs.declared.memory.MemoryFile.{MemoryFile}
use Rattle.vcd_program_tests.specs.Relies.{Told, one_told}

-- ---- over a process

abbrev pub compare_told : Told Comparing
compare_told = one_told (codes "vcdkit-compare") (λ n. n ≤ 1) compare_speech compare_work (λ job. 1048576) compare_app ComparingAsks compare_outcome

abbrev pub strobe_told : Told Strobing
strobe_told = one_told (codes "vcdkit-strobe") (λ n. n ≡ 0) strobe_speech strobe_work (λ job. job.limit) strobe_app StrobingAsks strobe_outcome

-- ---- in memory

-- the name of the input; standard input has none
abbrev pub input_of : ArgMatches → Option Text
input_of matches = option_and_then input_named (file_asked matches)

-- What a program of this name left of words that it parses so: the outcome that is due for the
-- words and the bytes of their input, or the line that this is missing; what is said of words that
-- are refused; a text of `clap`; or `out of memory`.
pub data Relies (program : Text) (app : App) (IsDue : ArgMatches → (name : Text) → Input → Outcome → Type 0) (IsRefused : ArgMatches → Outcome → Type 0)
    (words : List Text) (files : List MemoryFile) (input : Text) (left : End) : Type 0 where
  Ran : (matches : ArgMatches) (are : HasMatchesOf app words matches) (text : Text) (have : bytes_among files input (input_of matches) ≡ Some text)
      (o : Outcome) (due : IsDue matches (called (input_of matches)) (whole text) o) (leaves : IsLeft program left (input_of matches ∷ []) o)
      → Relies program app IsDue IsRefused words files input left
  Missing : (matches : ArgMatches) (are : HasMatchesOf app words matches) (missing : bytes_among files input (input_of matches) ≡ None)
      (leaves : IsLeft program left (input_of matches ∷ []) (unopened_outcome (called (input_of matches)))) → Relies program app IsDue IsRefused words files input left
  Refused : (matches : ArgMatches) (are : HasMatchesOf app words matches) (o : Outcome) (refused : IsRefused matches o) (leaves : IsLeft program left [] o)
      → Relies program app IsDue IsRefused words files input left
  NoMatches : (why : ErrorKind) (is : (why ≡ kind.OutOfMemory) ⊎ IsAmong why (fault_of app words)) (only : takes app words ≡ true → why ≡ kind.OutOfMemory)
      (other : why ≢ kind.OutOfMemory) (text : Text) (leaves : IsAnswered left why text) → Relies program app IsDue IsRefused words files input left
  NoMemory : (fails : IsOutOfMemory program left) → Relies program app IsDue IsRefused words files input left

-- of vcdkit-compare: the comparison that the words ask for, or the message about their fault
abbrev pub ReliesOnCompare : (words : List Text) → List MemoryFile → (input : Text) → End → Type 0
ReliesOnCompare words files input left = Relies (codes "vcdkit-compare") compare_app
    (λ matches name i o. (asked : _) × (comparing_asked matches ≡ Ok asked) × (o ≡ comparison asked.0 1048576 asked.1 name i))
    (λ matches o. (why : Text) × (comparing_asked matches ≡ Err why) × (o ≡ record { output = []; message = why; status = 2 })) words files input left

-- of vcdkit-strobe: the strobe that the words ask for, or the message about their fault
abbrev pub ReliesOnStrobe : (words : List Text) → List MemoryFile → (input : Text) → End → Type 0
ReliesOnStrobe words files input left = Relies (codes "vcdkit-strobe") strobe_app
    (λ matches name i o. (asked : _) × (strobe_asked matches ≡ Ok asked) × (o ≡ strobe asked.0 asked.1 name i))
    (λ matches o. (why : Text) × (strobe_asked matches ≡ Err why) × (o ≡ record { output = []; message = why; status = 2 })) words files input left
