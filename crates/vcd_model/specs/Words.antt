-- The words of a command line: what they ask for, or what is wrong with them (profile).
use Rattle.std.specs.Prelude.{ℕ, Bool, true, not, cond, ◌&&◌, ◌==◌, nat_lt, nat_le, List, [], ◌∷◌, ◌++◌, length, map, count_by, codes, Option, Some, None, Result, Ok, Err}
use Rattle.std.specs.List.{slice_split}
use Rattle.std.specs.Str.{byte, bytes_eq}
use Rattle.vcd_model.specs.Bytes.{decimal_value, is_empty}
use Rattle.vcd_model.specs.Input.{Input}
use Rattle.vcd_model.specs.Ticks.{Moment}
use Rattle.vcd_model.specs.Outcome.{Outcome}
use Rattle.vcd_model.specs.Job.{Want, is_number, moment_of, has_unit, do_rise, outcome}

-- a command with its words: names, the times after `--from`, `--to` and `--at`, files
pub data Command : Type 0 where
  Check : Command
  Listing : Command
  Pick : (names : List (List ℕ)) → Command
  Cut : (from to : List ℕ) → Command
  Sample : (at : List ℕ) (names : List (List ℕ)) → Command
  Edges : (names : List (List ℕ)) → Command
  Merge : (files : List (List ℕ)) → Command

-- a command, and the word after `--token-limit` if there is one
pub record Words : Type 0 where
  pub command : Command
  pub limit : Option (List ℕ)

-- what is asked for, and the token limit that it is run with
pub record Job : Type 0 where
  pub want : Want
  pub limit : ℕ

-- why words ask for nothing
pub data UseFault : Type 0 where
  BadWords : UseFault
  BadLimit : (word : List ℕ) → UseFault
  BadTime : (word : List ℕ) → UseFault
  FromAboveTo : UseFault
  NotRising : UseFault
  TooManyFiles : UseFault
  InputTwice : UseFault

-- the text of such a fault
abbrev pub use_text : UseFault → List ℕ
use_text BadWords = codes "bad words"
use_text (BadLimit word) = codes "bad token limit: " ++ word
use_text (BadTime word) = codes "bad time: " ++ word
use_text FromAboveTo = codes "--from is above --to"
use_text NotRising = codes "times must rise"
use_text TooManyFiles = codes "too many files"
use_text InputTwice = codes "standard input twice"

-- no output, and status 2
abbrev pub use_outcome : UseFault → Outcome
use_outcome f = record { output = []; message = use_text f; status = 2 }

-- `pick` has a name, and `merge` a file
abbrev pub has_words : Command → Bool
has_words (Pick names) = not (is_empty names)
has_words (Merge files) = not (is_empty files)
has_words command = true

-- the token limit if no word gives another
abbrev pub default_limit : ℕ
default_limit = 1048576

-- a number of 64 to 16,777,216 bytes
abbrev pub is_limit : List ℕ → Bool
is_limit word = is_number word && nat_le 64 (decimal_value word) && nat_le (decimal_value word) 16777216

-- the token limit that is asked for
abbrev pub limit_of : Option (List ℕ) → Result ℕ UseFault
limit_of None = Ok default_limit
limit_of (Some word) = cond (is_limit word) (Ok (decimal_value word)) (Err (BadLimit word))

-- a time, if there is one, otherwise the fault
abbrev pub time_or : List ℕ → Option Moment → Result Moment UseFault
time_or word (Some m) = Ok m
time_or word None = Err (BadTime word)

-- the time that a word is
abbrev pub time_of : List ℕ → Result Moment UseFault
time_of word = time_or word (moment_of word)

-- one more time before the others
abbrev pub with_time : Result Moment UseFault → Result (List Moment) UseFault → Result (List Moment) UseFault
with_time (Ok m) (Ok ms) = Ok (m ∷ ms)
with_time (Ok m) (Err f) = Err f
with_time (Err f) ms = Err f

-- the times that words are, or the fault of the first that is none
abbrev pub times_of : List (List ℕ) → Result (List Moment) UseFault
times_of [] = Ok []
times_of (word ∷ words) = with_time (time_of word) (times_of words)

-- a cut; if no time has a unit, it does not end before it begins
abbrev pub cut_of : Result Moment UseFault → Result Moment UseFault → Result Want UseFault
cut_of (Ok from) (Ok to) = cond (not (has_unit (from ∷ to ∷ [])) && nat_lt to.number from.number) (Err FromAboveTo) (Ok (Want.Cut from to))
cut_of (Ok from) (Err f) = Err f
cut_of (Err f) to = Err f

-- a sample; if no time has a unit, the times rise
abbrev pub sample_of : List (List ℕ) → Result (List Moment) UseFault → Result Want UseFault
sample_of names (Ok times) = cond (not (has_unit times) && not (do_rise (map (λ m. m.number) times))) (Err NotRising) (Ok (Want.Sample times names))
sample_of names (Err f) = Err f

-- the file of this name is standard input
abbrev pub is_standard_input : List ℕ → Bool
is_standard_input file = bytes_eq file (codes "-")

-- a merge; it has at most 64 files, and standard input is at most one of them
abbrev pub merge_of : List (List ℕ) → Result Want UseFault
merge_of files = cond (nat_lt 64 (length files)) (Err TooManyFiles) (cond (nat_lt 1 (count_by is_standard_input files)) (Err InputTwice) (Ok Want.Merge))

-- what a command asks for; the times of a sample have commas between them
abbrev pub want_of : Command → Result Want UseFault
want_of Check = Ok Want.Check
want_of Listing = Ok Want.Listing
want_of (Pick names) = Ok (Want.Pick names)
want_of (Cut from to) = cut_of (time_of from) (time_of to)
want_of (Sample at names) = sample_of names (times_of (slice_split (λ b. b == byte ",") at))
want_of (Edges names) = Ok (Want.Edges names)
want_of (Merge files) = merge_of files

-- a limit and what is asked for; a bad limit counts first
abbrev pub job_with : Result ℕ UseFault → Result Want UseFault → Result Job UseFault
job_with (Ok limit) (Ok want) = Ok (record { want = want; limit = limit })
job_with (Ok limit) (Err f) = Err f
job_with (Err f) want = Err f

-- what words ask for, or the first of their faults; there may be no command
unfoldable pub job_of : Option Words → Result Job UseFault
job_of None = Err BadWords
job_of (Some words) = cond (has_words words.command) (job_with (limit_of words.limit) (want_of words.command)) (Err BadWords)

-- output, message and status of a command line, of inputs with these names
unfoldable pub command_outcome : Option Words → List (List ℕ) → List Input → Outcome
command_outcome words names inputs = elim (job_of words) [ Err f ↦ use_outcome f | Ok job ↦ outcome job.want job.limit names inputs ]
