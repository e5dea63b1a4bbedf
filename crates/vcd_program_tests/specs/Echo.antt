-- What the program `echo` says of itself.
use Rattle.std.specs.Prelude.{◌≡◌, ℕ, true, List, codes, Option, Some, None, Result, Ok, Err, string_bytes}
use Rattle.clap.specs.Words.{App, Rule, Text, first_value, found_of, new_app, new_rule, with_rule}
use Rattle.clap.specs.declared.parser.matches.ArgMatches.{ArgMatches}
use Rattle.vcd_model.specs.Bytes.{as_line}
use Rattle.vcd_model.specs.Outcome.{Outcome, clean_outcome}
use Rattle.vcd_model.specs.Words as model
use Rattle.vcd_text.specs.Device.{Device}
use Rattle.vcd_words.specs.declared.job.UseFault.{UseFault}
use Rattle.vcd_words.specs.declared.job.UseFault.TheVariants.{BadWords, OutOfMemory}
use Rattle.vcdkit.specs.Run.{IsOutcome}
use Rattle.vcd_program_tests.specs.declared.echo.Line.{Line}

-- its name
abbrev pub echo_name : Text
echo_name = codes "echo"

-- one argument, which has to be there
abbrev pub word_rule : Rule
word_rule = record (new_rule (codes "word")) { value_names = 1; required = true }

abbrev pub echo_app : App
echo_app = with_rule (new_app echo_name) word_rule

-- the argument
abbrev pub word_of : ArgMatches → Option Text
word_of matches = first_value (found_of matches) (codes "word")

-- the job is the argument; without one the words are bad
abbrev pub Asks : ArgMatches → Result Line UseFault → Type 0
Asks matches (Ok line) = word_of matches ≡ Some (string_bytes line.text)
Asks matches (Err BadWords) = word_of matches ≡ None
Asks matches (Err OutOfMemory) = (word : Text) × (word_of matches ≡ Some word)
Asks matches (Err other) = ⊥

-- the argument as a line
abbrev pub outcome_of : Option Text → Outcome
outcome_of (Some word) = clean_outcome (as_line word)
outcome_of None = model.use_outcome model.UseFault.BadWords

-- however its inputs are: it reads none, and leaves the line
abbrev pub Ends : Line → (before after : List ℕ) → (out out' err err' : Device) → (status : ℕ) → Type 0
Ends line before after out out' err err' status = (after ≡ before) × IsOutcome echo_name (clean_outcome (as_line (string_bytes line.text))) out out' err err' status
