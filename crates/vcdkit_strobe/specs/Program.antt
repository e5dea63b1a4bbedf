-- The outcome of the words of vcdkit-strobe.
use Rattle.std.specs.Prelude.{ℕ, List, [], ◌∷◌, Result, Ok, Err}
use Rattle.clap.specs.Words.{Text}
use Rattle.clap.specs.declared.parser.matches.ArgMatches.{ArgMatches}
use Rattle.vcd_model.specs.Input.{Input}
use Rattle.vcd_model.specs.Outcome.{Outcome, clean_outcome, name_at}
use Rattle.vcd_model.specs.Strobe.{Strobe, strobe}
use Rattle.vcd_strobe_words.specs.Asked.{strobe_asked}

-- the outcome of what words ask for, under their token limit
abbrev pub outcome_if : Result (Strobe × ℕ) Text → (names : List Text) → List Input → Outcome
outcome_if (Ok asked) names (i ∷ inputs) = strobe asked.0 asked.1 (name_at names 0) i
outcome_if (Ok asked) names [] = clean_outcome []
outcome_if (Err why) names inputs = record { output = []; message = why; status = 2 }

-- the outcome of the words
abbrev pub outcome_of : ArgMatches → (names : List Text) → List Input → Outcome
outcome_of matches names inputs = outcome_if (strobe_asked matches) names inputs
