-- The outcome of the words of vcdkit-compare.
use Rattle.std.specs.Prelude.{List, [], ◌∷◌, Result, Ok, Err}
use Rattle.clap.specs.Words.{Text}
use Rattle.clap.specs.declared.parser.matches.ArgMatches.{ArgMatches}
use Rattle.vcd_model.specs.Compare.{Asked, answer}
use Rattle.vcd_model.specs.Input.{Input}
use Rattle.vcd_model.specs.Outcome.{Outcome, name_at}
use Rattle.vcd_model.specs.Within.{Names, comparison}
use Rattle.vcd_compare_words.specs.Asked.{comparing_asked}

-- the outcome of what words ask for, under a token limit of 1 MiB
abbrev pub outcome_if : Result (Asked × List Names) Text → (names : List Text) → List Input → Outcome
outcome_if (Ok asked) names (i ∷ inputs) = comparison asked.0 1048576 asked.1 (name_at names 0) i
outcome_if (Ok asked) names [] = answer 0 []
outcome_if (Err why) names inputs = record { output = []; message = why; status = 2 }

-- the outcome of the words
abbrev pub outcome_of : ArgMatches → (names : List Text) → List Input → Outcome
outcome_of matches names inputs = outcome_if (comparing_asked matches) names inputs
