-- Which inputs words ask for.
use Rattle.std.specs.Prelude.{Bool, cond, List, [], ◌∷◌, map, Option, Some, None, option_and_then, option_map, unwrap_or}
use Rattle.clap.specs.Words.{Text}
use Rattle.clap.specs.declared.parser.matches.ArgMatches.{ArgMatches}
use Rattle.vcd_model.specs.Words.{Command, is_standard_input}
use Rattle.vcd_words.specs.Words.{command_used, files_asked, input_asked}

-- the input that a word for a file names; standard input has no name
abbrev pub input_named : Text → Option Text
input_named word = cond (is_standard_input word) None (Some word)

-- the inputs of a command: of a merge those of its words, in their order; of any other that of its
-- word, or standard input if there is none
abbrev pub inputs_of : Command → (file : Option Text) → List (Option Text)
inputs_of (Command.Merge files) file = map input_named files
inputs_of command file = option_and_then input_named file ∷ []

-- those that matches ask for
abbrev pub inputs_asked : ArgMatches → List (Option Text)
inputs_asked matches = unwrap_or (option_map (λ command. inputs_of command (input_asked matches)) (command_used matches)) []

-- those of a merge, and those of any other job
abbrev pub inputs_for : (merge : Bool) → ArgMatches → List (Option Text)
inputs_for merge matches = cond merge (map input_named (files_asked matches)) (option_and_then input_named (input_asked matches) ∷ [])
