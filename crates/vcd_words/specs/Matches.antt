-- What the matches of a command line without commands have.
use Rattle.std.specs.Prelude.{Bool, false, List, codes, bytes_eq, Option, option_map}
use Rattle.std.specs.Option.{option_map_or}
use Rattle.clap.specs.Words.{Text, first_value, found_of, matched_of, raw_values}
use Rattle.clap.specs.declared.parser.matches.ArgMatches.{ArgMatches}

-- the first word of an argument
abbrev pub word_of : ArgMatches → Text → Option Text
word_of matches id = first_value (found_of matches) id

-- all words of an argument
abbrev pub words_of : ArgMatches → Text → Option (List Text)
words_of matches id = option_map raw_values (matched_of (found_of matches) id)

-- an option without a word was used
abbrev pub is_set : ArgMatches → Text → Bool
is_set matches id = option_map_or (λ word. bytes_eq word (codes "true")) (word_of matches id) false

-- the word for a file; `None` for standard input
abbrev pub file_asked : ArgMatches → Option Text
file_asked matches = word_of matches (codes "input")
