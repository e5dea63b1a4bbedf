-- The words of the command line: how they are read, and what they ask for.
use Rattle.std.specs.Prelude.{◌≡◌, ℕ, Bool, true, false, cond, List, [], ◌∷◌, ◌++◌, map, codes, Option, Some, None, option_map, option_and_then, unwrap_or, Result, Ok, Err, IfErr, IfOk}
use Rattle.std.specs.Borrow.{Bor}
use Rattle.std.specs.Str.{bytes_eq}
use Rattle.clap.specs.Lexer.{usize_max}
use Rattle.clap.specs.Words.{App, Rule, Text, all_of, app_of, first_of, is_broken, new_app, new_rule, rule_of, subcommand_name_of, subcommand_rows_of, with_rule, with_subcommand}
use Rattle.clap.specs.declared.builder.action.ArgAction.TheVariants as action
use Rattle.clap.specs.declared.builder.arg.Arg.{Arg}
use Rattle.clap.specs.declared.builder.command.Command.{Command}
use Rattle.clap.specs.declared.parser.matches.ArgMatches.{ArgMatches}
use Rattle.clap.specs.declared.error.kind.ErrorKind.{ErrorKind}
use Rattle.clap.specs.declared.error.kind.ErrorKind.TheVariants as kind
use Rattle.vcd_model.specs.Bytes.{is_empty}
use Rattle.vcd_model.specs.Job as model_job
use Rattle.vcd_model.specs.Words as model
use Rattle.vcd_words.specs.Job.{is_asked, model_want}
use Rattle.vcd_words.specs.declared.job.Want.{Want}
use Rattle.vcd_words.specs.declared.words.Words.{Words}
use Rattle.vcd_words.specs.declared.words.Words.TheVariants as words
use Rattle.vcd_words.specs.declared.job.UseFault.{UseFault}
use Rattle.vcd_words.specs.declared.job.UseFault.TheVariants.{BadWords, BadLimit, BadTime, FromAboveTo, NotRising, TooManyFiles, InputTwice, BadArgument, OutOfMemory}

-- ---- how words are read

-- an argument of this rule, which is not global
abbrev pub IsLocal : Arg → Rule → Type 0
IsLocal a r = (rule_of a ≡ r) × (a.global ≡ false)

-- a whole command with these arguments and commands
abbrev pub IsWhole : Command → App → Type 0
IsWhole c app = (app_of c ≡ app) × (is_broken c ≡ false)

-- `-i FILE`
abbrev pub input_rule : Rule
input_rule = record (new_rule (codes "input")) { short = Some 105; value_names = 1 }

-- `--token-limit N`; the parse does not decide which texts are good
abbrev pub limit_rule : Rule
limit_rule = record (new_rule (codes "token-limit")) { long = Some (codes "token-limit"); value_names = 1 }

-- `NAME..`, which have to be there or not
abbrev pub names_rule : Bool → Rule
names_rule required = record (new_rule (codes "names")) { range = Some (record { start_inclusive = 1; end_inclusive = usize_max }); value_names = 1; required = required }

-- an option of this name for times; the parse does not decide which texts are times
abbrev pub time_rule : Text → Rule
time_rule name = record (new_rule name) { long = Some name; value_names = 1 }

-- an option of this name without a word
abbrev pub flag_rule : Text → Rule
flag_rule name = record (new_rule name) { long = Some name; action = Some action.SetTrue }

-- a command of this name over one input
abbrev pub one_input_app : Text → App
one_input_app name = with_rule (with_rule (new_app name) input_rule) limit_rule

-- `FILE` without `-i`. It is one argument with `-i FILE`, with the same id, so that only one of
-- them may be there
abbrev pub file_rule : Rule
file_rule = record (new_rule (codes "input")) { value_names = 1 }

-- a command of this name over one input, with its file after `-i` or without it
abbrev pub file_app : Text → App
file_app name = with_rule (one_input_app name) file_rule

-- a command of this name over one input, with names
abbrev pub named_app : Text → Bool → App
named_app name required = with_rule (one_input_app name) (names_rule required)

-- a time, and this word if there is none
abbrev pub time_or_rule : (name word : Text) → Rule
time_or_rule name word = record (time_rule name) { defaults = word ∷ [] }

-- `cut`, with `--from N` and `--to N`: without them from time 0 to the greatest time
abbrev pub cut_app : App
cut_app = with_rule (with_rule (file_app (codes "cut")) (time_or_rule (codes "from") (codes "0"))) (time_or_rule (codes "to") (codes "18446744073709551615"))

-- `sample`, with `--at N,N,..`, which has to be there, and with names or without
abbrev pub sample_app : App
sample_app = with_rule (named_app (codes "sample") false) (record (time_rule (codes "at")) { required = true })

-- `FILE..`, which have to be there
abbrev pub files_rule : Rule
files_rule = record (new_rule (codes "files")) { range = Some (record { start_inclusive = 1; end_inclusive = usize_max }); value_names = 1; required = true }

-- `merge`, with its files
abbrev pub merge_app : App
merge_app = with_rule (with_rule (new_app (codes "merge")) limit_rule) files_rule

-- `vcdkit` has a version (so `--version` and `-V`), wants a command and has no command `help`
abbrev pub bare_app : App
bare_app =
    let program = new_app (codes "vcdkit") in
    record program { top = record program.top { has_version = true; subcommand_required = true; disable_help_subcommand = true } }

-- `vcdkit` with its commands
abbrev pub program_app : App
program_app =
    with_subcommand (with_subcommand (with_subcommand (with_subcommand (with_subcommand (with_subcommand (with_subcommand bare_app (file_app (codes "check")).top) (file_app (codes "list")).top)
    (named_app (codes "pick") true).top) cut_app.top) sample_app.top) (named_app (codes "edges") false).top) merge_app.top

-- help and the version are no fault, and out of memory has a status of its own
abbrev pub parse_status_of : ErrorKind → ℕ
parse_status_of kind.DisplayHelp = 0
parse_status_of kind.DisplayVersion = 0
parse_status_of kind.OutOfMemory = 3
parse_status_of other = 2

-- ---- the words that were used

-- the first word after an option of the command that was used
abbrev pub word_after : ArgMatches → Text → Option Text
word_after matches id = option_and_then (λ used. first_of id used.1) (subcommand_rows_of matches)

-- all words of an argument of the command that was used
abbrev pub values_after : ArgMatches → Text → List Text
values_after matches id = unwrap_or (option_and_then (λ used. all_of id used.1) (subcommand_rows_of matches)) []

-- words, or none
abbrev pub some_of : List Text → Option (List Text)
some_of words = cond (is_empty words) None (Some words)

-- the word for a file that the matches have; `None` for standard input
abbrev pub input_asked : ArgMatches → Option Text
input_asked matches = word_after matches (codes "input")

-- the files that the matches name for a merge
abbrev pub files_asked : ArgMatches → List Text
files_asked matches = values_after matches (codes "files")

-- a cut between these words, if both are there
abbrev pub cut_between : Option Text → Option Text → Option model.Command
cut_between (Some from) (Some to) = Some (model.Command.Cut from to)
cut_between (Some from) None = None
cut_between None to = None

-- the command of this name, with its words
abbrev pub command_named : Text → ArgMatches → Option model.Command
command_named name matches =
    cond (bytes_eq name (codes "check")) (Some model.Command.Check)
    (cond (bytes_eq name (codes "list")) (Some model.Command.Listing)
    (cond (bytes_eq name (codes "pick")) (Some (model.Command.Pick (values_after matches (codes "names"))))
    (cond (bytes_eq name (codes "cut")) (cut_between (word_after matches (codes "from")) (word_after matches (codes "to")))
    (cond (bytes_eq name (codes "sample")) (option_map (λ at. model.Command.Sample at (values_after matches (codes "names"))) (word_after matches (codes "at")))
    (cond (bytes_eq name (codes "edges")) (Some (model.Command.Edges (values_after matches (codes "names"))))
    (cond (bytes_eq name (codes "merge")) (Some (model.Command.Merge (values_after matches (codes "files")))) None))))))

-- the command that was used, with its words
abbrev pub command_used : ArgMatches → Option model.Command
command_used matches = option_and_then (λ name. command_named name matches) (subcommand_name_of matches)

-- a command that has the words that it needs
abbrev pub complete : Option model.Command → Option model.Command
complete named = option_and_then (λ command. cond (model.has_words command) (Some command) None) named

-- ---- what they ask for

-- the words that were used, if a command of the table has them
abbrev pub words_used : ArgMatches → Option model.Words
words_used matches = option_map (λ command. record { command = command; limit = word_after matches (codes "token-limit") }) (command_used matches)

-- what the matches ask for
abbrev pub job_asked : ArgMatches → Result model.Job model.UseFault
job_asked matches = model.job_of (words_used matches)

-- the words ask for this, with this token limit
abbrev pub AsksFor : ArgMatches → Want → ℕ → Type 0
AsksFor matches want limit = job_asked matches ≡ Ok (record { want = model_want want; limit = limit })

-- borrowed names, or none
abbrev pub some_names : Option (Bor (List (Bor Text))) → List Text
some_names names = unwrap_or (option_map (λ some. map (λ name. name.now) some.now) names) []

-- a borrowed text, borrowed texts, and a borrowed list of them
abbrev pub text_of : Option (Bor Text) → Option Text
text_of word = option_map (λ text. text.now) word

abbrev pub texts : List (Bor Text) → List Text
texts words = map (λ word. word.now) words

abbrev pub texts_of : Option (Bor (List (Bor Text))) → Option (List Text)
texts_of words = option_map (λ words. texts words.now) words

-- the command of borrowed words, such as a merge of these files
abbrev pub merge_command : List (Bor Text) → model.Command
merge_command files = model.Command.Merge (map (λ file. file.now) files)

abbrev pub words_command : Words → model.Command
words_command words.Check = model.Command.Check
words_command words.List = model.Command.Listing
words_command (words.Pick names) = model.Command.Pick (map (λ name. name.now) names.now)
words_command (words.Cut from to) = model.Command.Cut from.now to.now
words_command (words.Sample at names) = model.Command.Sample at.now (some_names names)
words_command (words.Edges names) = model.Command.Edges (some_names names)
words_command (words.Merge files) = merge_command files.now

-- what is said of a fault
abbrev pub use_text : UseFault → Text
use_text BadWords = model.use_text model.UseFault.BadWords
use_text (BadLimit word) = model.use_text (model.UseFault.BadLimit word.now)
use_text (BadTime word) = model.use_text (model.UseFault.BadTime word.now)
use_text FromAboveTo = model.use_text model.UseFault.FromAboveTo
use_text NotRising = model.use_text model.UseFault.NotRising
use_text TooManyFiles = model.use_text model.UseFault.TooManyFiles
use_text InputTwice = model.use_text model.UseFault.InputTwice
use_text (BadArgument first second) = first.now ++ second.now
use_text OutOfMemory = codes "out of memory"

-- the fault is one that the words have, and not of memory
abbrev pub IsFaultIn : {X : Type 0} → UseFault → Result X model.UseFault → Type 0
IsFaultIn {X} BadWords asked = asked ≡ Err model.UseFault.BadWords
IsFaultIn {X} (BadLimit word) asked = asked ≡ Err (model.UseFault.BadLimit word.now)
IsFaultIn {X} (BadTime word) asked = asked ≡ Err (model.UseFault.BadTime word.now)
IsFaultIn {X} FromAboveTo asked = asked ≡ Err model.UseFault.FromAboveTo
IsFaultIn {X} NotRising asked = asked ≡ Err model.UseFault.NotRising
IsFaultIn {X} TooManyFiles asked = asked ≡ Err model.UseFault.TooManyFiles
IsFaultIn {X} InputTwice asked = asked ≡ Err model.UseFault.InputTwice
IsFaultIn {X} (BadArgument first second) asked = ⊥
IsFaultIn {X} OutOfMemory asked = ⊥

-- this is the fault; or memory ran out, which happens only if the words have no fault
abbrev pub IsFaultOf : {X : Type 0} → UseFault → Result X model.UseFault → Type 0
IsFaultOf {X} OutOfMemory asked = (x : X) × (asked ≡ Ok x)
IsFaultOf {X} fault asked = IsFaultIn fault asked

-- a fault of words, and not of memory
abbrev pub IsOfWords : UseFault → Type 0
IsOfWords OutOfMemory = ⊥
IsOfWords fault = Unit {0}

-- the fault is the one that is said
abbrev pub HasFault : {X : Type 0} → UseFault → Result X Text → Type 0
HasFault fault asked = IsOfWords fault × (asked ≡ Err (use_text fault))

-- the words ask for this, which words can ask for, or have this fault; memory may run out if they
-- have no fault
pub record GivesWant (wanted : Result model_job.Want model.UseFault) (result : Result Want UseFault) : Type 0 where
  pub want : IfOk result (λ want. wanted ≡ Ok (model_want want))
  pub asked : IfOk result (λ want. is_asked want ≡ true)
  pub fault : IfErr result (λ fault. IsFaultOf fault wanted)
