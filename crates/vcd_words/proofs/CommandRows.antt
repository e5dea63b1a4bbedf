-- Which words the command line takes, and what it finds in them: worked by hand.
use Rattle.vcd_words.proofs.Cited.{◌≡◌, true, List, [], ◌∷◌, codes, refl, Option, Some, None, option_and_then, String, Text, all_of, fault_of, first_of, subcommand_of, takes, program_app}
use Rattle.clap.proofs.OnLiterals.{clap_on_literals}
use Rattle.clap.specs.declared.error.kind.ErrorKind.TheVariants as kind

-- words after the program's name
abbrev words : List String → List Text
words [] = []
words (w ∷ ws) = codes w ∷ words ws

abbrev said : List String → List Text
said ws = codes "vcdkit" ∷ words ws

-- the first word of an argument of the command that they use
abbrev found : String → List String → Option Text
found id ws = option_and_then (λ used. first_of (codes id) used.1) (subcommand_of program_app (said ws))

-- the word for the file
abbrev file : List String → Option Text
file ws = found "input" ws

-- ---- the file of a command without names

no_file : file ("check" ∷ []) ≡ None
unfolding clap_on_literals
no_file = refl

file_alone : file ("check" ∷ "a.vcd" ∷ []) ≡ Some (codes "a.vcd")
unfolding clap_on_literals
file_alone = refl

file_after_i : file ("list" ∷ "-i" ∷ "a.vcd" ∷ []) ≡ Some (codes "a.vcd")
unfolding clap_on_literals
file_after_i = refl

file_before_options : file ("cut" ∷ "a.vcd" ∷ "--to" ∷ "5" ∷ []) ≡ Some (codes "a.vcd")
unfolding clap_on_literals
file_before_options = refl

hyphen_alone : file ("check" ∷ "-" ∷ []) ≡ Some (codes "-")
unfolding clap_on_literals
hyphen_alone = refl

hyphen_after_i : file ("check" ∷ "-i" ∷ "-" ∷ []) ≡ Some (codes "-")
unfolding clap_on_literals
hyphen_after_i = refl

file_is_taken : takes program_app (said ("check" ∷ "a.vcd" ∷ [])) ≡ true
unfolding clap_on_literals
file_is_taken = refl

-- one argument in two forms: both of them are one too many, in either order
two_forms : fault_of program_app (said ("check" ∷ "-i" ∷ "a.vcd" ∷ "b.vcd" ∷ [])) ≡ kind.ArgumentConflict ∷ []
unfolding clap_on_literals
two_forms = refl

two_forms_again : fault_of program_app (said ("check" ∷ "b.vcd" ∷ "-i" ∷ "a.vcd" ∷ [])) ≡ kind.ArgumentConflict ∷ []
unfolding clap_on_literals
two_forms_again = refl

two_files : fault_of program_app (said ("list" ∷ "a.vcd" ∷ "b.vcd" ∷ [])) ≡ kind.UnknownArgument ∷ []
unfolding clap_on_literals
two_files = refl

-- ---- where names are, a word is a name

names_alone : file ("pick" ∷ "a.vcd" ∷ "tb" ∷ []) ≡ None
unfolding clap_on_literals
names_alone = refl

names_all : option_and_then (λ used. all_of (codes "names") used.1) (subcommand_of program_app (said ("pick" ∷ "a.vcd" ∷ "tb" ∷ []))) ≡ Some (words ("a.vcd" ∷ "tb" ∷ []))
unfolding clap_on_literals
names_all = refl

-- ---- the times of a cut

cut_from : found "from" ("cut" ∷ []) ≡ Some (codes "0")
unfolding clap_on_literals
cut_from = refl

cut_to : found "to" ("cut" ∷ "--from" ∷ "5" ∷ []) ≡ Some (codes "18446744073709551615")
unfolding clap_on_literals
cut_to = refl

cut_given : found "to" ("cut" ∷ "--to" ∷ "5" ∷ []) ≡ Some (codes "5")
unfolding clap_on_literals
cut_given = refl

cut_is_taken : takes program_app (said ("cut" ∷ "a.vcd" ∷ [])) ≡ true
unfolding clap_on_literals
cut_is_taken = refl

-- a sample has no times of its own
no_times : fault_of program_app (said ("sample" ∷ "a" ∷ [])) ≡ kind.MissingRequiredArgument ∷ []
unfolding clap_on_literals
no_times = refl
