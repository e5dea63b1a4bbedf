-- Which words the command line takes, and what it finds in them: worked by hand.
use Rattle.vcd_compare_words.proofs.Cited.{◌≡◌, List, [], ◌∷◌, codes, refl, Option, Some, None, Text, two_names}
use Prim.Native.String.{String}
use Rattle.clap.proofs.OnLiterals.{clap_on_literals}
use Rattle.clap.specs.Words.{all_of, fault_of, first_of, matches_of}
use Rattle.clap.specs.declared.error.kind.ErrorKind.TheVariants as kind
use Rattle.vcd_compare_words.specs.Words.{compare_app}

-- words after the program's name
abbrev words : List String → List Text
words [] = []
words (w ∷ ws) = codes w ∷ words ws

abbrev said : List String → List Text
said ws = codes "vcdkit-compare" ∷ words ws

-- the first word of an argument, and all words
abbrev found : String → List String → Option Text
found id ws = first_of (codes id) (matches_of compare_app (said ws))

abbrev all : String → List String → Option (List Text)
all id ws = all_of (codes id) (matches_of compare_app (said ws))

-- ---- options

used : found "first" ("--first" ∷ "a=b" ∷ []) ≡ Some (codes "true")
unfolding clap_on_literals
used = refl

not_used : found "first" ("a=b" ∷ []) ≡ Some (codes "false")
unfolding clap_on_literals
not_used = refl

first_time : found "from" ("a=b" ∷ []) ≡ Some (codes "0")
unfolding clap_on_literals
first_time = refl

file : found "input" ("-i" ∷ "a.vcd" ∷ "a=b" ∷ []) ≡ Some (codes "a.vcd")
unfolding clap_on_literals
file = refl

-- ---- names

exceptions : all "except" ("--except" ∷ "a" ∷ "--except" ∷ "b" ∷ "c=d" ∷ []) ≡ Some (words ("a" ∷ "b" ∷ []))
unfolding clap_on_literals
exceptions = refl

no_exceptions : all "except" ("c=d" ∷ []) ≡ None
unfolding clap_on_literals
no_exceptions = refl

two_pairs : all "names" ("a=b" ∷ "--first" ∷ "c=d" ∷ []) ≡ Some (words ("a=b" ∷ "c=d" ∷ []))
unfolding clap_on_literals
two_pairs = refl

no_names : fault_of compare_app (said ("--first" ∷ [])) ≡ kind.MissingRequiredArgument ∷ []
unfolding clap_on_literals
no_names = refl

-- the first `=` ends the first name
two_equals : two_names (codes "a=b=c") ≡ Some (codes "a", codes "b=c")
two_equals = refl

no_second : two_names (codes "a=") ≡ None
no_second = refl

no_first : two_names (codes "=a") ≡ None
no_first = refl

no_equals : two_names (codes "a") ≡ None
no_equals = refl
