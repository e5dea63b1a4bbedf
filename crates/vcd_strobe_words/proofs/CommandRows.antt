-- Which words the command line takes, and what it finds in them: worked by hand.
use Rattle.vcd_strobe_words.proofs.Cited.{◌≡◌, List, [], ◌∷◌, codes, refl, Err, Ok, Option, Some, None, Text, clock_asked, limit_asked, place_asked, false, true}
use Prim.Native.String.{String}
use Rattle.clap.proofs.OnLiterals.{clap_on_literals}
use Rattle.clap.specs.Words.{all_of, fault_of, first_of, matches_of}
use Rattle.clap.specs.declared.error.kind.ErrorKind.TheVariants as kind
use Rattle.vcd_strobe_words.specs.Words.{strobe_app}

-- words after the program's name
abbrev words : List String → List Text
words [] = []
words (w ∷ ws) = codes w ∷ words ws

abbrev said : List String → List Text
said ws = codes "vcdkit-strobe" ∷ words ws

-- the first word of an argument, and all words
abbrev found : String → List String → Option Text
found id ws = first_of (codes id) (matches_of strobe_app (said ws))

abbrev all : String → List String → Option (List Text)
all id ws = all_of (codes id) (matches_of strobe_app (said ws))

-- ---- options

two_rises : all "rise" ("--rise" ∷ "a" ∷ "--fall" ∷ "b" ∷ "--rise" ∷ "c" ∷ []) ≡ Some (words ("a" ∷ "c" ∷ []))
unfolding clap_on_literals
two_rises = refl

one_fall : all "fall" ("--rise" ∷ "a" ∷ "--fall" ∷ "b" ∷ "--rise" ∷ "c" ∷ []) ≡ Some (words ("b" ∷ []))
unfolding clap_on_literals
one_fall = refl

no_falls : all "fall" ("--rise" ∷ "a" ∷ []) ≡ None
unfolding clap_on_literals
no_falls = refl

file : found "input" ("--rise" ∷ "a" ∷ "-i" ∷ "a.vcd" ∷ "b" ∷ []) ≡ Some (codes "a.vcd")
unfolding clap_on_literals
file = refl

no_file : found "input" ("--rise" ∷ "a" ∷ "b" ∷ []) ≡ None
unfolding clap_on_literals
no_file = refl

two_files : fault_of strobe_app (said ("-i" ∷ "a.vcd" ∷ "-i" ∷ "b.vcd" ∷ [])) ≡ kind.ArgumentConflict ∷ []
unfolding clap_on_literals
two_files = refl

no_clock : fault_of strobe_app (said ("--rise" ∷ [])) ≡ kind.InvalidValue ∷ []
unfolding clap_on_literals
no_clock = refl

limit : found "token-limit" ("--rise" ∷ "a" ∷ "--token-limit" ∷ "4000000" ∷ []) ≡ Some (codes "4000000")
unfolding clap_on_literals
limit = refl

two_limits : fault_of strobe_app (said ("--token-limit" ∷ "64" ∷ "--token-limit" ∷ "64" ∷ [])) ≡ kind.ArgumentConflict ∷ []
unfolding clap_on_literals
two_limits = refl

good_limit : limit_asked (Some (codes "4000000")) ≡ Ok 4000000
good_limit = refl

no_limit : limit_asked None ≡ Ok 1048576
no_limit = refl

bad_limit : limit_asked (Some (codes "63")) ≡ Err (codes "bad token limit: 63")
bad_limit = refl

-- ---- names

two_names : all "names" ("b" ∷ "--rise" ∷ "a" ∷ "c" ∷ []) ≡ Some (words ("b" ∷ "c" ∷ []))
unfolding clap_on_literals
two_names = refl

no_names : all "names" ("--rise" ∷ "a" ∷ []) ≡ None
unfolding clap_on_literals
no_names = refl

-- ---- clocks

rising : clock_asked false (codes "a@3") ≡ record { word = codes "a@3"; path = codes "a"; place = Some 3; falls = false }
rising = refl

falling : clock_asked true (codes "a") ≡ record { word = codes "a"; path = codes "a"; place = None; falls = true }
falling = refl

no_number : place_asked (codes "a@b") ≡ (codes "a@b", None)
no_number = refl

no_digits : place_asked (codes "a@") ≡ (codes "a@", None)
no_digits = refl

no_path : place_asked (codes "@3") ≡ ([], Some 3)
no_path = refl

-- the last `@` ends the path
two_ats : place_asked (codes "a@1@2") ≡ (codes "a@1", Some 2)
two_ats = refl

no_last_number : place_asked (codes "a@1@b") ≡ (codes "a@1@b", None)
no_last_number = refl

-- 2^64 - 1 is a place, and a number of more than 20 digits or from 2^64 on is none
greatest : place_asked (codes "a@18446744073709551615") ≡ (codes "a", Some 18446744073709551615)
greatest = refl

too_great : place_asked (codes "a@18446744073709551616") ≡ (codes "a@18446744073709551616", None)
too_great = refl

too_long : place_asked (codes "a@99999999999999999999999") ≡ (codes "a@99999999999999999999999", None)
too_long = refl

-- a number without an `@` is a path
only_digits : place_asked (codes "3") ≡ (codes "3", None)
only_digits = refl
