-- What the words of `vcdkit-compare` ask for, or what is said of their first fault.
use Rattle.std.specs.Prelude.{◌≡◌, ◌==◌, ◌||◌, ℕ, Bool, true, false, cond, nat_lt, List, [], ◌∷◌, ◌++◌, map, codes, bytes_eq, Option, Some, None, unwrap_or, Result, Ok, Err}
use Rattle.std.specs.List.{after_first, before_first}
use Rattle.std.specs.Global.{Vec}
use Rattle.std.specs.Str.{byte}
use Rattle.clap.specs.Words.{Text}
use Rattle.clap.specs.declared.parser.matches.ArgMatches.{ArgMatches}
use Rattle.vcd_model.specs.Bytes.{decimal_value, is_empty}
use Rattle.vcd_model.specs.Compare.{Asked, Extent}
use Rattle.vcd_model.specs.Job.{is_number}
use Rattle.vcd_model.specs.Within.{Names}
use Rattle.vcd_model.specs.Words as model
use Rattle.vcd_words.specs.Matches.{is_set, word_of, words_of}
use Rattle.vcd_words.specs.Words.{use_text}
use Rattle.vcd_words.specs.declared.job.UseFault.{UseFault}
use Rattle.vcd_words.specs.declared.job.UseFault.TheVariants.{OutOfMemory}
use Rattle.vcd_compare.specs.Asked.{model_asked}
use Rattle.vcd_compare.specs.Pairs.{names_in}
use Rattle.vcd_compare_words.specs.declared.job.Comparing.{Comparing}

-- ---- times

-- the number of ticks that a word is; each option has a word in all matches of a parse
abbrev pub ticks_asked : Option Text → Result ℕ Text
ticks_asked None = Err (model.use_text model.UseFault.BadWords)
ticks_asked (Some word) = cond (is_number word) (Ok (decimal_value word)) (Err (model.use_text (model.UseFault.BadTime word)))

-- the first time and the last one, which is not before it
abbrev pub window_of : Result ℕ Text → Result ℕ Text → Result (ℕ × ℕ) Text
window_of (Ok from) (Ok to) = cond (nat_lt to from) (Err (model.use_text model.UseFault.FromAboveTo)) (Ok (from, to))
window_of (Ok from) (Err why) = Err why
window_of (Err why) to = Err why

-- ---- lines and values

-- which lines are due
abbrev pub extent_of : (first always : Bool) → Result Extent Text
extent_of true true = Err (codes "--first and --always exclude each other")
extent_of true false = Ok Extent.First
extent_of false true = Ok Extent.Always
extent_of false false = Ok Extent.EachPair

-- all that is asked for besides the names; texts of real numbers match only if they are the same
abbrev pub asked_with : (x_of_a x_of_b : Bool) → (exceptions : List Text) → Result (ℕ × ℕ) Text → Result Extent Text → Result Asked Text
asked_with x_of_a x_of_b exceptions (Ok window) (Ok extent) = Ok (record {
  names = [];
  exceptions = exceptions;
  from = window.0;
  to = window.1;
  rule = record { x_of_one = x_of_a; x_of_other = x_of_b; same_real = bytes_eq };
  extent = extent;
})
asked_with x_of_a x_of_b exceptions (Ok window) (Err why) = Err why
asked_with x_of_a x_of_b exceptions (Err why) extent = Err why

abbrev pub asked_by : ArgMatches → Result Asked Text
asked_by m =
    asked_with (is_set m (codes "x-of-a")) (is_set m (codes "x-of-b")) (unwrap_or (words_of m (codes "except")) [])
    (window_of (ticks_asked (word_of m (codes "from"))) (ticks_asked (word_of m (codes "to"))))
    (extent_of (is_set m (codes "first")) (is_set m (codes "always")))

-- ---- names

abbrev is_equals : ℕ → Bool
is_equals b = b == byte "="

-- the two names of a word, before its first `=` and after it; neither is empty
abbrev pub two_names : Text → Option Names
two_names word =
    cond (is_empty (before_first is_equals word) || is_empty (after_first is_equals word)) None
    (Some (before_first is_equals word, after_first is_equals word))

-- two names, which are not the same
abbrev pub two_or_fault : Text → Option Names → Result Names Text
two_or_fault word None = Err (codes "not of the form X=Y: " ++ word)
two_or_fault word (Some two) = cond (bytes_eq two.0 two.1) (Err (two.0 ++ codes ": is compared with itself")) (Ok two)

abbrev pub names_of : Text → Result Names Text
names_of word = two_or_fault word (two_names word)

-- one more word before the others
abbrev pub with_names : Result Names Text → Result (List Names) Text → Result (List Names) Text
with_names (Ok n) (Ok ns) = Ok (n ∷ ns)
with_names (Ok n) (Err why) = Err why
with_names (Err why) ns = Err why

-- the names that words are, or the fault of the first that is none
abbrev pub names_asked : List Text → Result (List Names) Text
names_asked [] = Ok []
names_asked (word ∷ words) = with_names (names_of word) (names_asked words)

-- there is a word
abbrev pub some_names_asked : Option (List Text) → Result (List Names) Text
some_names_asked words = elim (unwrap_or words []) [ [] ↦ Err (model.use_text model.UseFault.BadWords) | word ∷ more ↦ names_asked (word ∷ more) ]

-- ---- the whole command line

-- what is asked for, and the names
abbrev pub comparing_with : Result Asked Text → Result (List Names) Text → Result (Asked × List Names) Text
comparing_with (Ok asked) (Ok names) = Ok (asked, names)
comparing_with (Ok asked) (Err why) = Err why
comparing_with (Err why) names = Err why

abbrev pub comparing_asked : ArgMatches → Result (Asked × List Names) Text
comparing_asked m = comparing_with (asked_by m) (some_names_asked (words_of m (codes "names")))

-- lists of bytes
abbrev pub texts_in : List (Vec ℕ) → List Text
texts_in copies = map (λ copy. copy.items) copies

-- what a job asks for
abbrev pub asked_in : Comparing → Asked × List Names
asked_in job = (model_asked job.asked (texts_in job.exceptions.items), names_in job.names.items)

-- ---- faults

-- the words ask for this job, or have this fault; memory may run out only if they have none
abbrev pub Asks : ArgMatches → Result Comparing UseFault → Type 0
Asks m (Ok job) = comparing_asked m ≡ Ok (asked_in job)
Asks m (Err OutOfMemory) = (asked : _) × (comparing_asked m ≡ Ok asked)
Asks m (Err fault) = comparing_asked m ≡ Err (use_text fault)
