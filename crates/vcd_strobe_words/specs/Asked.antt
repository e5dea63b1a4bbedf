-- What the words of `vcdkit-strobe` ask for, or what is said of their first fault.
use Rattle.std.specs.Prelude.{◌≡◌, ◌==◌, ◌&&◌, ℕ, Bool, true, false, cond, nat_lt, List, [], ◌++◌, length, map, codes, Option, Some, None, unwrap_or, string_bytes, Result, Ok, Err}
use Rattle.std.specs.List.{after_last, before_last, list_any}
use Rattle.std.specs.Str.{byte}
use Rattle.clap.specs.Words.{Text}
use Rattle.clap.specs.declared.parser.matches.ArgMatches.{ArgMatches}
use Rattle.vcd_model.specs.Bytes.{decimal_value, is_empty}
use Rattle.vcd_model.specs.Job.{is_number}
use Rattle.vcd_model.specs.Strobe.{ClockName as ModelClockName, Strobe}
use Rattle.vcd_strobe.specs.Named.{model_name}
use Rattle.vcd_model.specs.Words as model
use Rattle.vcd_words.specs.Matches.{word_of, words_of}
use Rattle.vcd_words.specs.Words.{use_text}
use Rattle.vcd_words.specs.declared.job.UseFault.{UseFault}
use Rattle.vcd_words.specs.declared.job.UseFault.TheVariants.{OutOfMemory}
use Rattle.vcd_strobe_words.specs.declared.strobing.Strobing.{Strobing}

-- ---- clocks

abbrev is_at : ℕ → Bool
is_at b = b == byte "@"

-- the path and the place of a word `PATH@PLACE`, which has a number after its last `@`; any other
-- word is a path without a place
abbrev pub place_asked : Text → Text × Option ℕ
place_asked word =
    cond (list_any is_at word && is_number (after_last is_at word))
    (before_last is_at word, Some (decimal_value (after_last is_at word))) (word, None)

-- the clock that a word names
abbrev pub clock_asked : (falls : Bool) → Text → ModelClockName
clock_asked falls word = record { word = word; path = (place_asked word).0; place = (place_asked word).1; falls = falls }

-- the clocks of words for rising edges, then those of words for falling ones
abbrev pub clocks_asked : (rises falls : List Text) → List ModelClockName
clocks_asked rises falls = map (clock_asked false) rises ++ map (clock_asked true) falls

-- there is a clock, and there are at most 64
abbrev pub clocks_or_fault : List ModelClockName → Result (List ModelClockName) Text
clocks_or_fault clocks =
    cond (is_empty clocks) (Err (codes "no clock: write --rise CLOCK or --fall CLOCK"))
    (cond (nat_lt 64 (length clocks)) (Err (codes "more than 64 clocks")) (Ok clocks))

-- ---- the whole command line

-- all words of an argument
abbrev pub all_of : ArgMatches → Text → List Text
all_of m id = unwrap_or (words_of m id) []

-- the token limit, as `vcdkit` has it
abbrev pub limit_asked : Option Text → Result ℕ Text
limit_asked word = elim (model.limit_of word) [ Ok limit ↦ Ok limit | Err fault ↦ Err (model.use_text fault) ]

-- what is asked for, with these names, and its token limit
abbrev pub strobe_with : List Text → Result (List ModelClockName) Text → Result ℕ Text → Result (Strobe × ℕ) Text
strobe_with names (Ok clocks) (Ok limit) = Ok (record { clocks = clocks; names = names }, limit)
strobe_with names (Ok clocks) (Err why) = Err why
strobe_with names (Err why) limit = Err why

abbrev pub strobe_asked : ArgMatches → Result (Strobe × ℕ) Text
strobe_asked m =
    strobe_with (all_of m (codes "names")) (clocks_or_fault (clocks_asked (all_of m (codes "rise")) (all_of m (codes "fall"))))
    (limit_asked (word_of m (codes "token-limit")))

-- what a job asks for
abbrev pub strobe_in : Strobing → Strobe
strobe_in job = record { clocks = map model_name job.clocks.items; names = map string_bytes job.names.items }

-- ---- faults

-- the words ask for this job, or have this fault; memory may run out only if they have none
abbrev pub Asks : ArgMatches → Result Strobing UseFault → Type 0
Asks m (Ok job) = strobe_asked m ≡ Ok (strobe_in job, job.limit)
Asks m (Err OutOfMemory) = (asked : Strobe × ℕ) × (strobe_asked m ≡ Ok asked)
Asks m (Err fault) = strobe_asked m ≡ Err (use_text fault)
