-- What a command and a word after `--token-limit` ask for.
use Rattle.vcd_words.proofs.Cited.{◌≡◌, ◌==◌, ℕ, Bool, true, false, not, List, [], ◌∷◌, length, map, ap, ap₂, refl, sym, ◌∙◌, eqb-suc-zero, Bor, then_some, Option, Some, None, Result, Ok, Err, option_map, option_and_then, unwrap_or, IsSomeAnd, ValueRange, Row, Text, all_of, first_of, Words, UseFault, BadWords, BadLimit, BadTime, FromAboveTo, NotRising, TooManyFiles, InputTwice, BadArgument, OutOfMemory, complete, some_of, words_command, IsFaultIn, IsFaultOf}
use Rattle.vcd_model.specs.Job as model_job
use Rattle.vcd_model.specs.Words as model

-- ---- words as clap takes them

-- how many words an argument takes
pub some-is : (range : Option ValueRange) (wanted : ValueRange) → IsSomeAnd range (λ r. r ≡ wanted) → range ≡ Some wanted
some-is None wanted h = absurd h
some-is (Some range) wanted h = ap (λ r. Some r) h

-- ---- commands with their words

-- a command with the word after its option
abbrev pub with_limit : Option model.Command → Option Text → Option model.Words
with_limit named limit = option_map (λ command. record { command = command; limit = limit }) named

-- ---- commands that have the words that they need

complete-some : (named : Option model.Command) (command : model.Command) → complete named ≡ Some command → (named ≡ Some command) × (model.has_words command ≡ true)
complete-some None command e = cc
complete-some (Some c) command e = by_test (model.has_words c) refl
  where
    by_test : (b : Bool) → model.has_words c ≡ b → (Some c ≡ Some command) × (model.has_words command ≡ true)
    by_test true h = let same : Some c ≡ Some command = rw h at e in (same, let is : c ≡ command = cc in ap model.has_words (sym is) ∙ h)
    by_test false h = let bad : None ≡ Some command = rw h at e in cc

complete-none : (command : model.Command) → complete (Some command) ≡ None → model.has_words command ≡ false
complete-none command e = by_test (model.has_words command) refl
  where
    by_test : (b : Bool) → model.has_words command ≡ b → model.has_words command ≡ false
    by_test true h = let bad : Some command ≡ None = rw h at e in cc
    by_test false h = h

-- ---- jobs

with-words : (command : model.Command) (limit : Option Text) → model.has_words command ≡ true
    → model.job_of (with_limit (Some command) limit) ≡ model.job_with (model.limit_of limit) (model.want_of command)
unfolding model.job_of
with-words command limit h = rw h refl

with-complete : (named : Option model.Command) (command : model.Command) (limit : Option Text) → complete named ≡ Some command
    → model.job_of (with_limit named limit) ≡ model.job_with (model.limit_of limit) (model.want_of command)
with-complete named command limit e = let whole = complete-some named command e in ap (λ n. model.job_of (with_limit n limit)) whole.0 ∙ with-words command limit whole.1

-- the job that words ask for, under the limit that is asked for
pub job-is : (named : Option model.Command) (limit : Option Text) (w : Words) (wanted : model_job.Want) (n : ℕ)
    → Some (words_command w) ≡ complete named → model.limit_of limit ≡ Ok n → model.want_of (words_command w) ≡ Ok wanted
    → model.job_of (with_limit named limit) ≡ Ok (record { want = wanted; limit = n })
job-is named limit w wanted n e l t = with-complete named (words_command w) limit (sym e) ∙ ap₂ model.job_with l t

-- without a command that has its words the words are bad
pub no-job : (named : Option model.Command) (limit : Option Text) → None ≡ complete named → model.job_of (with_limit named limit) ≡ Err model.UseFault.BadWords
unfolding model.job_of
no-job None limit e = refl
no-job (Some command) limit e = let h = complete-none command (sym e) in rw h refl

-- a fault that is none of memory
pub fault-in : {X : Type 0} (fault : UseFault) (asked : Result X model.UseFault) → IsFaultIn fault asked → IsFaultOf fault asked
fault-in BadWords asked e = e
fault-in (BadLimit word) asked e = e
fault-in (BadTime word) asked e = e
fault-in FromAboveTo asked e = e
fault-in NotRising asked e = e
fault-in TooManyFiles asked e = e
fault-in InputTwice asked e = e
fault-in (BadArgument first second) asked e = absurd e
fault-in OutOfMemory asked e = absurd e

-- a fault of some words is one of others, where theirs are the same
pub fault-moves : {X Y : Type 0} (fault : UseFault) (a : Result X model.UseFault) (b : Result Y model.UseFault)
    → ((f : model.UseFault) → a ≡ Err f → b ≡ Err f) → IsFaultIn fault a → IsFaultIn fault b
fault-moves BadWords a b moves e = moves _ e
fault-moves (BadLimit word) a b moves e = moves _ e
fault-moves (BadTime word) a b moves e = moves _ e
fault-moves FromAboveTo a b moves e = moves _ e
fault-moves NotRising a b moves e = moves _ e
fault-moves TooManyFiles a b moves e = moves _ e
fault-moves InputTwice a b moves e = moves _ e
fault-moves (BadArgument first second) a b moves e = absurd e
fault-moves OutOfMemory a b moves e = absurd e

-- a fault of the limit is the job's
pub limit-fault : (named : Option model.Command) (limit : Option Text) (w : Words) (fault : UseFault) → Some (words_command w) ≡ complete named
    → IsFaultIn fault (model.limit_of limit) → IsFaultOf fault (model.job_of (with_limit named limit))
limit-fault named limit w fault e l =
    fault-in fault (model.job_of (with_limit named limit)) (fault-moves fault (model.limit_of limit) (model.job_of (with_limit named limit))
    (λ f bad. with-complete named _ limit (sym e) ∙ ap (λ x. model.job_with x (model.want_of (words_command w))) bad) l)

-- a fault of what is asked for is the job's, where the limit has none
pub want-fault : (named : Option model.Command) (limit : Option Text) (w : Words) (n : ℕ) (fault : UseFault)
    → Some (words_command w) ≡ complete named → model.limit_of limit ≡ Ok n → IsFaultOf fault (model.want_of (words_command w))
    → IsFaultOf fault (model.job_of (with_limit named limit))
want-fault named limit w n BadWords e l t = with-complete named _ limit (sym e) ∙ ap₂ model.job_with l t
want-fault named limit w n (BadLimit word) e l t = with-complete named _ limit (sym e) ∙ ap₂ model.job_with l t
want-fault named limit w n (BadTime word) e l t = with-complete named _ limit (sym e) ∙ ap₂ model.job_with l t
want-fault named limit w n FromAboveTo e l t = with-complete named _ limit (sym e) ∙ ap₂ model.job_with l t
want-fault named limit w n NotRising e l t = with-complete named _ limit (sym e) ∙ ap₂ model.job_with l t
want-fault named limit w n TooManyFiles e l t = with-complete named _ limit (sym e) ∙ ap₂ model.job_with l t
want-fault named limit w n InputTwice e l t = with-complete named _ limit (sym e) ∙ ap₂ model.job_with l t
want-fault named limit w n (BadArgument first second) e l t = absurd t
want-fault named limit w n OutOfMemory e l (wanted, t) = (record { want = wanted; limit = n }, with-complete named _ limit (sym e) ∙ ap₂ model.job_with l t)

-- ---- what comes after the command that was used

-- the first word of an option
pub first-after : (used : Option (Text × List Row)) (rows : List Row) (id : Text) → Some rows ≡ option_map (λ u. u.1) used → first_of id rows ≡ option_and_then (λ u. first_of id u.1) used
first-after None rows id e = cc
first-after (Some u) rows id e = let same : rows ≡ u.1 = cc in ap (first_of id) same

-- all words of an argument
pub all-after : (used : Option (Text × List Row)) (rows : List Row) (id : Text) → Some rows ≡ option_map (λ u. u.1) used → all_of id rows ≡ option_and_then (λ u. all_of id u.1) used
all-after None rows id e = cc
all-after (Some u) rows id e = let same : rows ≡ u.1 = cc in ap (all_of id) same

-- no names were given
pub no-names : (found : Option (List Text)) (r : Option (Bor (List (Bor Text)))) → r ≡ None → None ≡ found
    → option_map (λ names. map (λ name. name.now) names.now) r ≡ some_of (unwrap_or found [])
no-names None r e f = rw e refl
no-names (Some names) r e f = cc

-- some names were given, or an empty list of them
pub some-names : (found : Option (List Text)) (names : Bor (List (Bor Text))) (r : Option (Bor (List (Bor Text))))
    → Some (map (λ name. name.now) names.now) ≡ found → r ≡ then_some (not (length names.now == 0)) names
    → option_map (λ names. map (λ name. name.now) names.now) r ≡ some_of (unwrap_or found [])
some-names found names r f e = by_list names.now refl
  where
    by_list : (xs : List (Bor Text)) → names.now ≡ xs → option_map (λ names. map (λ name. name.now) names.now) r ≡ some_of (unwrap_or found [])
    by_list [] h = rw (e, ← f, h) refl
    by_list (x ∷ xs) h = let some : (length (x ∷ xs) == 0) ≡ false = eqb-suc-zero (length xs) in rw (e, ← f, h, some) refl
