-- What vcdkit leaves, in the words of a program, from what its calls promise.
use Rattle.vcd_program.proofs.Cited.{◌≡◌, ◌∙◌, ◌≤◌, ◌<◌, ℕ, Bool, false, List, [], ◌∷◌, ◌++◌, length, map, refl, sym, subst, ap, arith, Option, Result, Ok, Err, IfErr, IfOk, Text, ArgMatches, Header, Input, Token, Want, outcome, Words, Device, Supply, All, UseFault, is_merge, model_want, names_asked, words_used, program_name, use_outcome, AreRead, HasRun, IsOutcome, header_behind, AreLeft, IsRefusal, Leaves, memory_outcome, AreReaders, called, inputs_asked, inputs_for, wants_merge, asked-is, AsksFor, IsFaultOf, job_asked}
use Rattle.std.proofs.Common.{◌-◌, ◌^◌}
use Rattle.vcd_host.proofs.AskedLemmas.{Counted}
use Rattle.vcd_model.specs.Outcome.{fault_text}
use Rattle.vcd_model.specs.Settled.{is_header_over, is_settled}
use Rattle.vcd_model.specs.Words as model
use Rattle.vcd_model.specs.Words.{command_outcome, job_of}
use Rattle.vcd_words.specs.declared.job.Job.{Job}
use Rattle.vcd_words.specs.declared.job.UseFault.TheVariants as use_fault
use Rattle.vcd_words.specs.declared.job.Want.TheVariants as asked
use Rattle.vcd_words.specs.declared.job.Want as job
use Rattle.vcd_program.proofs.RunsLemmas.{names-many}
use Rattle.vcd_program.specs.Vcdkit.{Asks, EndsAsked, EndsSo, WereRead, names_wanted, outcome_of}

-- ---- the words

pub merge-same : (w : job.Want) → is_merge w ≡ wants_merge (model_want w)
merge-same asked.Check = refl
merge-same asked.List = refl
merge-same (asked.Pick names) = refl
merge-same (asked.Cut from to) = refl
merge-same (asked.Sample numbers units names) = refl
merge-same (asked.Edges names) = refl
merge-same asked.Merge = refl

pub names-same : (w : job.Want) → names_asked w ≡ names_wanted (model_want w)
names-same asked.Check = refl
names-same asked.List = refl
names-same (asked.Pick names) = refl
names-same (asked.Cut from to) = refl
names-same (asked.Sample numbers units names) = refl
names-same (asked.Edges names) = refl
names-same asked.Merge = refl

-- the outcome of words with a fault, and of words that ask for a job
command-refused : (words : Option Words) (f : model.UseFault) → job_of words ≡ Err f → command_outcome words [] [] ≡ model.use_outcome f
unfolding command_outcome
command-refused words f e = rw (e, command_outcome) refl

command-is : (words : Option Words) (want : Want) (limit : ℕ) (names : List Text) (inputs : List Input)
    → job_of words ≡ Ok (record { want = want; limit = limit }) → command_outcome words names inputs ≡ outcome want limit names inputs
unfolding command_outcome
command-is words want limit names inputs e = rw (e, command_outcome) refl

-- what is said of a fault is the outcome of the words
pub refusal-is : (matches : ArgMatches) (f : UseFault) → Asks matches (Err f) → IsRefusal f (outcome_of matches [] []) (use_outcome f)
refusal-is matches use_fault.BadWords e = command-refused (words_used matches) model.UseFault.BadWords e
refusal-is matches (use_fault.BadLimit word) e = command-refused (words_used matches) (model.UseFault.BadLimit word.now) e
refusal-is matches (use_fault.BadTime word) e = command-refused (words_used matches) (model.UseFault.BadTime word.now) e
refusal-is matches use_fault.FromAboveTo e = command-refused (words_used matches) model.UseFault.FromAboveTo e
refusal-is matches use_fault.NotRising e = command-refused (words_used matches) model.UseFault.NotRising e
refusal-is matches use_fault.TooManyFiles e = command-refused (words_used matches) model.UseFault.TooManyFiles e
refusal-is matches use_fault.InputTwice e = command-refused (words_used matches) model.UseFault.InputTwice e
refusal-is matches (use_fault.BadArgument first second) e = absurd e
refusal-is matches use_fault.OutOfMemory e = tt

-- the same of what a call returned
pub asks-are : (matches : ArgMatches) (r : Result Job UseFault) → IfOk r (λ j. AsksFor matches j.task j.limit) → IfOk r (λ j. j.chunk ≡ 65536)
    → IfErr r (λ fault. IsFaultOf fault (job_asked matches)) → Asks matches r
asks-are matches (Ok j) asks at fault = (asks, at)
asks-are matches (Err f) asks at fault = fault

pub refusals-are : (matches : ArgMatches) (r : Result Job UseFault) → IfErr r (λ fault. IsFaultOf fault (job_asked matches))
    → IfErr r (λ fault. IsRefusal fault (outcome_of matches [] []) (use_outcome fault))
refusals-are matches (Ok j) fault = tt
refusals-are matches (Err f) fault = refusal-is matches f fault

pub refusal-quiet : (f : UseFault) → (use_outcome f).output ≡ []
refusal-quiet use_fault.BadWords = refl
refusal-quiet (use_fault.BadLimit word) = refl
refusal-quiet (use_fault.BadTime word) = refl
refusal-quiet use_fault.FromAboveTo = refl
refusal-quiet use_fault.NotRising = refl
refusal-quiet use_fault.TooManyFiles = refl
refusal-quiet use_fault.InputTwice = refl
refusal-quiet (use_fault.BadArgument first second) = refl
refusal-quiet use_fault.OutOfMemory = refl

pub refusal-memory : use_outcome use_fault.OutOfMemory ≡ memory_outcome
unfolding fault_text
refusal-memory = refl

pub refusal-low : (f : UseFault) → (use_outcome f).status ≤ 3
refusal-low use_fault.BadWords = omega arith
refusal-low (use_fault.BadLimit word) = omega arith
refusal-low (use_fault.BadTime word) = omega arith
refusal-low use_fault.FromAboveTo = omega arith
refusal-low use_fault.NotRising = omega arith
refusal-low use_fault.TooManyFiles = omega arith
refusal-low use_fault.InputTwice = omega arith
refusal-low (use_fault.BadArgument first second) = omega arith
refusal-low use_fault.OutOfMemory = omega arith

-- ---- the inputs

-- the names of the inputs of a job are those that its matches name
pub inputs-are : (matches : ArgMatches) (j : Job) (names : List (Option Text)) (merge : Bool) → Asks matches (Ok j) → merge ≡ is_merge j.task
    → names ≡ inputs_for merge matches → names ≡ inputs_asked matches
inputs-are matches j names merge asks is e = e ∙ ap (λ m. inputs_for m matches) (is ∙ merge-same j.task) ∙ (asked-is matches (model_want j.task) j.limit asks.0).0

-- they are as many as the job takes
module _ (matches : ArgMatches) (j : Job) (asks : Asks matches (Ok j)) (names : List Text) (named : names ≡ map called (inputs_asked matches)) where
  counted : Counted (model_want j.task) (inputs_asked matches)
  counted = (asked-is matches (model_want j.task) j.limit asks.0).1

  many : length names ≡ length (inputs_asked matches)
  many = names-many (λ name. name) names (inputs_asked matches) (same names ∙ named)
    where
      same : (l : List Text) → map (λ (name : Text). name) l ≡ l
      same [] = refl
      same (x ∷ l) = ap (λ m. x ∷ m) (same l)

  pub are-readers : {X : Type 0} (failures : X → ℕ) (readers : List X) → length names ≡ length readers → All (λ r. failures r < 2 ^ 64 - 1) readers → AreReaders failures readers
  are-readers failures readers n low =
      let some = counted.some in
      let few = counted.few in
      let all : length readers ≡ length (inputs_asked matches) = sym n ∙ many in
      record { some = omega (arith, all, some); few = omega (arith, all, few); low = low }

  pub is-alone : (n : ℕ) → length names ≡ n → is_merge j.task ≡ false → n ≡ 1
  is-alone n e merge = sym e ∙ many ∙ counted.alone (sym (merge-same j.task) ∙ merge)

-- ---- a job

-- inputs that were read as much as settles them are what is left of their texts
are-left : (settled : ℕ → List Token → Bool) (limit chunk : ℕ) (earlier : List Header) (texts : List Text) (old new : List Supply)
    (inputs : List Input) → AreRead settled limit chunk earlier texts old new inputs → AreLeft texts old new inputs
are-left settled limit chunk earlier [] old new inputs r = r
are-left settled limit chunk earlier (t ∷ texts) [] new inputs r = absurd r
are-left settled limit chunk earlier (t ∷ texts) (s ∷ old) [] inputs r = absurd r
are-left settled limit chunk earlier (t ∷ texts) (s ∷ old) (u ∷ new) [] r = absurd r
are-left settled limit chunk earlier (t ∷ texts) (s ∷ old) (u ∷ new) (i ∷ inputs) r =
    (r.0, are-left settled limit chunk (earlier ++ header_behind earlier limit i ∷ []) texts old new inputs r.2)

-- a job ends so, by the names that have to select something
pub ends-by : (j : Job) (names : List Text) (before after : List ℕ) (last_failed : List Bool) (out out' err err' : Device) (status : ℕ)
    → EndsAsked (names_asked j.task) names before after last_failed out out' err err' status
    → EndsSo j names before after last_failed out out' err err' status
ends-by j names before after last_failed out out' err err' status ends = subst (λ l. EndsAsked l names before after last_failed out out' err err' status) (names-same j.task) ends

-- a job that was run leaves what is due
module _ (want : Want) (limit : ℕ) (names texts : List Text) (old new : List Supply) (out out' err err' : Device) (status : ℕ) where
  leaves-of : (words : Option Words) → job_of words ≡ Ok (record { want = want; limit = limit }) → HasRun want limit 65536 names texts old new out out' err err' status
      → Leaves program_name (λ inputs. command_outcome words names inputs)
      (λ ended texts old new inputs out out'. WereRead want limit ended texts old new inputs out out') texts old new out out' err err' status
  leaves-of words e (HasRun.WithOutcome inputs read needed turns left) =
      Leaves.WithOutcome inputs (are-left (is_settled want) limit 65536 [] texts old new inputs read)
      (record { read = read; needed = needed; in_turn = turns }) (subst (λ o. IsOutcome program_name o out out' err err' status)
      (sym (command-is words want limit names inputs e)) left)
  leaves-of words e (HasRun.NoMemory inputs read needed turns same written shown status_is) =
      Leaves.NoMemory inputs (are-left is_header_over limit 65536 [] texts old new inputs read) (record { read = read; needed = needed; in_turn = turns }) same (written, shown, status_is)

  pub leaves-by : (chunk : ℕ) (matches : ArgMatches) → chunk ≡ 65536 → job_of (words_used matches) ≡ Ok (record { want = want; limit = limit })
      → HasRun want limit chunk names texts old new out out' err err' status
      → Leaves program_name (outcome_of matches names) (λ ended texts old new inputs out out'. WereRead want limit ended texts old new inputs out out') texts old new out out' err err' status
  leaves-by chunk matches at e has = leaves-of (words_used matches) e (subst (λ c. HasRun want limit c names texts old new out out' err err' status) at has)
