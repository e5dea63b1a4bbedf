-- What callers rely on of the programs over one input, from their contracts.
use Rattle.std.proofs.Common.{◌≡◌, ℕ, ◌≤◌, Bool, ◌≢◌, List, [], ◌∷◌, ◌++◌, map, ap, ◌∙◌, refl, sym, subst}
use Rattle.std.specs.Prelude.{codes, Option, Some, None, Result, Ok, Err, IfOk}
use Rattle.std.specs.declared.io.Read.{Ghosts as Reads}
use Rattle.vcd_text.specs.declared.device.Sink.{Ghosts as Sinks}
use Rattle.clap.specs.Words.{Text}
use Rattle.clap.specs.declared.parser.matches.ArgMatches.{ArgMatches}
use Rattle.vcd_model.specs.Input.{Input}
use Rattle.vcd_model.specs.Outcome.{Outcome}
use Rattle.vcd_text.specs.Answer.{whole}
use Rattle.vcd_words.specs.Words.{use_text}
use Rattle.vcd_words.specs.declared.job.UseFault.{UseFault}
use Rattle.vcd_words.specs.declared.job.UseFault.TheVariants as use_fault
use Rattle.vcd_compare_words.specs.Asked.{asked_in, comparing_asked}
use Rattle.vcd_compare_words.specs.Asked as comparing
use Rattle.vcd_compare_words.specs.Words.{compare_app}
use Rattle.vcd_strobe_words.specs.Asked.{strobe_asked, strobe_in}
use Rattle.vcd_strobe_words.specs.Asked as strobing
use Rattle.vcd_strobe_words.specs.Words.{strobe_app}
use Rattle.vcdkit_compare.specs.Calls.{speech_in as compare_speech}
use Rattle.vcdkit_compare.specs.Program as compare
use Rattle.vcdkit_compare.specs.Work.{work_in as compare_work}
use Rattle.vcdkit_compare.specs.Whole.{compare_program}
use Rattle.vcdkit_strobe.specs.Calls.{speech_in as strobe_speech}
use Rattle.vcdkit_strobe.specs.Program as strobe
use Rattle.vcdkit_strobe.specs.Work.{work_in as strobe_work}
use Rattle.vcdkit_strobe.specs.Whole.{strobe_program}
use Rattle.vcdkit.specs.Message.{unopened_outcome}
use Rattle.vcd_host.specs.Opens.{called}
use Rattle.vcd_program.specs.Memory.{End, IsLeft, IsLeftBy, IsLeftOf, bytes_among}
use Rattle.vcd_program.specs.declared.memory.MemoryFile.{MemoryFile}
use Rattle.vcd_program.specs.ProcessRun.{Delivers, RunsAs}
use Rattle.vcd_program.specs.declared.process.Process.{Ghosts}
use Rattle.vcd_program.specs.declared.program.Program.{Ghosts as Programs}
use Rattle.vcd_program_tests.specs.Relies.{ReliesOnProcess}
use Rattle.vcd_program_tests.proofs.ReliesLemmas.{one-process-of}
use Rattle.vcd_program_tests.specs.Beyond.{compare_told, strobe_told, Relies, ReliesOnCompare, ReliesOnStrobe, input_of}

-- ---- over a process

pub compare-process-of : {P F I B K W E : Type 0} (p : Ghosts P F I B K) (f : Reads F) (i : Reads I) (w : Sinks W) (flushes : W → Bool → W → Type 0)
    (e : Sinks E) (sends : E → Bool → E → Type 0) (process process' : P) (out out' : W) (err err' : E) (status : ℕ)
    → Delivers e.device sends (λ shown. RunsAs compare_program p f i w flushes process process' out out' (e.device err) shown status) err'
    → ReliesOnProcess compare_told p f i w flushes e sends process process' out out' err err' status
compare-process-of = one-process-of (codes "vcdkit-compare") (λ n. n ≤ 1) compare_speech compare_work (λ job. 1048576) compare_app comparing.Asks compare.outcome_of

pub strobe-process-of : {P F I B K W E : Type 0} (p : Ghosts P F I B K) (f : Reads F) (i : Reads I) (w : Sinks W) (flushes : W → Bool → W → Type 0)
    (e : Sinks E) (sends : E → Bool → E → Type 0) (process process' : P) (out out' : W) (err err' : E) (status : ℕ)
    → Delivers e.device sends (λ shown. RunsAs strobe_program p f i w flushes process process' out out' (e.device err) shown status) err'
    → ReliesOnProcess strobe_told p f i w flushes e sends process process' out out' err err' status
strobe-process-of = one-process-of (codes "vcdkit-strobe") (λ n. n ≡ 0) strobe_speech strobe_work (λ job. job.limit) strobe_app strobing.Asks strobe.outcome_of

-- ---- in memory

-- the first of the inputs before a missing one, if there is only one input
only-before : {X : Type 0} (x y : X) (before after : List X) → x ∷ [] ≡ before ++ y ∷ after → (before ≡ []) × (x ≡ y)
only-before x y [] after e = (refl, cc)
only-before x y (z ∷ []) after e = absurd (cc)
only-before x y (z ∷ w ∷ before) after e = absurd (cc)

module _ {P J : Type 0} (p : Programs P J) (IsDue : ArgMatches → (name : Text) → Input → Outcome → Type 0) (IsRefused : ArgMatches → Outcome → Type 0)
    (only : (matches : ArgMatches) → p.inputs matches ≡ input_of matches ∷ [])
    (due : (matches : ArgMatches) (job : J) (name : Text) (i : Input) → p.asks matches (Ok job) → IsDue matches name i (p.outcome matches (name ∷ []) (i ∷ [])))
    (refused : (matches : ArgMatches) (f : UseFault) → p.asks matches (Err f) → f ≢ use_fault.OutOfMemory → IsRefused matches (p.outcome matches [] []))
    (words : List Text) (files : List MemoryFile) (input : Text) (left : End) where
  abbrev Is : Type 0
  Is = Relies p.name p.app IsDue IsRefused words files input left

  by-texts : (matches : ArgMatches) (job : J) → p.asks matches (Ok job) → (texts : List Text)
      → bytes_among files input (input_of matches) ∷ [] ≡ map (λ text. Some text) texts
      → IsLeft p.name left (input_of matches ∷ []) (p.outcome matches (called (input_of matches) ∷ []) (map whole texts))
      → (text : Text) × (bytes_among files input (input_of matches) ≡ Some text)
      × ((o : Outcome) × IsDue matches (called (input_of matches)) (whole text) o × IsLeft p.name left (input_of matches ∷ []) o)
  by-texts matches job is [] have leaves = absurd (cc)
  by-texts matches job is (text ∷ []) have leaves = (text, cc, (_, due matches job (called (input_of matches)) (whole text) is, leaves))
  by-texts matches job is (text ∷ other ∷ more) have leaves = absurd (cc)

  relies : IsLeftBy p words files input left → Is
  relies (IsLeftBy.Parsed matches are (IsLeftOf.Refused fault is of_words leaves)) =
      Relies.Refused matches are _ (refused matches fault is of_words) leaves
  relies (IsLeftBy.Parsed matches are (IsLeftOf.Ran job is texts have leaves)) =
      let f = by-texts matches job is texts (sym (ap (map (λ name. bytes_among files input name)) (only matches)) ∙ have)
      (subst (λ l. IsLeft p.name left l (p.outcome matches (map called l) (map whole texts))) (only matches) leaves) in
      Relies.Ran matches are f.0 f.1 f.2.0 f.2.1 f.2.2
  relies (IsLeftBy.Parsed matches are (IsLeftOf.Stopped job is before after name order texts have missing leaves)) =
      let f = only-before (input_of matches) name before after (sym (only matches) ∙ order) in
      Relies.Missing matches are (ap (bytes_among files input) f.1 ∙ missing)
      (subst (λ (n : Option Text). IsLeft p.name left (n ∷ []) (unopened_outcome (called n))) (sym f.1)
      (subst (λ (l : List (Option Text)). IsLeft p.name left (l ++ name ∷ []) (unopened_outcome (called name))) f.0 leaves))
  relies (IsLeftBy.NoMatches why is only other text leaves) = Relies.NoMatches why is only other text leaves
  relies (IsLeftBy.NoMemory fails) = Relies.NoMemory fails

pub on-compare : (words : List Text) (files : List MemoryFile) (input : Text) (left : End) → IsLeftBy compare_program words files input left
    → ReliesOnCompare words files input left
on-compare = relies compare_program _ _ (λ matches. refl)
    (λ matches job name i is. (asked_in job, is, ap (λ r. compare.outcome_if r (name ∷ []) (i ∷ [])) is)) refuses
  where
    refuses : (matches : ArgMatches) (f : UseFault) → compare_program.asks matches (Err f) → f ≢ use_fault.OutOfMemory
        → (why : Text) × (comparing_asked matches ≡ Err why) × (compare.outcome_of matches [] [] ≡ record { output = []; message = why; status = 2 })
    refuses matches use_fault.OutOfMemory is other = absurd (other refl)
    refuses matches f is other = (use_text f, is, ap (λ r. compare.outcome_if r [] []) is)

pub on-strobe : (words : List Text) (files : List MemoryFile) (input : Text) (left : End) → IsLeftBy strobe_program words files input left
    → ReliesOnStrobe words files input left
on-strobe = relies strobe_program _ _ (λ matches. refl)
    (λ matches job name i is. ((strobe_in job, job.limit), is, ap (λ r. strobe.outcome_if r (name ∷ []) (i ∷ [])) is)) refuses
  where
    refuses : (matches : ArgMatches) (f : UseFault) → strobe_program.asks matches (Err f) → f ≢ use_fault.OutOfMemory
        → (why : Text) × (strobe_asked matches ≡ Err why) × (strobe.outcome_of matches [] [] ≡ record { output = []; message = why; status = 2 })
    refuses matches use_fault.OutOfMemory is other = absurd (other refl)
    refuses matches f is other = (use_text f, is, ap (λ r. strobe.outcome_if r [] []) is)

-- what follows from what holds of a result that is there
pub if-ok : {A B : Type 0} (P Q : A → Type 0) → ((x : A) → P x → Q x) → (r : Result A B) → IfOk r P → IfOk r Q
if-ok P Q so (Ok x) holds = so x holds
if-ok P Q so (Err e) holds = tt
