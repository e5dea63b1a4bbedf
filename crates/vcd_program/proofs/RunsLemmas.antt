-- What a program leaves, from what its calls do.
use Rattle.vcd_program.proofs.Cited.{◌≡◌, ◌≢◌, ◌≤◌, ◌+◌, ◌⊎◌, ℕ, Bool, true, false, List, [], length, map, refl, sym, subst, ap, ◌∙◌, inl, inr, arith, codes, cond, is_ok, Option, Some, Result, Ok, Err, Text, ArgMatches, ErrorKind, Outcome, Keeps, Device, Puts, Writes, WritesSome, supply, appends-none, parse_status_of, UseFault, Shows, Tells, unopened_outcome, IsOutcome, Whole, Part, Opens, OpensSome, OpensUpTo, StopsAmong, called, text_of, Answers, Fails, Finishes, HasJob, IsRefusal, Leaves, Programs, Runs, memory_outcome, OpenFault, OpenStop, Bor, length-map}
use Rattle.clap.specs.declared.error.kind.ErrorKind.TheVariants as kind
use Rattle.vcd_words.specs.declared.job.UseFault.TheVariants as use_fault
use Rattle.vcd_host.specs.declared.opened.OpenStop.TheVariants as stop

-- ---- devices

-- nothing is written
pub writes-none : (d : Device) → Writes d d []
writes-none d = (appends-none d.held, refl)

-- nothing is shown
pub shows-none : (d : Device) → Shows d d []
shows-none d = inl (writes-none d)

-- a line on the error stream counts one failure at most
pub shown_once : (old new : Device) (line : List ℕ) → Shows old new line → new.failures ≤ old.failures + 1
shown_once old new line (inl all) = let same = all.1 in omega (arith, same)
shown_once old new line (inr some) = by_flag new.last_failed some.1
  where
    by_flag : (b : Bool) → cond b new.failures 0 ≡ old.failures + 1 → new.failures ≤ old.failures + 1
    by_flag true is = omega (arith, is)
    by_flag false is = absurd (omega (arith, is))

-- what was put is shown, whatever the result
pub put-shows : {A E : Type 0} (old new : Device) (line : List ℕ) (r : Result A E) → Puts old new line r → Shows old new line
put-shows old new line (Ok v) puts = inl puts
put-shows old new line (Err e) puts = inr puts

-- what was put and failed is a prefix
pub puts-some : {A E : Type 0} (old new : Device) (text : List ℕ) (r : Result A E) → Puts old new text r → is_ok r ≡ false → WritesSome old new text
puts-some old new text (Ok v) puts failed = cc
puts-some old new text (Err e) puts failed = puts

-- ---- before a job is run

-- memory ran out, and the line says so
pub memory-fails : (program : Text) (refusal : UseFault → Outcome) (out err err' : Device) (status : ℕ)
    → refusal use_fault.OutOfMemory ≡ memory_outcome → Tells program err err' (refusal use_fault.OutOfMemory).message
    → status ≡ (refusal use_fault.OutOfMemory).status → Fails program (codes "out of memory") out out err err' status
memory-fails program refusal out err err' status memory shown is = (writes-none out, subst (λ o. Tells program err err' o.message) memory shown, is ∙ ap (λ o. o.status) memory)

-- no outcome has output where none was written
without-output : (program : Text) (o : Outcome) (out err err' : Device) (status : ℕ) → o.output ≡ [] → Tells program err err' o.message
    → status ≡ o.status → IsOutcome program o out out err err' status
without-output program o out err err' status none shown is = Whole (subst (λ l. Writes out out l) (sym none) (writes-none out)) shown is

module _ {P J H I : Type 0} (p : Programs P J) (opens : H → Option Text → Result I OpenFault → H → Type 0) (rest : I → Option (List ℕ)) (failures : I
    → ℕ) (last_failed : I → Bool) (matches : ArgMatches) where
  -- memory ran out before an input was opened
  pub no-memory : (host : H) (out err err' : Device) (status : ℕ) (NoneKept : Type 0) → HasJob p matches
      → Fails p.name (codes "out of memory") out out err err' status
      → Runs p opens rest failures last_failed matches host host out out err err' status NoneKept
  no-memory host out err err' status NoneKept is fails = Runs.NoMemory is ([], p.inputs matches, refl, [], host, refl, inl refl) fails

  -- words that ask for no job
  pub refused : (host : H) (out err err' : Device) (status : ℕ) (NoneKept : Type 0) (f : UseFault) → p.asks matches (Err f)
      → IsRefusal f (p.outcome matches [] []) (p.refusal f) → (p.refusal f).output ≡ [] → p.refusal use_fault.OutOfMemory ≡ memory_outcome
      → Tells p.name err err' (p.refusal f).message → status ≡ (p.refusal f).status → Runs p opens rest failures last_failed matches host host out out err err' status NoneKept
  refused host out err err' status NoneKept f is of_words quiet memory shown status_is = by_fault f is of_words quiet shown status_is
    where
      said : (g : UseFault) → p.asks matches (Err g) → g ≢ use_fault.OutOfMemory → p.outcome matches [] [] ≡ p.refusal g → (p.refusal g).output ≡ []
          → Tells p.name err err' (p.refusal g).message → status ≡ (p.refusal g).status
          → Runs p opens rest failures last_failed matches host host out out err err' status NoneKept
      said g is other e quiet shown status_is = Runs.Refused g is other refl
          (subst (λ o. IsOutcome p.name o out out err err' status) (sym e)
          (without-output p.name (p.refusal g) out err err' status quiet shown status_is))

      by_fault : (g : UseFault) → p.asks matches (Err g) → IsRefusal g (p.outcome matches [] []) (p.refusal g) → (p.refusal g).output ≡ []
          → Tells p.name err err' (p.refusal g).message → status ≡ (p.refusal g).status
          → Runs p opens rest failures last_failed matches host host out out err err' status NoneKept
      by_fault use_fault.BadWords is e quiet shown status_is = said use_fault.BadWords is (λ no. cc) e quiet shown status_is
      by_fault (use_fault.BadLimit word) is e quiet shown status_is = said (use_fault.BadLimit word) is (λ no. cc) e quiet shown status_is
      by_fault (use_fault.BadTime word) is e quiet shown status_is = said (use_fault.BadTime word) is (λ no. cc) e quiet shown status_is
      by_fault use_fault.FromAboveTo is e quiet shown status_is = said use_fault.FromAboveTo is (λ no. cc) e quiet shown status_is
      by_fault use_fault.NotRising is e quiet shown status_is = said use_fault.NotRising is (λ no. cc) e quiet shown status_is
      by_fault use_fault.TooManyFiles is e quiet shown status_is = said use_fault.TooManyFiles is (λ no. cc) e quiet shown status_is
      by_fault use_fault.InputTwice is e quiet shown status_is = said use_fault.InputTwice is (λ no. cc) e quiet shown status_is
      by_fault (use_fault.BadArgument first second) is e quiet shown status_is = said (use_fault.BadArgument first second) is (λ no. cc) e quiet shown status_is
      by_fault use_fault.OutOfMemory is e quiet shown status_is = no-memory host out err err' status NoneKept (inr is) (memory-fails p.name p.refusal out err err' status memory shown status_is)

  module _ (host host' : H) (out out' err err' : Device) (status : ℕ) (NoneKept : Type 0) (job : J) (is : p.asks matches (Ok job)) where
    -- an input that cannot be opened
    pub stopped : (names : List (Option Text)) (why : OpenStop) (said : Option (Bor Text)) → names ≡ p.inputs matches → why ≡ stop.Unopened said
        → StopsAmong opens names host host' why → out' ≡ out → Tells p.name err err' (unopened_outcome (called (text_of said))).message → status ≡ 3
        → Runs p opens rest failures last_failed matches host host' out out' err err' status NoneKept
    stopped names why said named at stops same shown three =
        Runs.Stopped job is (text_of said) (subst (λ l. OpensUpTo opens l (text_of said) host host') named (subst (λ w. StopsAmong opens names host host' w) at stops))
        (subst (λ o. IsOutcome p.name (unopened_outcome (called (text_of said))) out o err err' status) (sym same)
        (without-output p.name (unopened_outcome (called (text_of said))) out err err' status refl shown three))

    -- memory ran out while inputs were opened
    pub memory-stopped : (names : List (Option Text)) (why : OpenStop) → names ≡ p.inputs matches → why ≡ stop.OutOfMemory
        → StopsAmong opens names host host' why → Fails p.name (codes "out of memory") out out' err err' status
        → Runs p opens rest failures last_failed matches host host' out out' err err' status NoneKept
    memory-stopped names why named at stops fails = Runs.NoMemory (inl (job, is)) (subst (λ l. OpensSome opens l host host') named (subst (λ w. StopsAmong opens names host host' w) at stops)) fails

    -- the job was run over the inputs that the words ask for
    pub ran : (names : List Text) (readers after : List I) → names ≡ map called (p.inputs matches) → Opens opens host (p.inputs matches) readers host'
        → p.ends job names (map failures readers) (map failures after) (map last_failed after) out out' err err' status
        → ((m : ArgMatches) → p.asks m (Ok job) → (texts : List Text) → map rest readers ≡ map (λ text. Some text) texts
        → Leaves p.name (p.outcome m names) (p.reads job) texts (map (supply rest failures) readers)
        (map (supply rest failures) after) out out' err err' status)
        → (map failures after ≢ map failures readers → NoneKept)
        → Runs p opens rest failures last_failed matches host host' out out' err err' status NoneKept
    ran names readers after named opened ends leaves passed_on =
        Runs.Ran job is readers after opened (subst (λ l. p.ends job l (map failures readers) (map failures after) (map last_failed after) out out' err err' status) named ends)
        (λ texts have. subst (λ l. Leaves p.name (p.outcome matches l) (p.reads job) texts (map (supply rest failures) readers)
        (map (supply rest failures) after) out out' err err' status) named (leaves matches is texts have)) passed_on

-- as many names as inputs
pub names-many : {A : Type 0} (bytes : A → Text) (names : List A) (asked : List (Option Text)) → map bytes names ≡ map called asked → length names ≡ length asked
names-many bytes names asked e = sym (length-map names bytes) ∙ ap length e ∙ length-map asked called

-- ---- answers of a parse

-- the statuses of a parse
pub statuses : (why : ErrorKind) → (parse_status_of why ≡ 0) ⊎ ((parse_status_of why ≡ 2) ⊎ (parse_status_of why ≡ 3))
statuses kind.InvalidValue = inr (inl refl)
statuses kind.UnknownArgument = inr (inl refl)
statuses kind.InvalidSubcommand = inr (inl refl)
statuses kind.NoEquals = inr (inl refl)
statuses kind.ValueValidation = inr (inl refl)
statuses kind.TooManyValues = inr (inl refl)
statuses kind.TooFewValues = inr (inl refl)
statuses kind.WrongNumberOfValues = inr (inl refl)
statuses kind.ArgumentConflict = inr (inl refl)
statuses kind.MissingRequiredArgument = inr (inl refl)
statuses kind.MissingSubcommand = inr (inl refl)
statuses kind.DisplayHelp = inl refl
statuses kind.DisplayHelpOnMissingArgumentOrSubcommand = inr (inl refl)
statuses kind.DisplayVersion = inl refl
statuses kind.Io = inr (inl refl)
statuses kind.Format = inr (inl refl)
statuses kind.OutOfMemory = inr (inr refl)

-- where it is neither 3 nor 2 it is 0
pub status-zero : (why : ErrorKind) (n : ℕ) → n ≡ parse_status_of why → (n ≡ 3 → ⊥) → (n ≡ 2 → ⊥) → parse_status_of why ≡ 0
status-zero why n e no3 no2 = elim (statuses why) [ inl zero ↦ zero | inr more ↦ elim more [ inl two ↦ absurd (no2 (e ∙ two)) | inr three ↦ absurd (no3 (e ∙ three)) ] ]

-- where it is not 3, there was memory
no-memory-fault : (why : ErrorKind) (n : ℕ) → parse_status_of why ≡ n → (3 ≡ n → ⊥) → why ≢ kind.OutOfMemory
no-memory-fault why n e no3 = λ memory. no3 (ap parse_status_of (sym memory) ∙ e)

-- no status of a parse is above 3
pub kind-low : (why : ErrorKind) → parse_status_of why ≤ 3
kind-low why = elim (statuses why) [ inl e ↦ omega arith | inr more ↦ elim more [ inl e ↦ omega arith | inr e ↦ omega arith ] ]

module _ (program : Text) (why : ErrorKind) (text : Text) where
  -- the text was put on the error stream
  pub answer-shown : (out err err' : Device) → parse_status_of why ≡ 2 → Shows err err' text → Answers program why out out err err' 2
  answer-shown out err err' e shown = inl (no-memory-fault why 2 e (λ bad. absurd (omega (arith, bad))), text, inr ((λ zero. absurd (omega (arith, e, zero))), writes-none out, shown, sym e))

  -- it was written on the output
  pub answer-written : (out out' err : Device) → parse_status_of why ≡ 0 → Writes out out' text → Answers program why out out' err err 0
  answer-written out out' err e written = inl (no-memory-fault why 0 e (λ bad. absurd (omega (arith, bad))), text, inl (e, Whole written (shows-none err) refl))

  -- a write of it failed
  pub answer-failed : (out out' err err' : Device) (status : ℕ) → parse_status_of why ≡ 0 → WritesSome out out' text
      → Tells program err err' (codes "write failed") → status ≡ 3 → Answers program why out out' err err' status
  answer-failed out out' err err' status e written shown is = inl (no-memory-fault why 0 e (λ bad. absurd (omega (arith, bad))), text, inl (e, Part written shown is))

-- ---- the flush

pub finished : {W : Type 0} (program : Text) (device : W → Device) (flushes : W → Bool → W → Type 0) (Left : (out : W) → (err : Device) → ℕ → Type 0)
    (before out' : W) (err' : Device) (status : ℕ) (is : Bool)
    → Left before err' status → flushes before is out' → Keeps (device before).held (device out').held
    → (device out').failures ≡ (device before).failures → (is ≡ false → 3 ≤ status) → Finishes program device flushes Left out' err' status
finished program device flushes Left before out' err' status true left flushed held same machine = Finishes.Flushed before left flushed held same
finished program device flushes Left before out' err' status false left flushed held same machine = Finishes.Failed before left (machine refl) flushed held same

pub apart : true ≡ false → ⊥
apart e = cc
