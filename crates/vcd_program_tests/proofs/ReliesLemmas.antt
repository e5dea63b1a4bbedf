-- What callers rely on, from the contract of the program.
use Rattle.std.proofs.Common.{◌≡◌, ℕ, Bool, true, false, ◌⊎◌, ◌≢◌, List, [], ◌∷◌, map, ap, ◌∙◌, inl, inr, refl, subst}
use Rattle.std.specs.Prelude.{Option, Some, None, Result, Ok, Err, is_some}
use Rattle.std.specs.declared.io.Read.{Ghosts as Reads}
use Rattle.clap.specs.Words.{App, Text}
use Rattle.clap.specs.declared.parser.matches.ArgMatches.{ArgMatches}
use Rattle.vcd_model.specs.Input.{Input}
use Rattle.vcd_model.specs.Job.{Want}
use Rattle.vcd_model.specs.Outcome.{Outcome, allowed_after, declarations_allowed}
use Rattle.vcd_model.specs.Due.{due}
use Rattle.vcd_model.specs.Settled.{is_header_over, is_settled}
use Rattle.vcd_model.specs.Tokens.{Token}
use Rattle.vcd_model.specs.Words as model
use Rattle.vcd_model.specs.Words.{job_of}
use Rattle.vcd_text.specs.Answer.{whole}
use Rattle.vcd_text.specs.Device.{Device, Supply, supply}
use Rattle.vcd_text.specs.ReadAhead.{ReadsAsNeeded}
use Rattle.vcd_text.specs.declared.device.Sink.{Ghosts as Sinks}
use Rattle.vcd_text.specs.declared.device.Watch.{Watch}
use Rattle.vcd_body.specs.Answer.{IsLeft}
use Rattle.vcd_body.specs.Pace.{KeepsUp}
use Rattle.vcd_merge.specs.MergeRun.{AreReadOnTurn}
use Rattle.vcd_merge.specs.Seat.{Lane}
use Rattle.vcd_words.specs.Job.{model_want}
use Rattle.vcd_words.specs.Words.{words_used}
use Rattle.vcd_words.specs.declared.job.UseFault.{UseFault}
use Rattle.vcd_words.specs.declared.job.UseFault.TheVariants as use_fault
use Rattle.vcd_job.specs.OneProgram.{EndsAlone, Reads as ReadsOne}
use Rattle.vcd_job.specs.Ends.{Speech}
use Rattle.vcd_job.specs.Work.{Work, due_of as due_in, settled_of}
use Rattle.vcdkit.specs.Message.{use_outcome}
use Rattle.vcdkit.specs.Inputs.{AreBegun, Stops, headers_in}
use Rattle.vcdkit.specs.Work.{program_name}
use Rattle.vcdkit.specs.Run.{AreInTurn, AreMergedInTurn, AreRead, IsOutcome}
use Rattle.vcd_host.specs.declared.host.OpenFault.{OpenFault}
use Rattle.vcd_host.specs.declared.host.OpenFault.TheVariants.{Unopened, OutOfMemory}
use Rattle.vcd_program.specs.Leaves.{Leaves}
use Rattle.vcd_program.specs.OneInput.{only_input}
use Rattle.vcd_program.specs.declared.program.Program.{Ghosts as Programs}
use Rattle.vcd_program.specs.Process.{OpensInput, bytes_left}
use Rattle.vcd_program.specs.ProcessRun.{Delivers, RunsAs}
use Rattle.vcd_program.specs.Runs.{Finishes, KeepsNoneBack, Runs, RunsOn}
use Rattle.vcd_program.specs.Vcdkit.{Asks, WereRead}
use Rattle.vcd_program.specs.VcdkitProgram.{vcdkit_program}
use Rattle.vcd_program.proofs.UnderLemmas.{program-under}
use Rattle.vcd_program.specs.declared.process.Process.{Ghosts}
use Rattle.vcd_program.specs.declared.process.Stream.{Stream}
use Rattle.vcd_program.specs.declared.process.Stream.TheVariants.{File, Input as Standard, Refused as Failing}
use Rattle.vcd_program_tests.specs.Relies.{AreOnTurn, EndsFlushed, EndsWith, OpensOne, Over, OverMany, OverOne, OverOnly, Relies, ReliesOnProcess, Told, bytes_of, is_merge, one_told, stream_bytes, vcdkit, vcdkit_told}

ends-with : (program : Text) (o : Outcome) (out out' err err' : Device) (status : ℕ) → IsOutcome program o out out' err err' status → EndsWith program o out out' err err' status
ends-with program o out out' err err' status (IsOutcome.Whole written shown is) = inl (written, shown, is)
ends-with program o out out' err err' status (IsOutcome.Part written shown is) = inr (written, shown, is)

-- ---- a job of vcdkit

-- the one input of a run that has one
one-input : (settled : ℕ → List Token → Bool) (limit : ℕ) (text : Text) (s t : Supply) (inputs : List Input) → AreRead settled limit 65536 [] (text ∷ []) (s ∷ []) (t ∷ []) inputs
    → (i : Input) × (inputs ≡ i ∷ []) × IsLeft (whole text) s t i × ReadsAsNeeded limit 65536 s t i [] (settled (allowed_after []))
one-input settled limit text s t [] read = absurd read
one-input settled limit text s t (i ∷ inputs) read = (i, ap (λ l. i ∷ l) read.2, read.0, read.1)

module _ (limit : ℕ) (texts : List Text) (s t : Supply) (i : Input) (out out' : Device) where
  keeps-up : (want : Want) (inputs : List Input) → is_merge want ≡ false → inputs ≡ i ∷ []
      → AreInTurn want limit 65536 texts (s ∷ []) (t ∷ []) inputs out out' → KeepsUp (due want declarations_allowed) limit 65536 i [] s t out out'
  keeps-up Want.Check inputs single is turns = turns s t i refl refl is
  keeps-up Want.Listing inputs single is turns = turns s t i refl refl is
  keeps-up (Want.Pick names) inputs single is turns = turns s t i refl refl is
  keeps-up (Want.Cut from to) inputs single is turns = turns s t i refl refl is
  keeps-up (Want.Sample times names) inputs single is turns = turns s t i refl refl is
  keeps-up (Want.Edges names) inputs single is turns = turns s t i refl refl is
  keeps-up Want.Merge inputs single is turns = absurd cc

on-turn : (limit : ℕ) (lanes : List Lane) (old new : List Supply) (lefts : List Input) (out out' : Device)
    → AreReadOnTurn limit 65536 (headers_in lanes) lanes old new lefts out out' → AreOnTurn limit lanes old new lefts out out'
on-turn limit lanes old new lefts out out' (AreReadOnTurn.Unread same) = inl same
on-turn limit lanes old new lefts out out' (AreReadOnTurn.OnTurn merged headers begins more written each) =
    inr (merged, headers, begins, more, written, λ k l s t i is_l is_s is_t is_i. elim (each k l s t i is_l is_s is_t is_i) [ inl same ↦ inl same | inr r ↦ inr (r.items, r.first, r.no_more) ])

-- what the program leaves of this job over inputs with these texts
abbrev LeavesOver : (want : Want) (limit : ℕ) → (List Input → Outcome) → (texts : List Text) → (old new : List Supply) → (out out' err err' : Device) → (status : ℕ) → Type 0
LeavesOver want limit due_of texts old new out out' err err' status = Leaves program_name due_of
    (λ ended texts old new inputs out out'. WereRead want limit ended texts old new inputs out out') texts old new out out' err err' status

-- what holds of inputs holds of the only one
only-so : (P : List Text → List Supply → List Supply → Type 0) (texts : List Text) (old new : List Supply) (text : Text) (s t : Supply)
    → texts ≡ text ∷ [] → old ≡ s ∷ [] → new ≡ t ∷ [] → P texts old new → P (text ∷ []) (s ∷ []) (t ∷ [])
only-so P texts old new text s t is_text is_old is_new p =
    subst (P (text ∷ []) (s ∷ [])) is_new (subst (λ l. P (text ∷ []) l new) is_old (subst (λ l. P l old new) is_text p))

module _ (limit : ℕ) (due_of : List Input → Outcome) (out out' err err' : Device) (status : ℕ) where
  over-one : (want : Want) (text : Text) (s t : Supply) → is_merge want ≡ false
      → LeavesOver want limit due_of (text ∷ []) (s ∷ []) (t ∷ []) out out' err err' status
      → OverOne vcdkit limit 65536 (is_settled want (allowed_after [])) (is_header_over (allowed_after [])) (due want declarations_allowed)
      (λ i. due_of (i ∷ [])) out out' err err' status text s t
  over-one want text s t single (Leaves.WithOutcome inputs lefts read leaves) =
      let one = one-input (is_settled want) limit text s t inputs read.read in
      let kept = keeps-up limit (text ∷ []) s t one.0 out out' want inputs single one.1 read.in_turn in
      record {
        left = one.0;
        is_left = one.2;
        written = kept.0;
        is_written = kept.1;
        keeps_up = kept.2;
        ends = inl (ends-with vcdkit _ out out' err err' status (subst (λ l. IsOutcome program_name (due_of l) out out' err err' status) one.1 leaves), one.3);
      }
  over-one want text s t single (Leaves.NoMemory inputs lefts read same fails) =
      let one = one-input is_header_over limit text s t inputs read.read in
      let kept = keeps-up limit (text ∷ []) s t one.0 out out' want inputs single one.1 read.in_turn in
      record {
        left = one.0;
        is_left = one.2;
        written = kept.0;
        is_written = kept.1;
        keeps_up = kept.2;
        ends = inr (fails, one.3, same);
      }

  merged-in-turn : (texts : List Text) (old new : List Supply) (inputs : List Input) → AreMergedInTurn limit 65536 texts old new inputs out out'
      → ((why : _) × Stops limit 65536 0 [] texts old new why) ⊎ ((lanes : List Lane) × (mid : List Supply)
      × AreBegun limit 65536 [] texts old mid lanes × AreOnTurn limit lanes mid new inputs out out')
  merged-in-turn texts old new inputs (AreMergedInTurn.InHeaders why stops) = inl (why, stops)
  merged-in-turn texts old new inputs (AreMergedInTurn.InBodies lanes mid begun bodies) = inr (lanes, mid, begun, on-turn limit lanes mid new inputs out out' bodies)

  over-many : (want : Want) (texts : List Text) (old new : List Supply) → is_merge want ≡ true
      → LeavesOver want limit due_of texts old new out out' err err' status → OverMany limit due_of out out' err err' status texts old new
  over-many Want.Merge texts old new merges (Leaves.WithOutcome inputs lefts read leaves) =
      record { lefts = inputs; needed = read.needed; on_turn = merged-in-turn texts old new inputs read.in_turn; ends = inl (ends-with vcdkit _ out out' err err' status leaves, read.read) }
  over-many Want.Merge texts old new merges (Leaves.NoMemory inputs lefts read same fails)
      = record {
        lefts = inputs;
        needed = read.needed;
        on_turn = merged-in-turn texts old new inputs read.in_turn;
        ends = inr
            (fails, read.read, same);
      }
  over-many Want.Check texts old new merges leaves = absurd cc
  over-many Want.Listing texts old new merges leaves = absurd cc
  over-many (Want.Pick names) texts old new merges leaves = absurd cc
  over-many (Want.Cut from to) texts old new merges leaves = absurd cc
  over-many (Want.Sample times names) texts old new merges leaves = absurd cc
  over-many (Want.Edges names) texts old new merges leaves = absurd cc

  over-of : (want : Want) (texts : List Text) (old new : List Supply) → LeavesOver want limit due_of texts old new out out' err err' status
      → Over want limit due_of out out' err err' status texts old new
  over-of want texts old new leaves = record {
    one = λ single text s t is_text is_old is_new. over-one want text s t single
        (only-so (λ texts old new. LeavesOver want limit due_of texts old new out out' err err' status) texts old new text s t is_text is_old is_new leaves);
    many = λ merges. over-many want texts old new merges leaves;
  }

-- words that are refused have a fault
fault-of : (matches : ArgMatches) (f : UseFault) → Asks matches (Err f) → f ≢ use_fault.OutOfMemory → (g : model.UseFault) × (job_of (words_used matches) ≡ Err g)
fault-of matches use_fault.BadWords e other = (model.UseFault.BadWords, e)
fault-of matches (use_fault.BadLimit word) e other = (model.UseFault.BadLimit word.now, e)
fault-of matches (use_fault.BadTime word) e other = (model.UseFault.BadTime word.now, e)
fault-of matches use_fault.FromAboveTo e other = (model.UseFault.FromAboveTo, e)
fault-of matches use_fault.NotRising e other = (model.UseFault.NotRising, e)
fault-of matches use_fault.TooManyFiles e other = (model.UseFault.TooManyFiles, e)
fault-of matches use_fault.InputTwice e other = (model.UseFault.InputTwice, e)
fault-of matches (use_fault.BadArgument first second) e other = absurd e
fault-of matches use_fault.OutOfMemory e other = absurd (other refl)

-- functions that agree on each element make the same list
same-map : {A B : Type 0} (f g : A → B) → ((x : A) → f x ≡ g x) → (xs : List A) → map f xs ≡ map g xs
same-map f g same [] = refl
same-map f g same (x ∷ xs) = ap (λ y. y ∷ map f xs) (same x) ∙ ap (λ l. g x ∷ l) (same-map f g same xs)

-- ---- a job over one input

module _ (program : Text) (work : Work) (limit chunk : ℕ) (due_of : List Input → Outcome) (out out' err err' : Device) (status : ℕ) where
  abbrev LeavesOne : (texts : List Text) (old new : List Supply) → Type 0
  LeavesOne texts old new = Leaves program due_of (λ ended texts old new inputs out out'. ReadsOne work limit chunk ended old new inputs out out')
      texts old new out out' err err' status

  abbrev Only : (text : Text) (s t : Supply) → Type 0
  Only text s t = OverOne program limit chunk (settled_of work [] declarations_allowed) (is_header_over declarations_allowed) (due_in work [] declarations_allowed)
      (λ i. due_of (i ∷ [])) out out' err err' status text s t

  only-one : (text : Text) (s t : Supply) → LeavesOne (text ∷ []) (s ∷ []) (t ∷ []) → Only text s t
  only-one text s t (Leaves.WithOutcome (i ∷ []) left read leaves) = record {
    left = i;
    is_left = left.0;
    written = read.keeps_up.0;
    is_written = read.keeps_up.1;
    keeps_up = read.keeps_up.2;
    ends = inl (ends-with program _ out out' err err' status leaves, read.read);
  }
  only-one text s t (Leaves.NoMemory (i ∷ []) left read same fails) = record {
    left = i;
    is_left = left.0;
    written = read.keeps_up.0;
    is_written = read.keeps_up.1;
    keeps_up = read.keeps_up.2;
    ends = inr (fails, read.read, same);
  }
  only-one text s t (Leaves.WithOutcome [] left read leaves) = absurd left
  only-one text s t (Leaves.WithOutcome (i ∷ j ∷ more) left read leaves) = absurd read
  only-one text s t (Leaves.NoMemory [] left read same fails) = absurd left
  only-one text s t (Leaves.NoMemory (i ∷ j ∷ more) left read same fails) = absurd read

  over-only : (texts : List Text) (old new : List Supply) → LeavesOne texts old new
      → OverOnly program limit chunk (settled_of work [] declarations_allowed) (is_header_over declarations_allowed) (due_in work [] declarations_allowed)
      due_of out out' err err' status texts old new
  over-only texts old new leaves text s t is_text is_old is_new = only-one text s t (only-so LeavesOne texts old new text s t is_text is_old is_new leaves)

-- ---- any program

-- what callers rely on, of a program that parses words, names inputs and speaks so
abbrev told : {P J : Type 0} → Programs P J → Told J → Told J
told p a = record a { name = p.name; app = p.app; inputs = p.inputs; outcome = p.outcome; refusal = p.refusal }

-- what a program says of itself is what callers rely on
record Keeps {P J : Type 0} (p : Programs P J) (a : Told J) : Type 0 where
  asks : (matches : ArgMatches) (job : J) → p.asks matches (Ok job) → a.asks matches job
  faulty : (matches : ArgMatches) (f : UseFault) → p.asks matches (Err f) → f ≢ use_fault.OutOfMemory → a.faulty matches
  ends : (job : J) (names : List Text) (before after : List ℕ) (last_failed : List Bool) (out out' err err' : Device) (status : ℕ)
      → p.ends job names before after last_failed out out' err err' status → a.ends job names before after last_failed out out' err err' status
  over : (job : J) (due_of : List Input → Outcome) (out out' err err' : Device) (status : ℕ) (texts : List Text) (old new : List Supply)
      → Leaves p.name due_of (p.reads job) texts old new out out' err err' status → a.over job due_of out out' err err' status texts old new

-- `rest` says the same as `rest_now`
module _ {P J H I : Type 0} (p : Programs P J) (a : Told J) (keeps : Keeps p a)
    (words : List Text) (opens : H → Option Text → Result I OpenFault → H → Type 0) (rest rest_now : I → Option (List ℕ))
    (same : (x : I) → rest x ≡ rest_now x) (failures : I → ℕ) (out out' err err' : Device) (status : ℕ) where
  over-now : (due_of : List Input → Outcome) (job : J) (readers after : List I) (texts : List Text)
      → (map rest readers ≡ map (λ text. Some text) texts → Leaves p.name due_of (p.reads job) texts (map (supply rest failures) readers)
      (map (supply rest failures) after) out out' err err' status)
      → map rest_now readers ≡ map (λ text. Some text) texts → a.over job due_of out out' err err' status texts
      (map (supply rest_now failures) readers) (map (supply rest_now failures) after)
  over-now due_of job readers after texts leaves have =
      let supplies = same-map (supply rest failures) (supply rest_now failures) (λ x. ap (λ r. record { rest = r; failures = failures x }) (same x)) in
      keeps.over job due_of out out' err err' status texts _ _
      (subst (λ l. Leaves p.name due_of (p.reads job) texts (map (supply rest_now failures) readers) l out out' err err' status) (supplies after)
      (subst (λ l. Leaves p.name due_of (p.reads job) texts l (map (supply rest failures) after) out out' err err' status) (supplies readers) (leaves (same-map rest rest_now same readers ∙ have))))

  relies-of : (last_failed : I → Bool) (host host' : H) (kept kept' : ℕ)
      → RunsOn p words opens rest failures last_failed host host' out out' err err' status (kept ≡ 0 → kept' ≡ 0)
      → Relies (told p a) words opens rest_now failures last_failed host host' out out' err err' kept kept' status
  relies-of last_failed host host' kept kept' (RunsOn.Parsed matches are (Runs.Refused fault is of_words same leaves)) =
      Relies.Refused matches are (keeps.faulty matches fault is of_words) same (ends-with p.name _ out out' err err' status leaves)
  relies-of last_failed host host' kept kept' (RunsOn.Parsed matches are (Runs.Ran job is readers after opened ends leaves passed_on)) =
      Relies.Ran matches are job (keeps.asks matches job is) readers after opened (keeps.ends job _ _ _ _ out out' err err' status ends)
      (λ texts. over-now _ job readers after texts (leaves texts)) passed_on
  relies-of last_failed host host' kept kept' (RunsOn.Parsed matches are (Runs.Stopped job is name opened leaves))
      = Relies.Stopped matches are job (keeps.asks matches job is) name opened (ends-with p.name _ out out' err err' status leaves)
  relies-of last_failed host host' kept kept' (RunsOn.Parsed matches are (Runs.NoMemory is opened fails)) = Relies.NoMemory matches are opened fails
  relies-of last_failed host host' kept kept' (RunsOn.NoMatches why is only same answers) = Relies.NoMatches why is only same answers

ends-flushed : {W : Type 0} (program : Text) (device : W → Device) (flushes : W → Bool → W → Type 0) (Left Then : (out : W) → (err : Device) → ℕ → Type 0) (out' : W)
    (err' : Device) (status : ℕ) → ((out : W) (err : Device) (n : ℕ) → Left out err n → Then out err n)
    → Finishes program device flushes Left out' err' status → EndsFlushed program device flushes Then out' err' status
ends-flushed program device flushes Left Then out' err' status so (Finishes.Flushed before left flushed held same) =
    record { before = before; shown = err'; was = status; left = so _ _ _ left; done = true; flushed = (flushed, held, same); answer = inl (refl, refl, λ failed. absurd cc) }
ends-flushed program device flushes Left Then out' err' status so (Finishes.Failed before left machine fails held same)
    = record {
      before = before;
      shown = err';
      was = status;
      left = so _ _ _ left;
      done = false;
      flushed = (fails, held, same);
      answer = inl
          (refl, refl, λ failed. machine);
    }
ends-flushed program device flushes Left Then out' err' status so (Finishes.Unflushed before shown was left below fails held same then is) =
    record { before = before; shown = shown; was = was; left = so _ _ _ left; done = false; flushed = (fails, held, same); answer = inr (refl, below, then, is) }

same-bytes : {F I : Type 0} (f : Reads F) (i : Reads I) (stream : Stream F I) → bytes_left f.remaining i.remaining stream ≡ stream_bytes f i stream
same-bytes f i (File file) = refl
same-bytes f i (Standard input) = refl
same-bytes f i Failing = refl

opens-one : {P F I B K : Type 0} (p : Ghosts P F I B K) (seeded : Bool) (process : P) (name : Option Text)
    (result : Result (Watch (Stream F I)) OpenFault) (process' : P) → OpensInput p.opens p.gives seeded process name result process'
    → OpensOne p seeded process name result process'
opens-one p true process None (Ok watch) process' o = o
opens-one p false process None (Ok watch) process' o = o
opens-one p seeded process None (Err fault) process' o = absurd o
opens-one p true process (Some name) (Ok watch) process' o = o
opens-one p false process (Some name) (Ok watch) process' o = o
opens-one p seeded process (Some name) (Err Unopened) process' o = o
opens-one p seeded process (Some name) (Err OutOfMemory) process' o = o

module _ {Q J P F I B K W E : Type 0} (q : Programs Q J) (a : Told J) (keeps : Keeps q a)
    (p : Ghosts P F I B K) (f : Reads F) (i : Reads I) (w : Sinks W) (flushes : W → Bool → W → Type 0)
    (e : Sinks E) (sends : E → Bool → E → Type 0) (process process' : P) (out out' : W) (err err' : E) (status : ℕ) where
  process-by : Delivers e.device sends (λ shown. RunsAs q p f i w flushes process process' out out' (e.device err) shown status) err'
      → ReliesOnProcess (told q a) p f i w flushes e sends process process' out out' err err' status
  process-by d = by_run d.left
    where
      by_run : RunsAs q p f i w flushes process process' out out' (e.device err) (e.device d.before) status
          → ReliesOnProcess (told q a) p f i w flushes e sends process process' out out' err err' status
      by_run (RunsAs.Ran words given r) =
          let seeded = is_some r.0 in
          let runs = (program-under q (OpensInput p.opens p.gives seeded) (OpensOne p seeded) (λ process. process) (λ _. Unit {0})
          (λ old new name result _ o. (opens-one p seeded old name result new o, tt)) _ _ _ process process' tt
          w.device flushes (λ now. KeepsNoneBack w.kept_back out now) words (w.device out) out' (e.device err) (e.device d.before) status r.2).0 in
          ReliesOnProcess.Ran words given r.0 r.1 d.before
          (ends-flushed q.name w.device flushes _ _ out' (e.device d.before) status
          (λ now err_now n left. relies-of q a keeps words (OpensOne p seeded) _ (bytes_of f i) (λ watch. same-bytes f i watch.device) _ (w.device out)
          (w.device now) (e.device err) err_now n _ process process' (w.kept_back out) (w.kept_back now) left) runs)
          d.done (d.flushed, d.held, d.same)
      by_run (RunsAs.NoWords fault refused same unwritten shown is) = ReliesOnProcess.NoWords fault refused same unwritten d.before shown is d.done (d.flushed, d.held, d.same)

-- ---- vcdkit, and programs over one input

vcdkit-keeps : Keeps vcdkit_program vcdkit_told
vcdkit-keeps = record {
  asks = λ matches job is. is.0;
  faulty = fault-of;
  ends = λ job names before after last_failed out out' err err' status ends. ends;
  over = λ job due_of out out' err err' status texts old new leaves. over-of job.limit due_of out out' err err' status (model_want job.task) texts old new leaves;
}

pub process-of : {P F I B K W E : Type 0} (p : Ghosts P F I B K) (f : Reads F) (i : Reads I) (w : Sinks W) (flushes : W → Bool → W → Type 0)
    (e : Sinks E) (sends : E → Bool → E → Type 0) (process process' : P) (out out' : W) (err err' : E) (status : ℕ)
    → Delivers e.device sends (λ shown. RunsAs vcdkit_program p f i w flushes process process' out out' (e.device err) shown status) err'
    → ReliesOnProcess vcdkit_told p f i w flushes e sends process process' out out' err err' status
process-of = process-by vcdkit_program vcdkit_told vcdkit-keeps

module _ {Q J R : Type 0} (program : Text) (may : ℕ → Type 0) (speech : J → Speech R) (work : J → Work) (limit : J → ℕ) (app : App)
    (asks : ArgMatches → Result J UseFault → Type 0) (outcome : ArgMatches → List Text → List Input → Outcome) where
  -- what a program over one input says of itself
  abbrev one_program : Programs Q J
  one_program = record {
    name = program;
    app = app;
    asks = asks;
    inputs = only_input;
    outcome = outcome;
    refusal = use_outcome;
    ends = λ job. EndsAlone program may (speech job);
    reads = λ job ended texts. ReadsOne (work job) (limit job) 65536 ended;
  }

  one-keeps : Keeps one_program (one_told program may speech work limit app asks outcome)
  one-keeps = record {
    asks = λ matches job is. is;
    faulty = λ matches f is other. (f, is);
    ends = λ job names before after last_failed out out' err err' status ends. ends;
    over = λ job due_of out out' err err' status texts old new leaves.
        over-only program (work job) (limit job) 65536 due_of out out' err err' status texts old new leaves;
  }

  pub one-process-of : {P F I B K W E : Type 0} (p : Ghosts P F I B K) (f : Reads F) (i : Reads I) (w : Sinks W) (flushes : W → Bool → W → Type 0)
      (e : Sinks E) (sends : E → Bool → E → Type 0) (process process' : P) (out out' : W) (err err' : E) (status : ℕ)
      → Delivers e.device sends (λ shown. RunsAs one_program p f i w flushes process process' out out' (e.device err) shown status) err'
      → ReliesOnProcess (one_told program may speech work limit app asks outcome) p f i w flushes e sends process process' out out' err err' status
  one-process-of = process-by one_program (one_told program may speech work limit app asks outcome) one-keeps
