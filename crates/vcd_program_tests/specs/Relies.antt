-- What callers of the program rely on, clause by clause.
use Rattle.std.specs.Prelude.{◌≡◌, ◌≢◌, ◌⊎◌, ◌+◌, ◌<◌, ◌≤◌, ℕ, ⊤, nat_lt, Bool, true, false, cond, All, List, [], ◌∷◌, ◌++◌, codes, length, map, slice_get, slice_set, Option, Some, None, is_some, option_and_then, Result, Ok, Err}
use Rattle.std.specs.Io.KnownBytes.{Appends, Keeps}
use Rattle.std.specs.IoError.{error_kind}
use Rattle.std.specs.declared.io.Error.{Error}
use Rattle.std.specs.declared.io.ErrorKind.TheVariants as io_kind
use Rattle.std.specs.declared.io.Read.{Ghosts as Reads}
use Rattle.clap.specs.Words.{App, HasMatchesOf, IsAmong, Text, fault_of, takes}
use Rattle.clap.specs.declared.error.kind.ErrorKind.{ErrorKind}
use Rattle.clap.specs.declared.error.kind.ErrorKind.TheVariants as kind
use Rattle.clap.specs.declared.parser.matches.ArgMatches.{ArgMatches}
use Rattle.vcd_model.specs.Due.{due}
use Rattle.vcd_model.specs.Input.{Input}
use Rattle.vcd_model.specs.Items.{BodyItem}
use Rattle.vcd_model.specs.Job.{Want, outcome}
use Rattle.vcd_model.specs.Merge.{Dump, factor, headers_of, key_after, merge_open, merged_items}
use Rattle.vcd_model.specs.Outcome.{Outcome, allowed_after, declarations_allowed, shown_message}
use Rattle.vcd_model.specs.Settled.{is_header_over, is_settled}
use Rattle.vcd_model.specs.SettledMerge.{Seen, is_settled_merge}
use Rattle.vcd_model.specs.Tokens.{Token, stream_of}
use Rattle.vcd_model.specs.Words.{command_outcome, job_of}
use Rattle.vcd_text.specs.Answer.{whole}
use Rattle.vcd_text.specs.Device.{Device, Supply, Writes, WritesSome, failures_then, supply}
use Rattle.vcd_text.specs.ReadAhead.{ReadsAsNeeded}
use Rattle.vcd_text.specs.Watch.{failed_calls, has_just_failed}
use Rattle.vcd_text.specs.declared.device.Sink.{Ghosts as Sinks}
use Rattle.vcd_text.specs.declared.device.Watch.{Watch}
use Rattle.vcd_body.specs.Answer.{IsLeft}
use Rattle.vcd_merge.specs.MergeRun.{BeginsWith, NoneBefore}
use Rattle.vcd_merge.specs.Seat.{Lane, ReadsNoMore}
use Rattle.vcd_words.specs.Words.{program_app, words_used}
use Rattle.vcd_words.specs.Job.{model_want}
use Rattle.vcd_words.specs.Matches.{file_asked}
use Rattle.vcd_words.specs.declared.job.Job.{Job}
use Rattle.vcd_words.specs.declared.job.UseFault.{UseFault}
use Rattle.vcd_job.specs.Ends.{Speech}
use Rattle.vcd_job.specs.Work.{Work, due_of, settled_of}
use Rattle.vcd_job.specs.declared.answer.Answer.{Answer}
use Rattle.vcd_job.specs.declared.failure.Failure.{Failure}
use Rattle.vcdkit.specs.Calls.{Answers as EndsWell, speech_with}
use Rattle.vcdkit.specs.Ends.{end_message, end_status}
use Rattle.vcdkit.specs.Failure.{CountsReads, EndsAtReadOf, failure_of, writes_failed}
use Rattle.vcdkit.specs.Inputs.{AreBegun, Stops, headers_in}
use Rattle.vcdkit.specs.Message.{unopened_outcome, use_outcome}
use Rattle.vcdkit.specs.Run.{AreRead}
use Rattle.vcd_host.specs.Asked.{input_named, inputs_asked}
use Rattle.vcd_host.specs.Opens.{Opens, OpensSome, OpensUpTo, called}
use Rattle.vcd_host.specs.declared.host.OpenFault.{OpenFault}
use Rattle.vcd_host.specs.declared.host.OpenFault.TheVariants.{Unopened, OutOfMemory}
use Rattle.vcd_program.specs.Runs.{Answers}
use Rattle.vcd_program.specs.Vcdkit.{names_wanted}
use Rattle.vcd_program.specs.declared.process.Process.{Ghosts}
use Rattle.vcd_program.specs.declared.process.Stream.{Stream}
use Rattle.vcd_program.specs.declared.process.Stream.TheVariants.{File, Input as Standard, Refused as Failing}

-- ---- how a run ends

-- In what follows `program` is the name of a program in its messages.

-- the line of a message, which begins with the name of the program; nothing for no message
abbrev pub line_of : (program message : Text) → Text
line_of program message = shown_message program message

-- the error stream took the line of this message, or failed after a prefix of it
abbrev pub Says : (program : Text) → (err err' : Device) → (message : Text) → Type 0
Says program err err' message = Writes err err' (line_of program message) ⊎ WritesSome err err' (line_of program message)

-- with this outcome, or with a prefix of its output, if a write of the output failed
abbrev pub EndsWith : (program : Text) → Outcome → (out out' err err' : Device) → (status : ℕ) → Type 0
EndsWith program o out out' err err' status = (Writes out out' o.output × Says program err err' o.message × (status ≡ o.status))
    ⊎ (WritesSome out out' o.output × Says program err err' (codes "write failed") × (status ≡ 3))

-- without output, because memory ran out
abbrev pub EndsWithout : (program : Text) → (out out' err err' : Device) → (status : ℕ) → Type 0
EndsWithout program out out' err err' status = Writes out out' [] × Says program err err' (codes "out of memory") × (status ≡ 3)

-- Over any inputs with these names a job that speaks so succeeds, with a status that it may have, or
-- fails. It fails with a failed read only if a read of the input that it names failed, its last one,
-- and none of another; likewise for a write. Its status and its line say which.
abbrev pub EndsSo : {R : Type 0} → (program : Text) → (may : ℕ → Type 0) → Speech R → (names : List Text) → (before after : List ℕ) → (last_failed : List Bool)
    → (out out' err err' : Device) → (status : ℕ) → Type 0
EndsSo {R = R} program may s names before after last_failed out out' err err' status =
    (end : Result (Answer R) Failure) × EndsWell may end × CountsReads before after (failure_of end)
    × (failures_then (writes_failed (failure_of end)) out' ≡ out.failures + writes_failed (failure_of end))
    × (status ≡ end_status s names end) × Says program err err' (end_message s names end) × EndsAtReadOf last_failed (failure_of end)

-- ---- a job over inputs whose texts are known

-- the name of vcdkit
abbrev pub vcdkit : Text
vcdkit = codes "vcdkit"

-- whether it is a merge
abbrev pub is_merge : Want → Bool
is_merge Want.Merge = true
is_merge want = false

-- as many calls had failed before
abbrev pub NoneFailed : (old new : List Supply) → Type 0
NoneFailed old new = map (λ (s : Supply). s.failures) new ≡ map (λ (s : Supply). s.failures) old

-- A run over one input with this text, which has this outcome: how much of the text counts; that no
-- read ran ahead of the output that is due; how the run ends; and that no more was read than what
-- settles it, or its header if memory ran out, and then no read failed.
pub record OverOne (program : Text) (limit chunk : ℕ) (settled header : List Token → Bool) (due : List Token → List ℕ) (outcome_of : Input → Outcome)
    (out out' err err' : Device) (status : ℕ) (text : Text) (old new : Supply) : Type 0 where
  pub left : Input
  pub is_left : IsLeft (whole text) old new left
  pub written : List ℕ
  pub is_written : Appends out.held out'.held written
  pub keeps_up : ReadsAsNeeded limit chunk old new left [] (λ ts. nat_lt (length written) (length (due ts)))
  pub ends : (EndsWith program (outcome_of left) out out' err err' status × ReadsAsNeeded limit chunk old new left [] settled)
      ⊎ (EndsWithout program out out' err err' status × ReadsAsNeeded limit chunk old new left [] header × NoneFailed (old ∷ []) (new ∷ []))

-- the same of the only one of some inputs
abbrev pub OverOnly : (program : Text) → (limit chunk : ℕ) → (settled header : List Token → Bool) → (due : List Token → List ℕ) → (List Input → Outcome)
    → (out out' err err' : Device) → (status : ℕ) → (texts : List Text) → (old new : List Supply) → Type 0
OverOnly program limit chunk settled header due outcome_of out out' err err' status texts old new = (text : Text) (s t : Supply)
    → texts ≡ text ∷ [] → old ≡ s ∷ [] → new ≡ t ∷ []
    → OverOne program limit chunk settled header due (λ i. outcome_of (i ∷ [])) out out' err err' status text s t

-- After these headers, the inputs of a merge were read only in their turn, and no read ran ahead of
-- the output: they have given these items, what is due with them was written, and no more of an
-- input was read than its next item.
abbrev pub AreOnTurn : (limit : ℕ) → List Lane → (old new : List Supply) → List Input → (out out' : Device) → Type 0
AreOnTurn limit lanes old new lefts out out' = (new ≡ old)
    ⊎ ((merged : List Dump) × (headers_of merged ≡ headers_in lanes)
    × ((k : ℕ) (l : Lane) (d : Dump) → slice_get lanes k ≡ Some l → slice_get merged k ≡ Some d → BeginsWith limit (headers_in lanes) l d.items)
    × (more : List ℕ) × Appends out.held out'.held (merge_open (headers_in lanes) (merged_items merged) ++ more)
    × ((k : ℕ) (l : Lane) (s t : Supply) (i : Input) → slice_get lanes k ≡ Some l → slice_get old k ≡ Some s → slice_get new k ≡ Some t → slice_get lefts k ≡ Some i
    → (t ≡ s) ⊎ ((items : List BodyItem) × NoneBefore limit (headers_in lanes) lanes merged k
    (key_after (factor (headers_in lanes) l.header) k items) × ReadsNoMore limit 65536 l items i t.rest)))

-- a merge over inputs with these texts: the same of each input, also in view of the others, and
-- that each was read on its turn
pub record OverMany (limit : ℕ) (outcome_of : List Input → Outcome) (out out' err err' : Device) (status : ℕ) (texts : List Text) (old new : List Supply) : Type 0 where
  pub lefts : List Input
  pub needed : (k : ℕ) (s t : Supply) (i : Input) → slice_get old k ≡ Some s → slice_get new k ≡ Some t → slice_get lefts k ≡ Some i
      → ReadsAsNeeded limit 65536 s t i [] (λ ts. is_settled_merge (slice_set (map (λ (other : Input). Seen.All (stream_of limit other)) lefts) k (Seen.First ts)))
  pub on_turn : ((why : _) × Stops limit 65536 0 [] texts old new why)
      ⊎ ((lanes : List Lane) × (mid : List Supply) × AreBegun limit 65536 [] texts old mid lanes × AreOnTurn limit lanes mid new lefts out out')
  pub ends : (EndsWith vcdkit (outcome_of lefts) out out' err err' status × AreRead (is_settled Want.Merge) limit 65536 [] texts old new lefts)
      ⊎ (EndsWithout vcdkit out out' err err' status × AreRead is_header_over limit 65536 [] texts old new lefts × NoneFailed old new)

-- a job of vcdkit over inputs with these texts
pub record Over (want : Want) (limit : ℕ) (outcome_of : List Input → Outcome) (out out' err err' : Device) (status : ℕ) (texts : List Text) (old new : List Supply) : Type 0 where
  pub one : is_merge want ≡ false → OverOnly vcdkit limit 65536 (is_settled want (allowed_after [])) (is_header_over (allowed_after []))
      (due want declarations_allowed) outcome_of out out' err err' status texts old new
  pub many : is_merge want ≡ true → OverMany limit outcome_of out out' err err' status texts old new

-- ---- a program

-- What callers rely on of a program: how it parses words, which inputs they name, and their outcome;
-- which job they ask for, or that they have a fault; how a job ends over any inputs; and what it
-- leaves over inputs with these texts, if its outcome is this.
pub record Told (J : Type 0) : Type 1 where
  pub name : Text
  pub app : App
  pub inputs : ArgMatches → List (Option Text)
  pub outcome : ArgMatches → (names : List Text) → List Input → Outcome
  pub refusal : UseFault → Outcome
  pub asks : ArgMatches → J → Type 0
  pub faulty : ArgMatches → Type 0
  pub ends : J → (names : List Text) → (before after : List ℕ) → (last_failed : List Bool) → (out out' err err' : Device) → (status : ℕ) → Type 0
  pub over : J → (List Input → Outcome) → (out out' err err' : Device) → (status : ℕ) → (texts : List Text) → (old new : List Supply) → Type 0

-- what they rely on of vcdkit
abbrev pub vcdkit_told : Told Job
vcdkit_told = record {
  name = vcdkit;
  app = program_app;
  inputs = inputs_asked;
  outcome = λ matches names inputs. command_outcome (words_used matches) names inputs;
  refusal = use_outcome;
  asks = λ matches job. job_of (words_used matches) ≡ Ok (record { want = model_want job.task; limit = job.limit });
  faulty = λ matches. (fault : _) × (job_of (words_used matches) ≡ Err fault);
  ends = λ job. EndsSo vcdkit (λ n. n ≡ 0) (speech_with (names_wanted (model_want job.task)));
  over = λ job. Over (model_want job.task) job.limit;
}

-- What they rely on of a program over one input, of this name: the statuses that it may have, how a
-- job speaks, what it does, its token limit, how it parses words, and the outcome of words that ask
-- so for a job.
abbrev pub one_told : {J R : Type 0} → (program : Text) → (may : ℕ → Type 0) → (speech : J → Speech R) → (work : J → Work) → (limit : J → ℕ) → App
    → (asks : ArgMatches → Result J UseFault → Type 0) → (outcome : ArgMatches → List Text → List Input → Outcome) → Told J
one_told program may speech work limit app asks outcome = record {
  name = program;
  app = app;
  inputs = λ matches. option_and_then input_named (file_asked matches) ∷ [];
  outcome = outcome;
  refusal = use_outcome;
  asks = λ matches job. asks matches (Ok job);
  faulty = λ matches. (fault : UseFault) × asks matches (Err fault);
  ends = λ job. EndsSo program may (speech job);
  over = λ job. OverOnly program (limit job) 65536 (settled_of (work job) [] declarations_allowed) (is_header_over declarations_allowed)
      (due_of (work job) [] declarations_allowed);
}

-- ---- a run on words

-- Before the output is flushed, of which `kept` bytes were kept back, and now `kept'` are: which
-- inputs were opened; over any inputs how the job ended, and which calls failed; and over inputs
-- whose texts are known the outcome of the words. If a read failed, nothing is kept back.
pub data Relies {J H I : Type 0} (p : Told J) (words : List Text) (opens : H → Option Text → Result I OpenFault → H → Type 0) (rest : I → Option (List ℕ))
    (failures : I → ℕ) (last_failed : I → Bool) (host host' : H) (out out' err err' : Device) (kept kept' : ℕ) (status : ℕ) : Type 0 where
  Ran : (matches : ArgMatches) (are : HasMatchesOf p.app words matches) (job : J) (is : p.asks matches job) (readers after : List I)
      (opened : Opens opens host (p.inputs matches) readers host')
      (ends : p.ends job (map called (p.inputs matches)) (map failures readers) (map failures after) (map last_failed after) out out' err err' status)
      (gives : (texts : List Text) → map rest readers ≡ map (λ text. Some text) texts
      → p.over job (p.outcome matches (map called (p.inputs matches))) out out' err err' status texts
      (map (supply rest failures) readers) (map (supply rest failures) after))
      (passed_on : map failures after ≢ map failures readers → kept ≡ 0 → kept' ≡ 0) → Relies p words opens rest failures last_failed host host' out out' err err' kept kept' status
  Stopped : (matches : ArgMatches) (are : HasMatchesOf p.app words matches) (job : J) (is : p.asks matches job) (name : Option Text)
      (opened : OpensUpTo opens (p.inputs matches) name host host') (ends : EndsWith p.name (unopened_outcome (called name)) out out' err err' status)
      → Relies p words opens rest failures last_failed host host' out out' err err' kept kept' status
  NoMemory : (matches : ArgMatches) (are : HasMatchesOf p.app words matches) (opened : OpensSome opens (p.inputs matches) host host')
      (ends : EndsWithout p.name out out' err err' status) → Relies p words opens rest failures last_failed host host' out out' err err' kept kept' status
  Refused : (matches : ArgMatches) (are : HasMatchesOf p.app words matches) (is : p.faulty matches)
      (same : host' ≡ host) (ends : EndsWith p.name (p.outcome matches [] []) out out' err err' status)
      → Relies p words opens rest failures last_failed host host' out out' err err' kept kept' status
  NoMatches : (why : ErrorKind) (is : (why ≡ kind.OutOfMemory) ⊎ IsAmong why (fault_of p.app words)) (only : takes p.app words ≡ true → why ≡ kind.OutOfMemory)
      (same : host' ≡ host) (answers : Answers p.name why out out' err err' status)
      → Relies p words opens rest failures last_failed host host' out out' err err' kept kept' status

-- ---- a process

-- In what follows `p`, `f` and `i` are what a process, its files and its standard input say of
-- themselves, and `a` is what callers rely on of a program.

-- the bytes that reads of an input give, if those of its file or of standard input are known; of
-- `Refused`, of which each read fails, one byte
abbrev pub stream_bytes : {F I : Type 0} → Reads F → Reads I → Stream F I → Option (List ℕ)
stream_bytes f i (File file) = f.remaining file.device
stream_bytes f i (Standard input) = i.remaining input.device
stream_bytes f i Failing = Some (0 ∷ [])

abbrev pub bytes_of : {F I : Type 0} → Reads F → Reads I → Watch (Stream F I) → Option (List ℕ)
bytes_of f i watch = stream_bytes f i watch.device

-- The process opened the file of this name, or gave its standard input, and changed by nothing
-- else. Without random numbers each read of the input fails.
abbrev pub OpensOne : {P F I B K : Type 0} → Ghosts P F I B K → (seeded : Bool) → (process : P) → Option Text → Result (Watch (Stream F I)) OpenFault → (process' : P) → Type 0
OpensOne p seeded process None (Ok watch) process' = (input : _) × p.gives process input process' × (watch.device ≡ cond seeded (Standard (record { device = input })) Failing)
OpensOne p seeded process None (Err fault) process' = ⊥
OpensOne p seeded process (Some name) (Ok watch) process' = (file : _) × p.opens process name (Ok file) process' × (watch.device ≡ cond seeded (File (record { device = file })) Failing)
OpensOne p seeded process (Some name) (Err Unopened) process' = (error : Error) × p.opens process name (Err error) process' × (error_kind error ≢ io_kind.OutOfMemory)
OpensOne p seeded process (Some name) (Err OutOfMemory) process' = (error : Error) × p.opens process name (Err error) process' × (error_kind error ≡ io_kind.OutOfMemory)

-- a stream that was `before` was flushed, which succeeded or failed; nothing else was written to it
abbrev pub IsFlushed : {W : Type 0} → (device : W → Device) → (flushes : W → Bool → W → Type 0) → (done : Bool) → (before after : W) → Type 0
IsFlushed device flushes done before after = flushes before done after × Keeps (device before).held (device after).held × ((device after).failures ≡ (device before).failures)

-- The output was flushed with this left in it. If that failed, the status is 3, and the line for it
-- is on the error stream, unless the status was 3 before.
pub record EndsFlushed {W : Type 0} (program : Text) (device : W → Device) (flushes : W → Bool → W → Type 0) (Left : (out : W) → (err : Device) → ℕ → Type 0)
    (out' : W) (err' : Device) (status : ℕ) : Type 0 where
  pub before : W
  pub shown : Device
  pub was : ℕ
  pub left : Left before shown was
  pub done : Bool
  pub flushed : IsFlushed device flushes done before out'
  pub answer : ((err' ≡ shown) × (status ≡ was) × (done ≡ false → 3 ≤ status)) ⊎ ((done ≡ false) × (was < 3) × Says program shown err' (codes "write failed") × (status ≡ 3))

-- The program ran on the arguments of the process, with random numbers if the process gives some;
-- nothing but its inputs was opened; and output and messages were flushed. Or the process gives no
-- arguments, and nothing but the message for that was written.
pub data ReliesOnProcess {J P F I B K W E : Type 0} (a : Told J) (p : Ghosts P F I B K) (f : Reads F) (i : Reads I) (w : Sinks W) (flushes : W → Bool → W → Type 0)
    (e : Sinks E) (sends : E → Bool → E → Type 0) (process process' : P) (out out' : W) (err err' : E) (status : ℕ) : Type 0 where
  Ran : (words : List Text) (given : p.words process words) (seed : Option B) (seed_is : p.seeds process seed) (before : E)
      (runs : EndsFlushed a.name w.device flushes (λ now err_now n. Relies {I = Watch (Stream F I)} a words (OpensOne p (is_some seed)) (bytes_of f i) failed_calls has_just_failed
      process process' (w.device out) (w.device now) (e.device err) err_now (w.kept_back out) (w.kept_back now) n) out' (e.device before) status)
      (done : Bool) (flushed : IsFlushed e.device sends done before err') → ReliesOnProcess a p f i w flushes e sends process process' out out' err err' status
  NoWords : (fault : UseFault) (refused : p.refuses process fault) (same : process' ≡ process) (unwritten : out' ≡ out) (before : E)
      (shown : Says a.name (e.device err) (e.device before) (a.refusal fault).message) (is : status ≡ (a.refusal fault).status)
      (done : Bool) (flushed : IsFlushed e.device sends done before err') → ReliesOnProcess a p f i w flushes e sends process process' out out' err err' status
