-- What a program leaves that is run on words over a host.
use Rattle.std.specs.Prelude.{◌≡◌, ◌≢◌, ◌⊎◌, ◌<◌, ◌≤◌, ℕ, Bool, true, false, List, [], codes, map, Option, Some, Result, Ok, Err}
use Rattle.std.specs.Io.KnownBytes.{Keeps}
use Rattle.clap.specs.Words.{HasMatchesOf, IsAmong, Text, fault_of, takes}
use Rattle.clap.specs.declared.error.kind.ErrorKind.{ErrorKind}
use Rattle.clap.specs.declared.error.kind.ErrorKind.TheVariants as kind
use Rattle.clap.specs.declared.parser.matches.ArgMatches.{ArgMatches}
use Rattle.vcd_model.specs.Outcome.{clean_outcome}
use Rattle.vcd_text.specs.Device.{Device, Writes, supply}
use Rattle.vcd_text.specs.declared.device.Sink.{Ghosts as Sinks}
use Rattle.vcd_text.specs.declared.device.Source.{Ghosts as Sources}
use Rattle.vcd_words.specs.Words.{parse_status_of}
use Rattle.vcd_words.specs.declared.job.UseFault.{UseFault}
use Rattle.vcd_words.specs.declared.job.UseFault.TheVariants.{OutOfMemory}
use Rattle.vcdkit.specs.Message.{Shows, Tells, unopened_outcome}
use Rattle.vcdkit.specs.Run.{IsOutcome}
use Rattle.vcd_host.specs.Opens.{Opens, OpensSome, OpensUpTo, called}
use Rattle.vcd_host.specs.declared.host.OpenFault.{OpenFault}
use Rattle.vcd_program.specs.Leaves.{Fails, Leaves}
use Rattle.vcd_program.specs.declared.program.Program.{Ghosts}

-- In what follows `p` is what a program says of itself.

-- ---- what words leave that were parsed

-- the words ask for a job, or memory ran out for it
abbrev pub HasJob : {P J : Type 0} → Ghosts P J → ArgMatches → Type 0
HasJob {J = J} p matches = ((job : J) × p.asks matches (Ok job)) ⊎ p.asks matches (Err OutOfMemory)

-- What a program leaves of these matches, before it flushes. `NoneKept` says that the output keeps
-- nothing back.
pub data Runs {P J H I : Type 0} (p : Ghosts P J) (opens : H → Option Text → Result I OpenFault → H → Type 0) (rest : I → Option (List ℕ))
    (failures : I → ℕ) (last_failed : I → Bool) (matches : ArgMatches) (host host' : H) (out out' err err' : Device) (status : ℕ)
    (NoneKept : Type 0) : Type 0 where
  -- the words ask for no job: no input is opened
  Refused : (fault : UseFault) (is : p.asks matches (Err fault)) (of_words : fault ≢ OutOfMemory) (same : host' ≡ host)
      (leaves : IsOutcome p.name (p.outcome matches [] []) out out' err err' status)
      → Runs p opens rest failures last_failed matches host host' out out' err err' status NoneKept
  -- all inputs were opened, and the job was run over them: it leaves the outcome of the words; if a
  -- read failed, the output keeps nothing back
  Ran : (job : J) (is : p.asks matches (Ok job)) (readers after : List I) (opened : Opens opens host (p.inputs matches) readers host')
      (ends : p.ends job (map called (p.inputs matches)) (map failures readers) (map failures after) (map last_failed after) out out' err err' status)
      (leaves : (texts : List Text) → map rest readers ≡ map (λ text. Some text) texts
      → Leaves p.name (p.outcome matches (map called (p.inputs matches))) (p.reads job) texts (map (supply rest failures) readers) (map (supply rest failures) after) out out' err err' status)
      (passed_on : map failures after ≢ map failures readers → NoneKept)
      → Runs p opens rest failures last_failed matches host host' out out' err err' status NoneKept
  -- one of them cannot be opened
  Stopped : (job : J) (is : p.asks matches (Ok job)) (name : Option Text) (opened : OpensUpTo opens (p.inputs matches) name host host')
      (leaves : IsOutcome p.name (unopened_outcome (called name)) out out' err err' status)
      → Runs p opens rest failures last_failed matches host host' out out' err err' status NoneKept
  -- memory ran out before the job was run
  NoMemory : (is : HasJob p matches) (opened : OpensSome opens (p.inputs matches) host host')
      (fails : Fails p.name (codes "out of memory") out out' err err' status)
      → Runs p opens rest failures last_failed matches host host' out out' err err' status NoneKept

-- ---- what any words leave

-- this text is left if a parse of this kind gave no matches: help and the version on the output,
-- all else on the error stream, as it is; it is not said which text
abbrev pub IsAnswer : (program : Text) → ErrorKind → Text → (out out' err err' : Device) → ℕ → Type 0
IsAnswer program why text out out' err err' status = ((parse_status_of why ≡ 0) × IsOutcome program (clean_outcome text) out out' err err' status)
    ⊎ ((parse_status_of why ≢ 0) × Writes out out' [] × Shows err err' text × (status ≡ parse_status_of why))

-- Such an answer, which is none of memory; or memory ran out, while words were parsed or for the
-- text of the answer, and the line says so.
abbrev pub Answers : (program : Text) → ErrorKind → (out out' err err' : Device) → ℕ → Type 0
Answers program why out out' err err' status = ((why ≢ kind.OutOfMemory) × (text : Text) × IsAnswer program why text out out' err err' status)
    ⊎ Fails program (codes "out of memory") out out' err err' status

-- what a program leaves that is run on these words, its name first, before it flushes
pub data RunsOn {P J H I : Type 0} (p : Ghosts P J) (words : List Text) (opens : H → Option Text → Result I OpenFault → H → Type 0) (rest : I
    → Option (List ℕ)) (failures : I → ℕ) (last_failed : I → Bool) (host host' : H) (out out' err err' : Device) (status : ℕ)
    (NoneKept : Type 0) : Type 0 where
  -- what their matches ask for
  Parsed : (matches : ArgMatches) (is : HasMatchesOf p.app words matches)
      (runs : Runs p opens rest failures last_failed matches host host' out out' err err' status NoneKept)
      → RunsOn p words opens rest failures last_failed host host' out out' err err' status NoneKept
  -- they have no matches, for the reason that the command line has for them: no input is opened
  NoMatches : (why : ErrorKind) (is : (why ≡ kind.OutOfMemory) ⊎ IsAmong why (fault_of p.app words)) (only : takes p.app words ≡ true → why ≡ kind.OutOfMemory) (same : host' ≡ host)
      (answers : Answers p.name why out out' err err' status) → RunsOn p words opens rest failures last_failed host host' out out' err err' status NoneKept

-- ---- runs, by what inputs, the output and the error stream say of themselves

-- the output keeps nothing back, unless it did so before
abbrev pub KeepsNoneBack : {W : Type 0} → (kept_back : W → ℕ) → W → W → Type 0
KeepsNoneBack kept_back out out' = kept_back out ≡ 0 → kept_back out' ≡ 0

abbrev pub RunsMatches : {P J H I W E : Type 0} → Ghosts P J → (H → Option Text → Result I OpenFault → H → Type 0) → Sources I → Sinks W → Sinks E
    → ArgMatches → (host host' : H) → (out out' : W) → (err err' : E) → ℕ → Type 0
RunsMatches p opens s w e matches host host' out out' err err' status = Runs p opens s.rest s.failures s.last_failed matches host host'
    (w.device out) (w.device out') (e.device err) (e.device err') status (KeepsNoneBack w.kept_back out out')

abbrev pub RunsWords : {P J H I W E : Type 0} → Ghosts P J → List Text → (H → Option Text → Result I OpenFault → H → Type 0) → Sources I → Sinks W
    → Sinks E → (host host' : H) → (out out' : W) → (err err' : E) → ℕ → Type 0
RunsWords p words opens s w e host host' out out' err err' status = RunsOn p words opens s.rest s.failures s.last_failed host host' (w.device out)
    (w.device out') (e.device err) (e.device err') status (KeepsNoneBack w.kept_back out out')

-- ---- what is left in the end

-- What is left once the output `before`, with this left in it, was flushed: all of that; if the
-- flush failed, its line is said, unless the machine's fault was said already.
pub data Finishes {W : Type 0} (program : Text) (device : W → Device) (flushes : W → Bool → W → Type 0) (Left : (out : W) → (err : Device) → ℕ
    → Type 0) (out' : W) (err' : Device) (status : ℕ) : Type 0 where
  Flushed : (before : W) (left : Left before err' status) (flushed : flushes before true out') (held : Keeps (device before).held (device out').held)
      (same : (device out').failures ≡ (device before).failures)
      → Finishes program device flushes Left out' err' status
  Failed : (before : W) (left : Left before err' status) (machine : 3 ≤ status) (fails : flushes before false out')
      (held : Keeps (device before).held (device out').held) (same : (device out').failures ≡ (device before).failures)
      → Finishes program device flushes Left out' err' status
  Unflushed : (before : W) (shown : Device) (was : ℕ) (left : Left before shown was) (below : was < 3) (fails : flushes before false out') (held : Keeps (device before).held (device out').held)
      (same : (device out').failures ≡ (device before).failures) (then : Tells program shown err' (codes "write failed")) (status_is : status ≡ 3)
      → Finishes program device flushes Left out' err' status
