-- What the program leaves that a process runs.
use Rattle.std.specs.Prelude.{◌≡◌, ℕ, Bool, List, Option, is_some}
use Rattle.std.specs.Io.KnownBytes.{Keeps}
use Rattle.std.specs.declared.io.Read.{Ghosts as Reads}
use Rattle.clap.specs.Words.{Text}
use Rattle.vcd_text.specs.Device.{Device}
use Rattle.vcd_text.specs.Watch.{failed_calls, has_just_failed}
use Rattle.vcd_text.specs.declared.device.Sink.{Ghosts as Sinks}
use Rattle.vcd_text.specs.declared.device.Watch.{Watch}
use Rattle.vcd_words.specs.declared.job.UseFault.{UseFault}
use Rattle.vcdkit.specs.Message.{Tells}
use Rattle.vcd_program.specs.Process.{OpensInput, bytes_left}
use Rattle.vcd_program.specs.Runs.{Finishes, KeepsNoneBack, RunsOn}
use Rattle.vcd_program.specs.declared.process.Process.{Ghosts}
use Rattle.vcd_program.specs.declared.program.Program.{Ghosts as Programs}
use Rattle.vcd_program.specs.declared.process.Stream.{Stream}

-- In what follows `a` is what a program says of itself, and `p`, `f` and `i` what a process, its
-- files and its standard input do.

-- what the program leaves that is run on these words over the inputs of a process, which was
-- `process` and is `process'`, with random numbers or without
abbrev pub RunsOver : {A J P F I B K W : Type 0} → Programs A J → Ghosts P F I B K → Reads F → Reads I → Sinks W → (W → Bool → W → Type 0)
    → (seeded : Bool) → (process process' : P) → List Text → (out out' : W) → (err err' : Device) → ℕ → Type 0
RunsOver {F = F} {I = I} a p f i w flushes seeded process process' words out out' err err' status =
    Finishes a.name w.device flushes (λ now err_now n. RunsOn {I = Watch (Stream F I)} a words (OpensInput p.opens p.gives seeded)
    (λ watch. bytes_left f.remaining i.remaining watch.device) failed_calls has_just_failed
    process process' (w.device out) (w.device now) err err_now n (KeepsNoneBack w.kept_back out now)) out' err' status

-- the same with random numbers if the process gives some
abbrev pub RunsGiven : {A J P F I B K W : Type 0} → Programs A J → Ghosts P F I B K → Reads F → Reads I → Sinks W → (W → Bool → W → Type 0)
    → (process process' : P) → List Text → (out out' : W) → (err err' : Device) → ℕ → Type 0
RunsGiven {B = B} a p f i w flushes process process' words out out' err err' status = (seed : Option B) × p.seeds process seed
    × RunsOver a p f i w flushes (is_some seed) process process' words out out' err err' status

-- What the program leaves that a process runs: that of the arguments which the process gives; or,
-- if it gives none, the line and the status for that, and nothing else.
pub data RunsAs {A J P F I B K W : Type 0} (a : Programs A J) (p : Ghosts P F I B K) (f : Reads F) (i : Reads I) (w : Sinks W) (flushes : W → Bool
    → W → Type 0) (process process' : P) (out out' : W) (err err' : Device) (status : ℕ) : Type 0 where
  Ran : (words : List Text) (given : p.words process words) (runs : RunsGiven a p f i w flushes process process' words out out' err err' status)
      → RunsAs a p f i w flushes process process' out out' err err' status
  NoWords : (fault : UseFault) (refused : p.refuses process fault) (same : process' ≡ process) (unwritten : out' ≡ out)
      (shown : Tells a.name err err' (a.refusal fault).message) (status_is : status ≡ (a.refusal fault).status)
      → RunsAs a p f i w flushes process process' out out' err err' status

-- What is left once the error stream `before`, with this left on it, was flushed: all of that is
-- there, whether the flush succeeds or fails.
pub record Delivers {E : Type 0} (device : E → Device) (flushes : E → Bool → E → Type 0) (Left : Device → Type 0) (err' : E) : Type 0 where
  pub before : E
  pub left : Left (device before)
  pub done : Bool
  pub flushed : flushes before done err'
  pub held : Keeps (device before).held (device err').held
  pub same : (device err').failures ≡ (device before).failures
