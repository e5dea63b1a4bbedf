-- What a run over the host of a process leaves of the process.
use Rattle.vcd_program.proofs.Cited.{ℕ, List, Bool, ◌∙◌, refl, subst, Option, Result, Error, Text, Device, failed_calls, has_just_failed, Watch, OpenFault, IsHostOf, OpensInput, OpensOn, bytes_left, RunsOver, Finishes, KeepsNoneBack, RunsOn, Ghosts, Programs, ProcessHost, Stream}
use Rattle.std.specs.declared.io.Read.{Ghosts as Reads}
use Rattle.vcd_text.specs.declared.device.Sink.{Ghosts as Sinks}
use Rattle.vcd_program.proofs.UnderLemmas.{program-under}

-- what a host opens is opened in its process, and it stays the host of this process
host-step : {P F I : Type 0} (opens : P → List ℕ → Result F Error → P → Type 0) (gives : P → I → P → Type 0) (ghost_name : ℕ) (seeded : Bool)
    (old new : ProcessHost P) (name : Option Text) (result : Result (Watch (Stream F I)) OpenFault) → IsHostOf ghost_name seeded old
    → OpensOn opens gives old name result new → OpensInput opens gives seeded old.process.now name result new.process.now × IsHostOf ghost_name seeded new
host-step opens gives ghost_name seeded old new name result is o = (subst (λ s. OpensInput opens gives s old.process.now name result new.process.now) is.1 o.0, (o.1.0 ∙ is.0, o.1.1 ∙ is.1))

-- a run over the host of a process is one over the process
pub run-hosted : {A J P F I B K W : Type 0} (a : Programs A J) (p : Ghosts P F I B K) (f : Reads F) (i : Reads I) (w : Sinks W) (flushes : W → Bool
    → W → Type 0) (host host' : ProcessHost P) (words : List Text) (out out' : W) (err err' : Device) (status : ℕ)
    → Finishes a.name w.device flushes (λ now err_now n. RunsOn {I = Watch (Stream F I)} a words (OpensOn p.opens p.gives)
    (λ watch. bytes_left f.remaining i.remaining watch.device) failed_calls has_just_failed
    host host' (w.device out) (w.device now) err err_now n (KeepsNoneBack w.kept_back out now)) out' err' status
    → RunsOver a p f i w flushes host.is_seeded host.process.now host'.process.now words out out' err err' status × IsHostOf host.process.ghost_name host.is_seeded host'
run-hosted a p f i w flushes host host' words out out' err err' status =
    program-under a (OpensOn p.opens p.gives) (OpensInput p.opens p.gives host.is_seeded) (λ h. h.process.now)
    (IsHostOf host.process.ghost_name host.is_seeded) (host-step p.opens p.gives _ _) _ _ _ host host' (refl, refl)
    w.device flushes (λ now. KeepsNoneBack w.kept_back out now) words (w.device out) out' err err' status
