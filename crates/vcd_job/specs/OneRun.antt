-- What a run of a job promises of its reader and of both sinks.
use Rattle.std.specs.Prelude.{◌≡◌, ◌≢◌, ℕ, ◌+◌, ◌≤◌, List, Some, Result}
use Rattle.vcd_job.specs.Cited.{name_at, supply, Ghosts}
use Rattle.vcd_text.specs.declared.device.Sink.{Ghosts as Sinks}
use Rattle.vcd_job.specs.Calls.{Answers, speech}
use Rattle.vcd_job.specs.Failure.{CountsAt, CountsWrites, EndsAtRead, failure_of, writes_failed}
use Rattle.vcd_job.specs.Message.{Tells}
use Rattle.vcd_job.specs.Ends.{HasRun, Speech, end_message, end_status}
use Rattle.vcd_job.specs.declared.answer.Answer.{Answer}
use Rattle.vcd_job.specs.declared.failure.Failure.{Failure}
use Rattle.vcd_job.specs.declared.one_input.OneInput.{Ghosts as Ones}

-- how this job speaks
abbrev pub speech_of : {J Job R : Type 0} → Ones J Job R → Job → Speech R
speech_of one job = speech (one.asked job) (one.refusal job) (one.work job)

-- at most one write of each sink failed
abbrev pub FailOnce : {W E : Type 0} → Sinks W → Sinks E → (out out' : W) → (err err' : E) → Type 0
FailOnce w e out out' err err' = ((w.device out').failures ≤ (w.device out).failures + 1) × ((e.device err').failures ≤ (e.device err).failures + 1)

-- a job over an input, the first of these names, succeeded or failed, and its status and its line
-- say which; a failed read was the last one of its reader
abbrev pub EndsSo : {J Job R X W E : Type 0} → Ones J Job R → Ghosts X → Sinks W → Sinks E → Job → List (List ℕ) → (old new : X) → (out out' : W)
    → (err err' : E) → ℕ → Type 0
EndsSo {R = R} one g w e job names old new out out' err err' status = (end : Result (Answer R) Failure) × Answers one.answers end
    × CountsAt g.failures 0 old new end × CountsWrites w.device out out' (writes_failed (failure_of end))
    × (status ≡ end_status (speech_of one job) names end) × Tells one.program (e.device err) (e.device err') (end_message (speech_of one job) names end)
    × EndsAtRead (g.last_failed new) (failure_of end)

-- if a read failed, the output keeps nothing back, unless it did so before the run
abbrev pub PassesOn : {X W : Type 0} → (failures : X → ℕ) → (kept_back : W → ℕ) → (old new : X) → W → W → Type 0
PassesOn failures kept_back old new out out' = failures new ≢ failures old → kept_back out ≡ 0 → kept_back out' ≡ 0

-- if the bytes of the reader are known, it ended as its work says
abbrev pub RunsWork : {J Job R X W E : Type 0} → Ones J Job R → Ghosts X → Sinks W → Sinks E → Job → List (List ℕ) → (old new : X) → (out out' : W)
    → (err err' : E) → ℕ → Type 0
RunsWork one g w e job names old new out out' err err' status = (text : List ℕ) → g.rest old ≡ Some text
    → HasRun one.program (one.work job) (one.limit job) (one.chunk job) (name_at names 0) text (supply g.rest g.failures old)
    (supply g.rest g.failures new) (w.device out) (w.device out') (e.device err) (e.device err') status
