-- What the calls of a run promise, as far as readers and writers describe themselves.
use Rattle.std.specs.Prelude.{◌≡◌, ℕ, ◌-◌, ◌^◌, ◌<◌, ◌≤◌, ◌⊎◌, All, IfSome, List, length, map, Option, Some, Result}
use Rattle.vcdkit.specs.Cited.{Supply, supply, Ghosts, Done, model_want, names_asked, Job, Want, Refusal, CountsReadsOf, CountsWrites, EndsAtReadOf, failure_of, writes_failed, Tells, Speech, end_message, end_status, Answer, Failure}
pub use Rattle.vcdkit.specs.Cited.{Answers, MayFailOnce, FailOnce}
use Rattle.vcd_text.specs.declared.device.Sink.{Ghosts as Sinks}
use Rattle.vcdkit.specs.Run.{EndsAll, HasRun}
use Rattle.vcdkit.specs.Work.{program_name, refusal_of}

-- how a command speaks that was asked for these names
abbrev pub speech_with : List (List ℕ) → Speech Refusal
speech_with asked = record { asked = asked; refusal = refusal_of; faulty = 1 }

abbrev pub speech_of : Want → Speech Refusal
speech_of want = speech_with (names_asked want)

-- what readers are
abbrev pub supplies : {X : Type 0} → Ghosts X → List X → List Supply
supplies g readers = map (supply g.rest g.failures) readers

-- a merge was run over readers
abbrev pub Merges : {X W : Type 0} → Ghosts X → Sinks W → Job → (old new : List X) → (out out' : W) → Result Done Failure → Type 0
Merges g w job old new out out' result = (texts names : List (List ℕ)) → map g.rest old ≡ map (λ text. Some text) texts
    → EndsAll job.limit job.chunk names texts (supplies g old) (supplies g new) (w.device out) (w.device out') result

-- There are readers, at most as many as a merge may have, and one more failure of each can be
-- counted.
pub record AreReaders {X : Type 0} (failures : X → ℕ) (readers : List X) : Type 0 where
  pub some : 0 < length readers
  pub few : length readers ≤ 64
  pub low : All (λ r. failures r < 2 ^ 64 - 1) readers

-- if it is known how many bytes readers give, each reader whose bytes are known gives at most this
-- many
abbrev pub AreWithin : {X : Type 0} → (X → Option (List ℕ)) → Option ℕ → List X → Type 0
AreWithin rest longest readers = IfSome longest (λ most. All (λ r. IfSome (rest r) (λ text. length text ≤ most)) readers)

-- the length is known, and is at most this
abbrev pub IsWithin : Option ℕ → ℕ → Type 0
IsWithin longest limit = (most : ℕ) × (longest ≡ Some most) × (most ≤ limit)

-- the same limit; or a lower one, but not lower than a length that is known
abbrev pub IsLimitFor : Option ℕ → (wide narrow : ℕ) → Type 0
IsLimitFor longest wide narrow = (narrow ≡ wide) ⊎ ((narrow ≤ wide) × IsWithin longest narrow)

-- the same job, with windows that may be shorter, but not shorter than any token of inputs of this
-- length
pub record Narrows (longest : Option ℕ) (wide narrow : Job) : Type 0 where
  pub task : narrow.task ≡ wide.task
  pub limit : IsLimitFor longest wide.limit narrow.limit
  pub chunk : narrow.chunk ≤ wide.chunk

-- ---- a run and its message

-- a job over inputs with these names succeeded or failed, and its status and its line say which; a
-- failed read was the last one of its reader
abbrev pub EndsSo : {X W E : Type 0} → Ghosts X → Sinks W → Sinks E → Job → List (List ℕ) → (old new : List X) → (out out' : W) → (err err' : E) → ℕ → Type 0
EndsSo g w e job names old new out out' err err' status = (end : Result (Answer Refusal) Failure) × Answers (λ n. n ≡ 0) end
    × CountsReadsOf g.failures old new (failure_of end) × CountsWrites w.device out out' (writes_failed (failure_of end))
    × (status ≡ end_status (speech_of job.task) names end) × Tells program_name (e.device err) (e.device err') (end_message (speech_of job.task) names end)
    × EndsAtReadOf (map g.last_failed new) (failure_of end)

-- if the bytes of the readers are known, it ended as the definitions say
abbrev pub RunsJob : {X W E : Type 0} → Ghosts X → Sinks W → Sinks E → Job → List (List ℕ) → (old new : List X) → (out out' : W) → (err err' : E) → ℕ → Type 0
RunsJob g w e job names old new out out' err err' status = (texts : List (List ℕ)) → map g.rest old ≡ map (λ text. Some text) texts
    → HasRun (model_want job.task) job.limit job.chunk names texts (supplies g old) (supplies g new) (w.device out) (w.device out') (e.device err) (e.device err') status
