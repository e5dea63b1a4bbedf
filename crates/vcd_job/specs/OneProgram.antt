-- What a program over one input says of itself, whatever its job.
use Rattle.std.specs.Prelude.{◌≡◌, ◌+◌, ℕ, Bool, true, false, List, [], ◌∷◌, Result}
use Rattle.vcd_job.specs.Cited.{Device, Input, KeepsUp, ReadsAsNeeded, Supply, Token, declarations_allowed, failures_then, is_header_over}
use Rattle.vcd_job.specs.Calls.{Answers}
use Rattle.vcd_job.specs.Ends.{Speech, end_message, end_status}
use Rattle.vcd_job.specs.Failure.{CountsReads, EndsAtReadOf, failure_of, writes_failed}
use Rattle.vcd_job.specs.Message.{Tells}
use Rattle.vcd_job.specs.Work.{Work, due_of, settled_of}
use Rattle.vcd_job.specs.declared.answer.Answer.{Answer}
use Rattle.vcd_job.specs.declared.failure.Failure.{Failure}

-- Over any input a job of the program of this name succeeds or fails, and says which; it fails with a
-- failed read only if a read of the input failed, its last one; likewise for a write.
abbrev pub EndsAlone : {R : Type 0} → (program : List ℕ) → (answers : ℕ → Type 0) → Speech R → (names : List (List ℕ)) → (before after : List ℕ)
    → (last_failed : List Bool) → (out out' err err' : Device) → (status : ℕ) → Type 0
EndsAlone {R = R} program answers s names before after last_failed out out' err err' status =
    (end : Result (Answer R) Failure) × Answers answers end × CountsReads before after (failure_of end)
    × (failures_then (writes_failed (failure_of end)) out' ≡ out.failures + writes_failed (failure_of end))
    × (status ≡ end_status s names end) × Tells program err err' (end_message s names end) × EndsAtReadOf last_failed (failure_of end)

-- which first tokens settle a run, whatever the name of its input; if memory ran out, those that
-- settle the header
abbrev pub settled_if : (ended : Bool) → Work → List Token → Bool
settled_if true work = settled_of work [] declarations_allowed
settled_if false work = is_header_over declarations_allowed

-- of the input no more was read than what settles it, and no read ran ahead of the output
pub record WasRead (work : Work) (limit chunk : ℕ) (ended : Bool) (old new : Supply) (i : Input) (out out' : Device) : Type 0 where
  pub read : ReadsAsNeeded limit chunk old new i [] (settled_if ended work)
  pub keeps_up : KeepsUp (due_of work [] declarations_allowed) limit chunk i [] old new out out'

-- the same of the only one of some inputs
abbrev pub Reads : Work → (limit chunk : ℕ) → (ended : Bool) → (old new : List Supply) → List Input → (out out' : Device) → Type 0
Reads work limit chunk ended (s ∷ []) (t ∷ []) (i ∷ []) out out' = WasRead work limit chunk ended s t i out out'
Reads work limit chunk ended old new inputs out out' = ⊥
