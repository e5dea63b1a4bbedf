-- What a run over one input leaves, whatever its job.
use Rattle.std.specs.Prelude.{◌≡◌, ℕ, Bool, List, [], ◌∷◌, ◌++◌, codes, Result, Ok, Err}
use Rattle.vcd_job.specs.Cited.{Header, Input, Outcome, declarations_allowed, name_at, is_header_over, Token, stream_of, whole, Device, Supply, Writes, WritesSome, ReadsAsNeeded, IsLeft, KeepsUp, Done, Stop, Dump, Read, Write, Unmatched}
use Rattle.vcd_job.specs.Failure.{stop_failure}
use Rattle.vcd_job.specs.Message.{Tells, failure_message, failure_status}
use Rattle.vcd_job.specs.Work.{Work, due_of, outcome_of, over_header, settled_of}
use Rattle.vcd_job.specs.declared.failure.Failure.{Failure}
use Rattle.vcd_job.specs.declared.failure.Failure.TheVariants.{Stopped, OutOfMemory}
use Rattle.vcd_job.specs.declared.answer.Answer.{Answer}
use Rattle.vcd_job.specs.declared.answer.Answer.TheVariants.{Status, Refused}

-- ---- what is said at the end

-- How a job speaks: the names that it was asked for, the message and the status of a refusal over an
-- input of a name, and the status of a fault.
pub record Speech (R : Type 0) : Type 0 where
  pub asked : List (List ℕ)
  pub refusal : R → List ℕ → Outcome
  pub faulty : ℕ

-- the message of a run over an input that has the first of these names, empty if there is none
abbrev pub end_message : {R : Type 0} → Speech R → (names : List (List ℕ)) → Result (Answer R) Failure → List ℕ
end_message s names (Ok (Status n)) = []
end_message s names (Ok (Refused why)) = (s.refusal why (name_at names 0)).message
end_message s names (Err failure) = failure_message names s.asked failure

-- its exit status
abbrev pub end_status : {R : Type 0} → Speech R → (names : List (List ℕ)) → Result (Answer R) Failure → ℕ
end_status s names (Ok (Status n)) = n
end_status s names (Ok (Refused why)) = (s.refusal why (name_at names 0)).status
end_status s names (Err failure) = failure_status s.faulty failure

-- what a job answers whose task returned this
abbrev pub answer_end : {R : Type 0} → Result Done Stop → Result (Answer R) Failure
answer_end (Ok done) = Ok (Status 0)
answer_end (Err stop) = Err (stop_failure stop 0)

-- ---- how a run ends

-- the output of a run with this outcome; a failed write leaves a prefix of it, and if memory ran out
-- there is none
abbrev pub Leaves : {R : Type 0} → Speech R → Outcome → List ℕ → Device → Device → Result (Answer R) Failure → Type 0
Leaves s o name out out' (Err (Stopped Write)) = WritesSome out out' o.output
Leaves s o name out out' (Err OutOfMemory) = Writes out out' []
Leaves s o name out out' (Err (Stopped (Dump input line fault))) = (input ≡ 0)
    × (o.message ≡ end_message s (name ∷ []) (Err (Stopped (Dump input line fault)))) × (o.status ≡ s.faulty) × Writes out out' o.output
Leaves s o name out out' (Err (Stopped (Read input))) = (input ≡ 0) × (o.message ≡ end_message s (name ∷ []) (Err (Stopped (Read input)))) × (o.status ≡ 3) × Writes out out' o.output
Leaves s o name out out' (Err (Stopped (Unmatched place))) = (o.message ≡ end_message s (name ∷ []) (Err (Stopped (Unmatched place)))) × (o.status ≡ s.faulty) × Writes out out' o.output
Leaves s o name out out' (Ok answer) = (o.message ≡ end_message s (name ∷ []) (Ok answer)) × (o.status ≡ end_status s (name ∷ []) (Ok answer)) × Writes out out' o.output

-- which first tokens settle a run; if memory ran out, those that settle the header
abbrev pub settled_for : {A : Type 0} → Result A Failure → (run header : List Token → Bool) → List Token → Bool
settled_for (Ok answer) run header = run
settled_for (Err (Stopped stop)) run header = run
settled_for (Err OutOfMemory) run header = header

-- How a run ends over an input with this name, of which these tokens were given: with an outcome
-- that is due for what is left of the input. No more was read than what settles it, and the output
-- keeps up with the text that is due with the tokens after those.
pub record Ends {R : Type 0} (s : Speech R) (IsDue : Input → Outcome → Type 0) (limit chunk : ℕ) (i : Input) (name : List ℕ) (front : List Token)
    (settled : List Token → Bool) (text_due : List Token → List ℕ) (old new : Supply) (out out' : Device)
    (result : Result (Answer R) Failure) : Type 0 where
  pub left : Input
  pub is_left : IsLeft i old new left
  pub read : ReadsAsNeeded limit chunk old new left front settled
  pub keeps_up : KeepsUp text_due limit chunk left front old new out out'
  pub due : Outcome
  pub is_due : IsDue left due
  pub leaves : Leaves s due name out out' result

-- the outcome of a job over this input
abbrev pub IsOfWork : Work → ℕ → List ℕ → Input → Outcome → Type 0
IsOfWork work limit name left o = o ≡ outcome_of work limit name left

-- the outcome after these tokens, which are those of this header
abbrev pub IsAfter : Work → ℕ → List Token → Header → List ℕ → Input → Outcome → Type 0
IsAfter work limit front h name left o =
    (rest : List Token) × ((stream_of limit left).tokens ≡ front ++ rest)
    × (o ≡ over_header (work.course name h) (record { header = h; stream = stream_of limit left; rest = rest }))

-- ---- what is on the devices

-- a run leaves this outcome on its output, on the error stream and in its status, as far as its
-- devices allow; the program has this name
pub data IsOutcome (program : List ℕ) (o : Outcome) (out out' err err' : Device) (status : ℕ) : Type 0 where
  -- all of the outcome
  Whole : (written : Writes out out' o.output) (shown : Tells program err err' o.message) (status_is : status ≡ o.status) → IsOutcome program o out out' err err' status
  -- a prefix of the output, if a write of it failed
  Part : (written : WritesSome out out' o.output) (shown : Tells program err err' (codes "write failed")) (status_is : status ≡ 3) → IsOutcome program o out out' err err' status

-- how a job ends over an input with this name and this text
pub data HasRun (program : List ℕ) (work : Work) (limit chunk : ℕ) (name text : List ℕ) (old new : Supply) (out out' err err' : Device) (status : ℕ) : Type 0 where
  -- with the outcome of the input
  WithOutcome : (left : Input) (is_left : IsLeft (whole text) old new left) (read : ReadsAsNeeded limit chunk old new left [] (settled_of work name declarations_allowed))
      (keeps_up : KeepsUp (due_of work name declarations_allowed) limit chunk left [] old new out out') (leaves : IsOutcome program (outcome_of work limit name left) out out' err err' status)
      → HasRun program work limit chunk name text old new out out' err err' status
  -- without output, if memory ran out and no read failed; no more was read than the header
  NoMemory : (left : Input) (is_left : IsLeft (whole text) old new left) (read : ReadsAsNeeded limit chunk old new left [] (is_header_over declarations_allowed))
      (keeps_up : KeepsUp (due_of work name declarations_allowed) limit chunk left [] old new out out') (same : new.failures ≡ old.failures)
      (written : Writes out out' []) (shown : Tells program err err' (codes "out of memory")) (status_is : status ≡ 3)
      → HasRun program work limit chunk name text old new out out' err err' status
