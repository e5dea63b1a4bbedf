-- What a run over a body leaves: what is left of the input, how much of it was read, and what is on
-- the output.
use Rattle.std.specs.Prelude.{◌≡◌, ℕ, ◌<◌, ◌-◌, ◌^◌, List, ◌++◌, Result, IfOk, IfErr, ◌==◌, Bool, true, false, Some, Ok, Err}
use Rattle.std.specs.List.{list_any}
use Rattle.vcd_model.specs.BodyReading.{read_body, body_items}
use Rattle.vcd_model.specs.Bound.{RoomSize}
use Rattle.vcd_model.specs.Due.{due_after}
use Rattle.vcd_model.specs.Input.{Input}
use Rattle.vcd_model.specs.Tokens.{Token, stream_of}
use Rattle.vcd_model.specs.Header.{Header}
use Rattle.vcd_model.specs.Outcome.{Request, names_of, Outcome, clean_outcome, ends_early, fault_outcome, name_at, over_dump, unmatched_outcome}
use Rattle.vcd_model.specs.Selection.{first_unmatched}
use Rattle.vcd_model.specs.Settled.{is_settled_behind}
use Rattle.vcd_text.specs.Advances.{HasNotFailed}
use Rattle.vcd_text.specs.Device.{Device, Supply, Writes, WritesSome}
use Rattle.vcd_text.specs.Feed.{HasGiven, chunk_len_of, limit_of, source_of, supply_of}
use Rattle.vcd_text.specs.ReadAhead.{ReadsAsNeeded}
use Rattle.vcd_text.specs.declared.device.Source.{Ghosts}
use Rattle.vcd_text.specs.declared.feed.Feed.{Feed}
use Rattle.vcd_view.specs.Views.{IsViewOf}
use Rattle.vcd_view.specs.declared.view.HeadView.{HeadView}
use Rattle.vcd_body.specs.Answer.{EndsAtRead, IsLeft}
use Rattle.vcd_body.specs.Pace.{KeepsUp}
use Rattle.vcd_body.specs.declared.answer.Stop.{Stop}
use Rattle.vcd_body.specs.declared.answer.Stop.TheVariants.{Dump, Read, Write, Unmatched}
use Rattle.vcd_body.specs.declared.answer.Done.{Done}
use Rattle.vcd_body.specs.declared.answer.Done.TheVariants.{Whole, Early}
pub use Rattle.vcd_run.specs.Run.{CountsBoth, SameWindows}
use Rattle.vcd_engine.specs.Engine.{may_end_early}
use Rattle.vcd_engine.specs.Room.{FitsBound}

-- the answer and the output of a run of this task over the one input, which has this name and this
-- outcome; a failed write leaves a prefix of the output
abbrev pub Belongs : Request → Outcome → List ℕ → Device → Device → Result Done Stop → Type 0
Belongs task o name out out' (Ok done) = (o ≡ clean_outcome o.output) × Writes out out' o.output
Belongs task o name out out' (Err (Dump input line fault)) = (input ≡ 0) × (o ≡ fault_outcome o.output name (record { number = fault; line = line }))
    × ((fault == 31) ≡ false) × Writes out out' o.output
Belongs task o name out out' (Err (Read input)) = (input ≡ 0) × ((line : ℕ) × (o ≡ fault_outcome o.output name (record { number = 31; line = line }))) × Writes out out' o.output
Belongs task o name out out' (Err Write) = WritesSome out out' o.output
Belongs task o name out out' (Err (Unmatched index)) = (o ≡ unmatched_outcome (name_at (names_of task) index)) × Writes out out' o.output

-- a timestamp ended the run
abbrev pub is_early : Done → Bool
is_early Whole = false
is_early Early = true

-- a name that is refused is the first that selects nothing
abbrev pub IsRefused : Request → Header → Stop → Type 0
IsRefused task h (Unmatched index) = first_unmatched (names_of task) h.declarations ≡ Some index
IsRefused task h stop = Unit {0}

-- after these tokens, which are those of this header, a run does this task
pub record Follows (task : Request) (limit chunk : ℕ) (i : Input) (front : List Token) (h : Header) (name : List ℕ) (old new : Supply)
    (out out' : Device) (result : Result Done Stop) : Type 0 where
  pub left : Input
  pub is_left : IsLeft i old new left
  pub rest : List Token
  pub tokens : (stream_of limit left).tokens ≡ front ++ rest
  pub belongs : Belongs task (over_dump task name (record { header = h; stream = stream_of limit left; rest = rest })) name out out' result
  -- no more was read than what settles the task
  pub read : ReadsAsNeeded limit chunk old new left front (is_settled_behind task h)
  -- nor did a read run ahead of the output, not even after a failed write
  pub keeps_up : KeepsUp (due_after task h) limit chunk left front old new out out'
  -- it ended early if and only if an item ends it
  pub early : IfOk result (λ done. is_early done ≡ list_any (ends_early task) (body_items (read_body h.codes rest)))
  pub refused : IfErr result (IsRefused task h)

-- the same over any header and any input
abbrev pub Does : {X : Type 0} {g : Ghosts X} → Request → HeadView → (old new : Feed X g) → (out out' : Device) → Result Done Stop → Type 0
Does task v old new out out' result = (h : Header) (i : Input) (front : List Token) (name : List ℕ) → IsViewOf v h → HasGiven i front old
    → Follows task (limit_of old) (chunk_len_of old) i front h name (supply_of old) (supply_of new) out out' result

-- it ends early only if a timestamp may end it
abbrev pub EndsAsAsked : Request → Result Done Stop → Type 0
EndsAsAsked task result = IfOk result (λ done. done ≡ Early → may_end_early task ≡ true)

-- a run may begin: no failed read of the feed was returned, devices can count one more failure, and
-- what is lent is within the bound
pub record MayRun {X : Type 0} {g : Ghosts X} (failures : X → ℕ) (f : Feed X g) (v : HeadView) (room : RoomSize) (out : Device) : Type 0 where
  pub feed_failures : failures (source_of f) < 2 ^ 64 - 1
  pub out_failures : out.failures < 2 ^ 64 - 1
  pub unfailed : HasNotFailed f
  pub bound : FitsBound f v room

-- a run does this task; a failure is counted and is the last call of its device, and the windows
-- stay
pub record RunsTask {X : Type 0} {g : Ghosts X} (failures : X → ℕ) (task : Request) (v : HeadView) (old new : Feed X g) (out out' : Device) (result : Result Done Stop) : Type 0 where
  pub gives : Does task v old new out out' result
  pub devices : CountsBoth failures old new out out' result
  pub last : EndsAtRead (g.last_failed (source_of new)) result
  pub windows : SameWindows old new

-- the same, and if it succeeded, the body was read to its end
pub record RunsWhole {X : Type 0} {g : Ghosts X} (failures : X → ℕ) (task : Request) (v : HeadView) (old new : Feed X g) (out out' : Device) (result : Result Done Stop) : Type 0 where
  pub runs : RunsTask failures task v old new out out' result
  pub answer : IfOk result (λ done. done ≡ Whole)
