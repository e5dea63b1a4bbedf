-- What a step of an engine leaves.
use Rattle.std.specs.Prelude.{◌≡◌, ℕ, ◌<◌, ◌-◌, ◌^◌, List, ◌++◌, Result, ◌==◌, ◌⊎◌, true, false, [], ◌∷◌, Ok, Err, IfOk}
use Rattle.vcd_model.specs.Items.{BodyItem}
use Rattle.vcd_model.specs.Input.{Input}
use Rattle.vcd_model.specs.Tokens.{Token}
use Rattle.vcd_model.specs.Header.{Header}
use Rattle.vcd_model.specs.Outcome.{Request, ends_early, open_text, close_text}
use Rattle.vcd_text.specs.declared.device.Source.{Ghosts}
use Rattle.vcd_text.specs.declared.feed.Feed.{Feed}
use Rattle.vcd_text.specs.Answer.{failed_after}
use Rattle.vcd_text.specs.Feed.{GaveOnlySeen, seen, source_of, token_of}
use Rattle.vcd_text.specs.Advances.{Advances}
use Rattle.vcd_body.specs.Answer.{goes_on}
use Rattle.vcd_body.specs.Reads.{FailsOver, GaveAll, GaveItem}
use Rattle.vcd_body.specs.declared.answer.Stop.{Stop}
use Rattle.vcd_body.specs.declared.answer.Stop.TheVariants.{Dump, Read, Write, Unmatched}
use Rattle.vcd_text.specs.Device.{Device, Writes}
use Rattle.vcd_body.specs.Device.{Grows, GrowsSome}
use Rattle.vcd_body.specs.declared.answer.Done.TheVariants.{Whole, Early}
use Rattle.vcd_body.specs.declared.answer.More.{More}
use Rattle.vcd_body.specs.declared.answer.More.TheVariants.{Again, Ended}
use Rattle.vcd_run.specs.Run.{CountsStop}
pub use Rattle.vcd_run.specs.Run.{step_end}
use Rattle.vcd_engine.specs.declared.engine.Engine.{Engine}
use Rattle.vcd_engine.specs.Engine.{Runs, is_going, may_end_early, request_of_engine}
use Rattle.vcd_engine.specs.Room.{FitsBound, SameHold, room_in, view_in}

-- what a step after these items returns, by the engine, the feed and the output that it leaves
abbrev pub StepGives : {X : Type 0} {g : Ghosts X} → Request → Header → Input → List Token → List BodyItem → Engine → Feed X g → Device → Device → Result More Stop → Type 0
StepGives task h i front items e f out out' (Ok Again) =
    (x : BodyItem) × Runs e h i front (items ++ x ∷ []) f × Grows out out' (open_text task h items) (open_text task h (items ++ x ∷ [])) × GaveItem h.codes i front items x f e.regs
StepGives task h i front items e f out out' (Ok (Ended Whole)) = GaveAll h.codes i front items f e.regs × Writes out out' (close_text task h items)
StepGives task h i front items e f out out' (Ok (Ended Early)) =
    (x : BodyItem) × (ends_early task x ≡ true) × GaveItem h.codes i front items x f e.regs × Grows out out' (open_text task h items) (open_text task h (items ++ x ∷ []))
StepGives task h i front items e f out out' (Err (Dump input line fault)) =
    (input ≡ 0) × ((fault == 31) ≡ false) × (line ≡ (token_of f).line) × FailsOver h.codes i front items fault f × Writes out out' []
StepGives task h i front items e f out out' (Err (Read input)) =
    (input ≡ 0) × FailsOver h.codes (failed_after (seen f) i) front items 31 f × GaveOnlySeen i f × Writes out out' []
StepGives task h i front items e f out out' (Err Write) =
    ((x : BodyItem) × GaveItem h.codes i front items x f e.regs × GrowsSome out out' (open_text task h items) (open_text task h (items ++ x ∷ [])))
    ⊎ (GaveAll h.codes i front items f e.regs × GrowsSome out out' [] (close_text task h items))
StepGives task h i front items e f out out' (Err (Unmatched name)) = ⊥

-- the same after any items of any input
abbrev pub Steps : {X W : Type 0} {g : Ghosts X} → (W → Device) → Engine → Engine → Feed X g → Feed X g → W → W → Result More Stop → Type 0
Steps device e e' f f' out out' result = (h : Header) (i : Input) (front : List Token) (items : List BodyItem) → Runs e h i front items f
    → StepGives (request_of_engine e) h i front items e' f' (device out) (device out') result

-- a step ends the run early only if a timestamp may end it
abbrev pub MayEnd : Request → Result More Stop → Type 0
MayEnd task result = IfOk result (λ more. more ≡ Ended Early → may_end_early task ≡ true)

-- ---- a step over any input

-- a step may be taken: no step has ended the run, devices can count one more failure, and what is
-- lent is within the bound
pub record MayStep {X : Type 0} {g : Ghosts X} (failures : X → ℕ) (e : Engine) (f : Feed X g) (out : Device) : Type 0 where
  pub feed_failures : failures (source_of f) < 2 ^ 64 - 1
  pub out_failures : out.failures < 2 ^ 64 - 1
  pub going : is_going e ≡ true
  pub bound : FitsBound f (view_in e) (room_in e)

-- what a step leaves besides items and output: the feed has advanced, a write that failed is
-- counted, the engine has the same task, view and room, and it has not ended if the answer is
-- `Again`
pub record StepsOver {X : Type 0} {g : Ghosts X} (failures : X → ℕ) (e e' : Engine) (f f' : Feed X g) (out out' : Device) (result : Result More Stop) : Type 0 where
  pub advances : Advances failures f f' (step_end result)
  pub progress : result ≡ Ok Again → seen f < seen f'
  pub bounded : seen f' < 2 ^ 63
  pub writes : CountsStop out out' result
  pub going : is_going e' ≡ goes_on result
  pub request : request_of_engine e' ≡ request_of_engine e
  pub holds : SameHold e e'
  pub answer : MayEnd (request_of_engine e) result
