-- What a run of any task over a body leaves.
use Rattle.std.specs.Prelude.{◌≡◌, ◌==◌, ◌⊎◌, ◌≤◌, length, ℕ, ◌+◌, ◌<◌, ◌^◌, Bool, true, false, List, [], ◌∷◌, ◌++◌, Some, None, Result, Ok, Err, IfOk}
use Rattle.vcd_model.specs.BodyReading.{body_items, read_body}
use Rattle.vcd_model.specs.Header.{Header}
use Rattle.vcd_model.specs.Input.{Input}
use Rattle.vcd_model.specs.Items.{BodyItem}
use Rattle.vcd_model.specs.Laws.{IsPrefixOf}
use Rattle.vcd_model.specs.Tokens.{Token, stream_of}
use Rattle.vcd_text.specs.Advances.{Advances, CallEnd}
use Rattle.vcd_text.specs.Answer.{failed_after}
use Rattle.vcd_text.specs.Device.{Device, Supply, Writes, WritesSome, failures_then}
use Rattle.vcd_text.specs.Feed.{GaveOnlySeen, HasGiven, SameLoans, chunk_len_of, limit_of, seen, source_of, supply_of, token_of}
use Rattle.vcd_text.specs.ReadAhead.{ReadsAsNeeded}
use Rattle.vcd_text.specs.declared.device.Source.{Ghosts}
use Rattle.vcd_text.specs.declared.feed.Feed.{Feed}
use Rattle.vcd_view.specs.Views.{IsViewOf}
use Rattle.vcd_view.specs.declared.view.HeadView.{HeadView}
use Rattle.vcd_body.specs.Answer.{IsLeft, reads_failed, writes_failed}
use Rattle.vcd_body.specs.Device.{Grows, GrowsSome}
use Rattle.vcd_body.specs.Pace.{KeepsUp}
use Rattle.vcd_body.specs.Reads.{BodyHas, FailsOver, GaveAll, GaveItem, GaveItems}
use Rattle.vcd_body.specs.declared.answer.Done.{Done}
use Rattle.vcd_body.specs.declared.answer.Done.TheVariants.{Early, Whole}
use Rattle.vcd_body.specs.declared.answer.More.{More}
use Rattle.vcd_body.specs.declared.answer.More.TheVariants.{Again, Ended}
use Rattle.vcd_body.specs.declared.answer.Stop.{Stop}
use Rattle.vcd_body.specs.declared.answer.Stop.TheVariants.{Dump, Read, Write, Unmatched}
use Rattle.vcd_body.specs.declared.item.Regs.{Regs}
use Rattle.vcd_run.specs.Plan.{Plan, due_with, is_settled_with}

-- the body begins with these items
pub record BodyBegins (h : Header) (i : Input) (front : List Token) (limit : ℕ) (items : List BodyItem) : Type 0 where
  pub rest : List Token
  pub tokens : (stream_of limit i).tokens ≡ front ++ rest
  pub begins : IsPrefixOf items (body_items (read_body h.codes rest))

-- What a run over this body leaves: the output of the plan for its items, up to the one that ends
-- it, to its fault, or to the end. A failed write leaves a prefix of the output.
abbrev pub BodyGives : (tells : List BodyItem → List ℕ → Type 0) → Plan → Header → Input → List Token → ℕ → ℕ → Device → Device → Result Done Stop → Type 0
BodyGives tells p h i front limit read out out' (Ok Whole) = (items : List BodyItem) × BodyHas h.codes i front limit items None
    × (p.ends items ≡ false) × Writes out out' (p.opens items ++ p.closes items) × tells items (p.opens items ++ p.closes items)
BodyGives tells p h i front limit read out out' (Ok Early) = (items : List BodyItem) × BodyBegins h i front limit items × (p.ends items ≡ true)
    × Writes out out' (p.opens items) × tells items (p.opens items)
BodyGives tells p h i front limit read out out' (Err (Dump input line fault)) = (items : List BodyItem) × (input ≡ 0) × ((fault == 31) ≡ false)
    × BodyHas h.codes i front limit items (Some (record { number = fault; line = line })) × (p.ends items ≡ false) × Writes out out' (p.opens items)
BodyGives tells p h i front limit read out out' (Err (Read input)) = (items : List BodyItem) × (line : ℕ) × (input ≡ 0)
    × BodyHas h.codes (failed_after read i) front limit items (Some (record { number = 31; line = line })) × (p.ends items ≡ false)
    × Writes out out' (p.opens items)
BodyGives tells p h i front limit read out out' (Err Write) =
    ((items : List BodyItem) × BodyBegins h i front limit items × WritesSome out out' (p.opens items))
    ⊎ ((items : List BodyItem) × BodyHas h.codes i front limit items None × (p.ends items ≡ false) × WritesSome out out' (p.opens items ++ p.closes items))
BodyGives tells p h i front limit read out out' (Err (Unmatched name)) = ⊥

-- ---- the run

module _ {T X : Type 0} {g : Ghosts X} (keeps : T → Plan → Header → List BodyItem → Type 0) (p : Plan) (h : Header) (i : Input) (front : List Token) where
  -- a task has come past these items of the body, of which none ends the run
  pub record HasTaken (items : List BodyItem) (task : T) (regs : Regs) (f : Feed X g) : Type 0 where
    pub gave : GaveItems h.codes i front items f regs
    pub stands : keeps task p h items
    pub on : p.ends items ≡ false
    -- there are no more of them than bytes
    pub few : length items ≤ seen f

  -- what a step after these items leaves: one more item and what is due with it; the end of the
  -- body and what comes there; or a fault, with which nothing is written
  abbrev pub StepGives : (tells : List BodyItem → List ℕ → Type 0) → List BodyItem → T → Regs → Feed X g → (out out' : Device) → Result More Stop → Type 0
  StepGives tells items task regs f out out' (Ok Again) = (x : BodyItem) × GaveItem h.codes i front items x f regs
      × HasTaken (items ++ x ∷ []) task regs f × Grows out out' (p.opens items) (p.opens (items ++ x ∷ []))
  StepGives tells items task regs f out out' (Ok (Ended Whole)) = GaveAll h.codes i front items f regs × Writes out out' (p.closes items) × tells items (p.opens items ++ p.closes items)
  StepGives tells items task regs f out out' (Ok (Ended Early)) =
      (x : BodyItem) × GaveItem h.codes i front items x f regs × (p.ends (items ++ x ∷ []) ≡ true)
      × Grows out out' (p.opens items) (p.opens (items ++ x ∷ [])) × tells (items ++ x ∷ []) (p.opens (items ++ x ∷ []))
  StepGives tells items task regs f out out' (Err (Dump input line fault)) =
      (input ≡ 0) × ((fault == 31) ≡ false) × (line ≡ (token_of f).line) × FailsOver h.codes i front items fault f × Writes out out' []
  StepGives tells items task regs f out out' (Err (Read input)) = (input ≡ 0) × FailsOver h.codes (failed_after (seen f) i) front items 31 f × GaveOnlySeen i f × Writes out out' []
  StepGives tells items task regs f out out' (Err Write) =
      ((x : BodyItem) × GaveItem h.codes i front items x f regs × GrowsSome out out' (p.opens items) (p.opens (items ++ x ∷ [])))
      ⊎ (GaveAll h.codes i front items f regs × WritesSome out out' (p.closes items))
  StepGives tells items task regs f out out' (Err (Unmatched name)) = ⊥

  -- what the items that lie ahead leave: they were taken, or a write of what is due with them
  -- failed
  abbrev pub AheadGives : {A E : Type 0} → List BodyItem → T → Regs → Feed X g → (out out' : Device) → Result A E → List BodyItem → Type 0
  AheadGives items task regs f out out' (Ok v) more = HasTaken (items ++ more) task regs f × Grows out out' (p.opens items) (p.opens (items ++ more))
  AheadGives items task regs f out out' (Err e) more = GaveItems h.codes i front (items ++ more) f regs × GrowsSome out out' (p.opens items) (p.opens (items ++ more))

-- the same after any items of any body
abbrev pub Steps : {T X : Type 0} {g : Ghosts X} → (keeps : T → Plan → Header → List BodyItem → Type 0)
    → (tells : T → List BodyItem → List ℕ → Type 0) → HeadView → (task task' : T) → (r r' : Regs) → (f f' : Feed X g) → (out out' : Device)
    → Result More Stop → Type 0
Steps keeps tells v task task' r r' f f' out out' result = (p : Plan) (h : Header) (i : Input) (front : List Token) (items : List BodyItem)
    → IsViewOf v h → HasTaken keeps p h i front items task r f
    → StepGives keeps p h i front (tells task') items task' r' f' out out' result

abbrev pub StepsAhead : {T X A E : Type 0} {g : Ghosts X} → (keeps : T → Plan → Header → List BodyItem → Type 0) → HeadView → (task task' : T)
    → (r r' : Regs) → (f f' : Feed X g) → (out out' : Device) → Result A E → Type 0
StepsAhead keeps v task task' r r' f f' out out' result = (p : Plan) (h : Header) (i : Input) (front : List Token) (items : List BodyItem)
    → IsViewOf v h → HasTaken keeps p h i front items task r f
    → (more : List BodyItem) × AheadGives keeps p h i front items task' r' f' out out' result more

-- it was run to its end, from the first item on
abbrev pub RunsOn : {T X : Type 0} {g : Ghosts X} → (keeps : T → Plan → Header → List BodyItem → Type 0)
    → (tells : T → List BodyItem → List ℕ → Type 0) → HeadView → (task task' : T) → (f f' : Feed X g) → (out out' : Device) → Result Done Stop
    → Type 0
RunsOn keeps tells v task task' f f' out out' result = (p : Plan) (h : Header) (i : Input) (front : List Token) (begin : Device) → IsViewOf v h
    → HasGiven i front f → keeps task p h [] → p.ends [] ≡ false → Writes begin out (p.opens [])
    → BodyGives (tells task') p h i front (limit_of f) (seen f') begin out' result

-- how a step ends for the feed that it reads
abbrev pub step_end : Result More Stop → CallEnd
step_end (Ok Again) = CallEnd.GoesOn
step_end (Err (Read input)) = CallEnd.Fails
step_end result = CallEnd.Ends

-- if the answer is a failed write, one write failed, the last one; otherwise none did
abbrev pub CountsStop : {A : Type 0} → Device → Device → Result A Stop → Type 0
CountsStop out out' result = failures_then (writes_failed result) out' ≡ out.failures + writes_failed result

-- an item ends the run only if one may
abbrev pub StepEndsIf : Bool → Result More Stop → Type 0
StepEndsIf may result = IfOk result (λ more. more ≡ Ended Early → may ≡ true)

abbrev pub EndsIf : Bool → Result Done Stop → Type 0
EndsIf may result = IfOk result (λ done. done ≡ Early → may ≡ true)

-- what a step leaves besides items and output
pub record StepsOver {X : Type 0} {g : Ghosts X} (failures : X → ℕ) (f f' : Feed X g) (out out' : Device) (result : Result More Stop) : Type 0 where
  pub advances : Advances failures f f' (step_end result)
  pub progress : result ≡ Ok Again → seen f < seen f'
  pub bounded : seen f' < 2 ^ 63
  pub writes : CountsStop out out' result

-- if the answer is a failed read or write, one is counted; otherwise none is
abbrev pub CountsBoth : {X A : Type 0} {g : Ghosts X} → (X → ℕ) → (old new : Feed X g) → (out out' : Device) → Result A Stop → Type 0
CountsBoth failures old new out out' result = (failures (source_of new) ≡ failures (source_of old) + reads_failed result) × CountsStop out out' result

-- the windows and loans of the feed stay
abbrev pub SameWindows : {X : Type 0} {g : Ghosts X} → (old new : Feed X g) → Type 0
SameWindows old new = (limit_of new ≡ limit_of old) × (chunk_len_of new ≡ chunk_len_of old) × SameLoans old new

-- ---- how much was read

-- what is left of an input: all of it, or what was read before a failed read
abbrev pub left_of : {A : Type 0} → Input → ℕ → Result A Stop → Input
left_of i read (Err (Read input)) = failed_after read i
left_of i read result = i

-- how far a run has read a body that follows these tokens, those of the header
pub record ReadsNeeded (p : Plan) (h : Header) (limit chunk : ℕ) (i left : Input) (front : List Token) (old new : Supply) (out out' : Device) : Type 0 where
  pub is_left : IsLeft i old new left
  -- no more was read than what settles the run
  pub read : ReadsAsNeeded limit chunk old new left front (is_settled_with p h)
  -- nor did a read run ahead of the output, not even after a failed write
  pub keeps_up : KeepsUp (due_with p h) limit chunk left front old new out out'

-- a run reads no more than it needs
abbrev pub ReadsOn : {T X : Type 0} {g : Ghosts X} → (keeps : T → Plan → Header → List BodyItem → Type 0) → HeadView → T → (f f' : Feed X g)
    → (out out' : Device) → Result Done Stop → Type 0
ReadsOn keeps v task f f' out out' result = (p : Plan) (h : Header) (i : Input) (front : List Token) (begin : Device) → IsViewOf v h
    → HasGiven i front f → keeps task p h [] → p.ends [] ≡ false → Writes begin out (p.opens [])
    → ReadsNeeded p h (limit_of f) (chunk_len_of f) i (left_of i (seen f') result) front (supply_of f) (supply_of f') begin out'
