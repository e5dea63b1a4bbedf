-- The outcome of a plan over a body, and that of a run of any task.
use Rattle.std.specs.Prelude.{◌≡◌, ◌==◌, ℕ, Bool, true, false, cond, List, ◌++◌, Option, Some, None, Result, Ok, Err}
use Rattle.vcd_model.specs.BodyReading.{body_fault_of, body_items, read_body}
use Rattle.vcd_model.specs.Declarations.{IdCode}
use Rattle.vcd_model.specs.Header.{Header}
use Rattle.vcd_model.specs.Input.{Input}
use Rattle.vcd_model.specs.Items.{BodyItem}
use Rattle.vcd_model.specs.Laws.{IsPrefixOf}
use Rattle.vcd_model.specs.Outcome.{Outcome}
use Rattle.vcd_model.specs.Reading.{Fault}
use Rattle.vcd_model.specs.Tokens.{Token, stream_of}
use Rattle.vcd_text.specs.Device.{Device, Writes, WritesSome}
use Rattle.vcd_body.specs.declared.answer.Done.{Done}
use Rattle.vcd_body.specs.declared.answer.Done.TheVariants.{Early, Whole}
use Rattle.vcd_body.specs.declared.answer.Stop.{Stop}
use Rattle.vcd_body.specs.declared.answer.Stop.TheVariants.{Dump, Read, Write, Unmatched}
use Rattle.vcd_run.specs.Plan.{Plan}

-- an outcome by what was written: of a run that an item ended; of one over all of these items; and
-- of one that met a fault
pub record Ways : Type 0 where
  pub early : List ℕ → Outcome
  pub well : List BodyItem → List ℕ → Outcome
  pub faulty : List ℕ → Fault → Outcome

-- an outcome has what was written as its output, and after it nothing but what a run writes at its
-- end
pub record KeepOutput (w : Ways) : Type 0 where
  pub early : (text : List ℕ) → IsPrefixOf text (w.early text).output
  pub well : (items : List BodyItem) (text : List ℕ) → IsPrefixOf text (w.well items text).output
  pub faulty : (text : List ℕ) (f : Fault) → (w.faulty text f).output ≡ text

-- the outcome of a body with these items and this fault
unfoldable pub over_plan : Plan → Ways → List BodyItem → Option Fault → Outcome
over_plan p w items fault = cond (p.ends items) (w.early (p.opens items)) (elim fault [ Some f ↦ w.faulty (p.opens items) f | None ↦ w.well items (p.opens items ++ p.closes items) ])

-- No item of a body takes back what was due before it, and none after those that end a run counts.
abbrev pub IsSound : Plan → List IdCode → Type 0
IsSound p codes = (limit : ℕ) (i : Input) (front rest : List Token) (items more : List BodyItem) → (stream_of limit i).tokens ≡ front ++ rest
    → body_items (read_body codes rest) ≡ items ++ more
    → IsPrefixOf (p.opens items) (p.opens (items ++ more)) × (p.ends items ≡ true → (p.ends (items ++ more) ≡ true) × (p.opens (items ++ more) ≡ p.opens items))

-- the answer and the output belong to this outcome
abbrev pub Belongs : (told : List BodyItem → List ℕ → Type 0) → Ways → Outcome → Device → Device → Result Done Stop → Type 0
Belongs told w o out out' (Ok Whole) = (items : List BodyItem) × (text : List ℕ) × (o ≡ w.well items text) × Writes out out' text × told items text
Belongs told w o out out' (Ok Early) = (items : List BodyItem) × (text : List ℕ) × (o ≡ w.early text) × Writes out out' text × told items text
Belongs told w o out out' (Err (Dump input line fault)) = (text : List ℕ) × (input ≡ 0) × ((fault == 31) ≡ false)
    × (o ≡ w.faulty text (record { number = fault; line = line })) × Writes out out' text
Belongs told w o out out' (Err (Read input)) = (text : List ℕ) × (line : ℕ) × (input ≡ 0) × (o ≡ w.faulty text (record { number = 31; line = line })) × Writes out out' text
Belongs told w o out out' (Err Write) = WritesSome out out' o.output
Belongs told w o out out' (Err (Unmatched name)) = ⊥

-- the run ended early if and only if this is true
abbrev pub EndsAs : Bool → Result Done Stop → Type 0
EndsAs ends (Ok Whole) = ends ≡ false
EndsAs ends (Ok Early) = ends ≡ true
EndsAs ends (Err stop) = Unit {0}

-- the outcome of this input, if these first tokens are its header
pub record GivesOutcome (told : List BodyItem → List ℕ → Type 0) (p : Plan) (w : Ways) (h : Header) (left : Input) (front : List Token) (limit : ℕ)
    (out out' : Device) (result : Result Done Stop) : Type 0 where
  pub rest : List Token
  pub tokens : (stream_of limit left).tokens ≡ front ++ rest
  pub belongs : Belongs told w (over_plan p w (body_items (read_body h.codes rest)) (body_fault_of (stream_of limit left) (read_body h.codes rest))) out out' result
  pub early : EndsAs (p.ends (body_items (read_body h.codes rest))) result
