-- One item that a command takes ahead.
use Rattle.std.specs.Prelude.{◌≡◌, ℕ, ◌<◌, ◌^◌, false, List, [], ◌∷◌, ◌++◌, length, Result, IfOk}
use Rattle.vcd_model.specs.Header.{Header}
use Rattle.vcd_model.specs.Items.{BodyItem}
use Rattle.vcd_model.specs.Outcome.{Request, ends_early, open_text}
use Rattle.vcd_text.specs.Ahead.{bytes_of}
use Rattle.vcd_text.specs.Device.{Counts, Device}
use Rattle.vcd_text.specs.declared.ahead.Ahead.{Ahead}
use Rattle.vcd_view.specs.Views.{IsViewOf}
use Rattle.vcd_view.specs.declared.view.HeadView.{HeadView}
use Rattle.vcd_body.specs.Device.{DueBy}
use Rattle.vcd_body.specs.Given.{IsItem}
use Rattle.vcd_body.specs.Items.{AreRegsAfter, regs_after}
use Rattle.vcd_body.specs.Taken.{TakesItem}
use Rattle.vcd_body.specs.declared.ahead.ScannedItem.{ScannedItem}
use Rattle.vcd_body.specs.declared.item.Regs.{Regs}
use Rattle.vcd_engine.specs.Engine.{AtItem, Keeps, request_in}
use Rattle.vcd_engine.specs.PendingCopy.{IsLine, IsPart, PutsOn, pending_in}
use Rattle.vcd_engine.specs.Quiet.{TakesQuietly}
use Rattle.vcd_engine.specs.Room.{SameTask}
use Rattle.vcd_engine.specs.declared.task_state.TaskState.{TaskState}
use Rattle.vcd_engine.specs.declared.pending.PendingCopy.{PendingCopy}

-- how far the loop has come: the position, the registers after the items so far, and from where up
-- to where the line of the last time is
pub record Walk : Type 0 where
  pub ahead : Ahead
  pub regs : Regs
  pub line : ℕ × ℕ

abbrev pub walk_at : Ahead → Regs → ℕ × ℕ → Walk
walk_at a r line = record { ahead = a; regs = r; line = line }

-- the line of the last time is there, or nothing is known of it
abbrev pub HasLine : Walk → Type 0
HasLine w = IsLine (bytes_of w.ahead) w.line w.regs.time

-- a timestamp with which nothing is due was taken
abbrev pub TakesTimestamp : ℕ → TaskState → TaskState → Type 0
TakesTimestamp time m m' = (h : Header) (items : List BodyItem) → length items < 2 ^ 63 → Keeps m h items
    → TakesQuietly (Keeps m' h (items ++ BodyItem.Time time ∷ [])) (request_in m) h items (BodyItem.Time time)

-- an item was taken, and what is due with it put after the text that is pending
abbrev pub PutsItem : {A E : Type 0} → HeadView → Regs → ScannedItem → PendingCopy → PendingCopy → Device → Device → TaskState → TaskState → Result A E → Type 0
PutsItem v r c p p' out out' m m' result = AtItem v r c.item c.text.now (λ h items x. Keeps m h items
    → DueBy (λ due. PutsOn (pending_in c.bytes.now p) (pending_in c.bytes.now p') out out' due result) (open_text (request_in m) h items)
    (open_text (request_in m) h (items ++ x ∷ [])) × IfOk result (λ _. Keeps m' h (items ++ x ∷ [])))

-- what is due with one more item was taken; the item does not end the run, and then this holds
pub record TakesMore {A E : Type 0} (takes : List ℕ → Type 0) (holds : Type 0) (task : Request) (h : Header) (items : List BodyItem) (x : BodyItem) (result : Result A E) : Type 0 where
  pub due : DueBy takes (open_text task h items) (open_text task h (items ++ x ∷ []))
  pub on : ends_early task x ≡ false
  pub keeps : IfOk result (λ _. holds)

-- one more item was taken ahead, and what is due with it was put after the text that is pending
pub record TakesNext {A E : Type 0} (v : HeadView) (w w' : Walk) (p p' : PendingCopy) (out out' : Device) (m m' : TaskState) (result : Result A E) : Type 0 where
  pub scanned : ScannedItem
  pub item : TakesItem v w.ahead w'.ahead w.regs scanned
  pub regs : w'.regs ≡ regs_after w.regs scanned.item
  pub line : HasLine w'
  pub one : (h : Header) (items : List BodyItem) (x : BodyItem) → IsViewOf v h → AreRegsAfter items w.regs
      → IsItem h.codes scanned.text.now scanned.item x → length items < 2 ^ 63 → Keeps m h items
      → TakesMore (λ due. PutsOn (pending_in (bytes_of w.ahead) p) (pending_in (bytes_of w.ahead) p') out out' due result) (Keeps m' h (items ++ x ∷ [])) (request_in m) h items x result
  pub counts : Counts out out' result
  pub part : IfOk result (λ _. IsPart (bytes_of w.ahead) p')
  pub same : SameTask m m'
