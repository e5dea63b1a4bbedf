-- How far a loop over the items ahead has come, from where it began.
use Rattle.std.specs.Prelude.{◌≡◌, ℕ, ◌+◌, ◌^◌, ◌<◌, ◌≤◌, Bool, true, List, [], ◌++◌, length, Result}
use Rattle.vcd_model.specs.Header.{Header}
use Rattle.vcd_model.specs.Items.{BodyItem}
use Rattle.vcd_model.specs.Outcome.{open_text}
use Rattle.vcd_text.specs.Ahead.{bytes_of, longest_of, passed_of}
use Rattle.vcd_text.specs.Device.{Device}
use Rattle.vcd_text.specs.declared.ahead.Ahead.{Ahead}
use Rattle.vcd_view.specs.Views.{IsViewOf}
use Rattle.vcd_view.specs.declared.view.HeadView.{HeadView}
use Rattle.vcd_body.specs.Ahead.{LooksOver}
use Rattle.vcd_body.specs.Walk.{Stage}
use Rattle.vcd_body.specs.declared.item.Regs.{Regs}
use Rattle.vcd_engine.specs.Ahead.{StandsAhead}
use Rattle.vcd_engine.specs.Engine.{request_in}
use Rattle.vcd_engine.specs.Next.{HasLine, TakesNext, Walk, walk_at}
use Rattle.vcd_engine.specs.PendingCopy.{GrowsBut, IsLine, IsPart, pending_in}
use Rattle.vcd_engine.specs.Room.{SameTask}
use Rattle.vcd_engine.specs.declared.task_state.TaskState.{TaskState}
use Rattle.vcd_engine.specs.declared.task_state.walk.WalkState.{WalkState}
use Rattle.vcd_engine.specs.declared.pending.PendingCopy.{PendingCopy}

-- from a position on, some of the items that lie ahead were taken, and what is due with them was
-- written, except what is pending
pub record HasWalked (v : HeadView) (a : Ahead) (r : Regs) (m : TaskState) (begin : Device) (w : Walk) (p : PendingCopy) (out : Device) (m' : TaskState) : Type 0 where
  pub over : LooksOver (longest_of a) (bytes_of a) w.ahead
  pub within : passed_of w.ahead ≤ length (bytes_of w.ahead)
  pub failures : out.failures ≡ begin.failures
  pub same : SameTask m m'
  pub part : IsPart (bytes_of w.ahead) p
  pub line : HasLine w
  pub stands : (h : Header) (lines : ℕ) (before : List BodyItem) → IsViewOf v h → length before + length (bytes_of a) < 2 ^ 63
      → StandsAhead (request_in m) h (longest_of a) lines (bytes_of a) before (passed_of a) [] m r
      → (items : List BodyItem) × StandsAhead (request_in m) h (longest_of a) lines (bytes_of a) before (passed_of w.ahead) items m' w.regs
      × GrowsBut begin out (pending_in (bytes_of a) p) (open_text (request_in m) h before) (open_text (request_in m) h (before ++ items))

-- where a walk is, by what it has at hand
abbrev pub walk_of : {L C : Type 0} → (L → ℕ × ℕ) → Stage (WalkState L) C → Walk
walk_of line s = walk_at s.ahead s.regs (line s.visit.line)

-- a walk of a task may take more of these bytes, with these registers
pub record CanTake {L C : Type 0} (line_of : L → ℕ × ℕ) (is_ready : C → Bool) (state : WalkState L) (command : C) (bytes : List ℕ) (r : Regs) : Type 0 where
  pub ready : is_ready command ≡ true
  pub part : IsPart bytes state.pending
  pub line : IsLine bytes (line_of state.line) r.time

-- one more item was taken ahead by a command
abbrev pub TakesByTask : {L C E : Type 0} → (L → ℕ × ℕ) → (C → TaskState) → HeadView → Stage (WalkState L) C → Stage (WalkState L) C → Result (Unit {0}) E → Type 0
TakesByTask line task_state v s t result = TakesNext v (walk_of line s) (walk_of line t) s.visit.pending t.visit.pending s.out t.out (task_state s.command) (task_state t.command) result
