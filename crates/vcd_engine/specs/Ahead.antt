-- What is left when a task takes items that lie completely in a feed's chunk.
use Rattle.std.specs.Prelude.{◌≡◌, ℕ, ◌+◌, ◌<◌, ◌^◌, false, List, [], ◌++◌, length, Result, Ok, Err}
use Rattle.std.specs.List.{list_any}
use Rattle.vcd_model.specs.Header.{Header}
use Rattle.vcd_model.specs.Items.{BodyItem}
use Rattle.vcd_model.specs.ItemText.{last_mark}
use Rattle.vcd_model.specs.Outcome.{Request, ends_early, open_text}
use Rattle.vcd_model.specs.Tokens.{Token}
use Rattle.vcd_text.specs.Ahead.{bytes_of, longest_of, passed_of}
use Rattle.vcd_text.specs.Device.{Counts, Device}
use Rattle.vcd_text.specs.Passed.{Passed}
use Rattle.vcd_text.specs.declared.ahead.Ahead.{Ahead}
use Rattle.vcd_view.specs.Views.{IsViewOf}
use Rattle.vcd_view.specs.declared.view.HeadView.{HeadView}
use Rattle.vcd_body.specs.Ahead.{GaveAhead}
use Rattle.vcd_body.specs.Items.{AreRegsAfter}
use Rattle.vcd_body.specs.declared.item.Regs.{Regs}
use Rattle.vcd_body.specs.Device.{Grows, GrowsSome}
use Rattle.vcd_run.specs.declared.task.AheadEnd.{AheadEnd}
use Rattle.vcd_engine.specs.Engine.{Keeps, last_time_of, request_in}
use Rattle.vcd_engine.specs.Room.{SameTask}
use Rattle.vcd_engine.specs.declared.task_state.TaskState.{TaskState}

module _ (task : Request) (h : Header) (limit lines : ℕ) (bytes : List ℕ) (before : List BodyItem) where
  -- after the items before, these lie in the first n bytes ahead; none of them ends the run, and
  -- task's state and registers are those after them
  pub record StandsAhead (n : ℕ) (items : List BodyItem) (m : TaskState) (r : Regs) : Type 0 where
    pub gave : GaveAhead h.codes limit lines bytes n before items
    pub known : AreRegsAfter (before ++ items) r
    pub last : last_time_of r ≡ last_mark (before ++ items)
    pub keeps : Keeps m h (before ++ items)
    pub on : list_any (ends_early task) (before ++ items) ≡ false

  -- how taking them ends after these items: no other was taken; or a write of what is due with
  -- these failed
  abbrev pub EndsAhead : {A E : Type 0} → ℕ → TaskState → Regs → Device → Device → Result A E → List BodyItem → Type 0
  EndsAhead n m r out out' (Ok v) items = StandsAhead n items m r × Grows out out' (open_text task h before) (open_text task h (before ++ items))
  EndsAhead n m r out out' (Err e) items = GaveAhead h.codes limit lines bytes n before items × AreRegsAfter (before ++ items) r
      × GrowsSome out out' (open_text task h before) (open_text task h (before ++ items))

  -- some of the items were taken, of which none ends the run, and what is due with them was
  -- written, or a prefix of it if a write failed
  abbrev pub RunsAhead : {A E : Type 0} → ℕ → TaskState → Regs → Device → Device → Result A E → Type 0
  RunsAhead n m r out out' result = (more : List BodyItem) × (list_any (ends_early task) (before ++ more) ≡ false) × EndsAhead n m r out out' result more

-- what a task leaves that takes the items which lie completely in the chunk, from a position on
pub record RunsOver (v : HeadView) (a : Ahead) (r : Regs) (m m' : TaskState) (out out' : Device) (t : AheadEnd) : Type 0 where
  pub gives : (h : Header) (lines : ℕ) (before : List BodyItem) → IsViewOf v h → length before + length (bytes_of a) < 2 ^ 63
      → StandsAhead (request_in m) h (longest_of a) lines (bytes_of a) before (passed_of a) [] m r
      → RunsAhead (request_in m) h (longest_of a) lines (bytes_of a) before t.passed m' t.regs out out' t.written
  pub passes : (lines : ℕ) (ts : List Token) → Passed (longest_of a) lines (bytes_of a) (passed_of a) ts → (more : List Token) × Passed (longest_of a) lines (bytes_of a) t.passed (ts ++ more)
  pub counts : Counts out out' t.written
  pub same : SameTask m m'
