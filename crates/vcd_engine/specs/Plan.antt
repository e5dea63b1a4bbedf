-- The tasks over a body as plans.
use Rattle.std.specs.Prelude.{◌≡◌, List}
use Rattle.std.specs.List.{list_any}
use Rattle.vcd_model.specs.Backward.{up_to_first}
use Rattle.vcd_model.specs.Header.{Header}
use Rattle.vcd_model.specs.ItemText.{last_mark}
use Rattle.vcd_model.specs.Items.{BodyItem}
use Rattle.vcd_model.specs.Outcome.{Request, close_text, ends_early, open_text}
use Rattle.vcd_body.specs.Items.{AreRegsAfter}
use Rattle.vcd_body.specs.declared.item.Regs.{Regs}
use Rattle.vcd_run.specs.Plan.{Plan}
use Rattle.vcd_engine.specs.Engine.{Keeps, last_time_of, request_in}
use Rattle.vcd_engine.specs.declared.task_state.TaskState.{TaskState}

-- the plan of a request over a body with this header: its output for the items up to the first that
-- ends it
abbrev pub plan_of : Request → Header → Plan
plan_of t h = record { opens = λ items. open_text t h (up_to_first (ends_early t) items); closes = λ items. close_text t h items; ends = λ items. list_any (ends_early t) items }

-- what a task's state keeps after these items, if it goes on by this plan
pub record KeepsPlan (m : TaskState) (p : Plan) (h : Header) (items : List BodyItem) : Type 0 where
  pub plan : p ≡ plan_of (request_in m) h
  pub keeps : Keeps m h items
  -- the registers after these items have their last timestamp
  pub last : (r : Regs) → AreRegsAfter items r → last_time_of r ≡ last_mark items
