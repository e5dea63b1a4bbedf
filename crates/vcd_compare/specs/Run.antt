-- A comparison over a body, as a task.
use Rattle.std.specs.Prelude.{◌≡◌, ℕ, ◌≤◌, Bool, true, false, not, cond, ◌&&◌, nat_le, nat_lt, List, [], ◌∷◌, ◌++◌, IfOk, Result, Ok, Err}
use Rattle.vcd_model.specs.Bytes.{is_empty}
use Rattle.vcd_model.specs.Compare.{Asked as ModelAsked, Extent as ModelExtent}
use Rattle.vcd_model.specs.Header.{Header}
use Rattle.vcd_model.specs.Items.{BodyItem, time_after}
use Rattle.vcd_model.specs.Within.{Names, ends_run, within_close, within_open}
use Rattle.vcd_text.specs.Device.{Device, Takes}
use Rattle.vcd_text.specs.declared.device.WriteFailed.{WriteFailed}
use Rattle.vcd_view.specs.Views.{IsViewOf}
use Rattle.vcd_view.specs.declared.view.HeadView.{HeadView}
use Rattle.vcd_body.specs.declared.answer.Done.{Done}
use Rattle.vcd_body.specs.declared.answer.Stop.{Stop}
use Rattle.vcd_run.specs.Plan.{Plan}
use Rattle.vcd_compare.specs.Asked.{model_asked, model_extent}
use Rattle.vcd_compare.specs.Comparing.{Compares, Settles, some_differ}
use Rattle.vcd_compare.specs.Lines.{is_always, lines_due, time_compared}
use Rattle.vcd_compare.specs.declared.comparing.Comparison.{Comparison}
use Rattle.vcd_compare.specs.declared.comparing.Watched.{Watched}
use Rattle.vcd_compare.specs.declared.whole.Answer.{Answer}
use Rattle.vcd_compare.specs.declared.whole.Run.{Run}

-- ---- the run

-- a run has handled these items and goes on: how they compare, and whether a line was written
pub record RunStands (h : Header) (exceptions : List (List ℕ)) (ns : List Names) (items : List BodyItem) (run : Run) : Type 0 where
  pub compares : Compares h exceptions ns items run.comparison run.watched
  pub differs : run.differs ≡ not (is_empty (within_open (model_asked run.comparison.current.asked exceptions) h ns items))

-- what is asked for and the last time stay
pub record SameRun (run run' : Run) : Type 0 where
  pub asked : run'.comparison.current.asked ≡ run.comparison.current.asked
  pub last : run'.last ≡ run.last

-- some line is due at the time that is compared
abbrev pub is_due_now : Watched → Comparison → Bool
is_due_now w c = nat_le w.at c.current.asked.to && some_differ c w.at

-- what the mark of a class becomes once its line was written
abbrev pub flag_after : ModelExtent → ℕ
flag_after e = cond (is_always e) 0 2

-- the lines at the time that is compared were put
abbrev pub PutsDue : HeadView → Run → (out out' : Device) → Result Bool WriteFailed → Type 0
PutsDue v run out out' result = (h : Header) (exceptions : List (List ℕ)) (ns : List Names) (items : List BodyItem) → IsViewOf v h → Compares h exceptions ns items run.comparison run.watched
    → Takes out out' (lines_due (model_asked run.comparison.current.asked exceptions) h ns items) result

-- if some line was due, the marks are settled; otherwise nothing changes
abbrev pub LeavesDue : Bool → Run → Run → Type 0
LeavesDue false run run' = run' ≡ run
LeavesDue true run run' = (count : ℕ) × Settles run.watched.at (flag_after (model_extent run.comparison.current.asked.extent)) run.comparison run'.comparison count
    × (run'.watched ≡ run.watched) × (run'.differs ≡ run.differs)

-- the lines that a timestamp of this time settles
abbrev pub settled_by : ModelAsked → Header → List Names → List BodyItem → ℕ → List ℕ
settled_by q h ns items t = cond (nat_lt (time_compared q items) t) (lines_due q h ns items) []

-- the answer says whether these items end the run; if they do not, it has handled them and goes on
pub record TellsEnd (q : ModelAsked) (h : Header) (exceptions : List (List ℕ)) (ns : List Names) (items : List BodyItem) (run : Run) (tells : Bool) : Type 0 where
  pub ended : tells ≡ ends_run q h ns items
  pub stands : tells ≡ false → RunStands h exceptions ns items run
  pub differs : run.differs ≡ not (is_empty (within_open q h ns items))

-- a timestamp was handled: the lines that it settles were written, and the run goes on after it, or
-- has ended
abbrev pub TakesTime : HeadView → ℕ → Run → Run → Device → Device → Result Bool WriteFailed → Type 0
TakesTime v t run run' out out' result = (h : Header) (exceptions : List (List ℕ)) (ns : List Names) (items : List BodyItem) → IsViewOf v h
    → time_after items ≤ t → RunStands h exceptions ns items run
    → Takes out out' (settled_by (model_asked run.comparison.current.asked exceptions) h ns items t) result
    × IfOk result (TellsEnd (model_asked run.comparison.current.asked exceptions) h exceptions ns (items ++ BodyItem.Time t ∷ []) run')

-- ---- the run as a task

-- the lines by some first items, those at the end, and whether these items end the run
abbrev pub plan_within : ModelAsked → Header → List Names → Plan
plan_within q h ns = record { opens = within_open q h ns; closes = within_close q h ns; ends = ends_run q h ns }

-- a run that goes by this plan has handled these items
pub record HasHandled (run : Run) (p : Plan) (h : Header) (items : List BodyItem) : Type 0 where
  pub exceptions : List (List ℕ)
  pub ns : List Names
  pub by_plan : p ≡ plan_within (model_asked run.comparison.current.asked exceptions) h ns
  pub stands : RunStands h exceptions ns items run

-- after these items and with this text: whether a line was written, and the time of the last item
abbrev pub Tells : Bool → ℕ → List BodyItem → List ℕ → Type 0
Tells differs last items text = (differs ≡ not (is_empty text)) × (last ≡ time_after items)

-- the answer tells so
abbrev pub Answers : Result Answer Stop → List BodyItem → List ℕ → Type 0
Answers (Ok answer) items text = Tells answer.differs answer.last items text
Answers (Err stop) items text = Unit {0}

-- how the run ended
abbrev pub done_of : Result Answer Stop → Result Done Stop
done_of (Ok answer) = Ok answer.done
done_of (Err stop) = Err stop
