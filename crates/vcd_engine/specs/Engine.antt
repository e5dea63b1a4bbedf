-- Which request an engine runs, what it keeps, and what it holds after items.
use Rattle.std.specs.Prelude.{◌≡◌, ℕ, ◌^◌, ◌<◌, ◌≤◌, ◌∷◌, ◌++◌, Bool, true, false, cond, List, [], length, map, Option, Some, None, Result, Ok, IfOk, MatchResult, string_bytes}
use Rattle.std.specs.List.{list_any}
use Rattle.vcd_model.specs.Header.{Header}
use Rattle.vcd_model.specs.Input.{Input}
use Rattle.vcd_model.specs.Items.{BodyItem}
use Rattle.vcd_model.specs.ItemText.{last_mark}
use Rattle.vcd_model.specs.Laws.{IsValid}
use Rattle.vcd_model.specs.Outcome.{Request, ends_early, names_of, open_text}
use Rattle.vcd_model.specs.Selection.{first_unmatched}
use Rattle.vcd_model.specs.Tokens.{Token}
use Rattle.vcd_text.specs.Feed.{seen}
use Rattle.vcd_text.specs.declared.device.Source.{Ghosts}
use Rattle.vcd_text.specs.declared.feed.Feed.{Feed}
use Rattle.vcd_view.specs.Views.{IsViewOf}
use Rattle.vcd_view.specs.declared.view.HeadView.{HeadView}
use Rattle.vcd_body.specs.Given.{IsItem}
use Rattle.vcd_body.specs.Items.{AreRegsAfter, regs_after}
use Rattle.vcd_body.specs.declared.item.Item.{Item}
use Rattle.vcd_body.specs.Reads.{GaveItems}
use Rattle.vcd_body.specs.declared.item.Regs.{Regs}
use Rattle.vcd_engine.specs.Check.{AreCounted}
use Rattle.vcd_text.specs.Device.{Device, Takes, Writes, WritesSome}
use Rattle.vcd_body.specs.Device.{DueBy}
use Rattle.vcd_engine.specs.Cut.{AreCut, span_in}
use Rattle.vcd_engine.specs.Edges.{AreEdges, names_counted}
use Rattle.vcd_engine.specs.Pick.{ArePicked, names_in}
use Rattle.vcd_engine.specs.Sample.{AreSampled, asked_in}
use Rattle.vcd_body.specs.declared.answer.Stop.{Stop}
use Rattle.vcd_body.specs.declared.answer.Stop.TheVariants.{Write, Unmatched}
pub use Rattle.vcd_run.specs.Run.{CountsStop}
use Rattle.vcd_engine.specs.declared.engine.Engine.{Engine}
use Rattle.vcd_engine.specs.declared.task_state.TaskState.{TaskState}
use Rattle.vcd_engine.specs.declared.task_state.TaskState.TheVariants as task_state
use Rattle.vcd_engine.specs.declared.task.Task.{Task}
use Rattle.vcd_engine.specs.declared.task.Task.TheVariants as task

-- ---- one case for each command

-- the definitions' request for a task
abbrev pub request_of : Task → Request
request_of task.Check = Request.Check
request_of (task.Pick names) = Request.Pick (map string_bytes names.now)
request_of (task.Cut from to) = Request.Cut from to
request_of (task.Sample times names) = Request.Sample times.now (map string_bytes names.now)
request_of (task.Edges names) = Request.Edges (map string_bytes names.now)

-- the request that a task's state works on
abbrev pub request_in : TaskState → Request
request_in (task_state.Check c) = Request.Check
request_in (task_state.Pick p) = Request.Pick (names_in p)
request_in (task_state.Cut m) = span_in m
request_in (task_state.Sample s) = asked_in s
request_in (task_state.Edges e) = Request.Edges (names_counted e)

-- what a task's state keeps over this header and after these items
abbrev pub Keeps : TaskState → Header → List BodyItem → Type 0
Keeps (task_state.Check c) h items = AreCounted items c
Keeps (task_state.Pick p) h items = ArePicked p h items
Keeps (task_state.Cut m) h items = AreCut m h items
Keeps (task_state.Sample s) h items = AreSampled s h items
Keeps (task_state.Edges e) h items = AreEdges e h items

-- ---- requests

-- the request that an engine runs
abbrev pub request_of_engine : Engine → Request
request_of_engine e = request_in e.task_state

-- a timestamp may end the run
abbrev pub may_end_early : Request → Bool
may_end_early (Request.Cut from to) = true
may_end_early (Request.Sample times names) = true
may_end_early task = false

-- the request is one over a body
abbrev pub reads_body : Request → Bool
reads_body Request.Listing = false
reads_body task = true

-- it can be run over this header: its times are in order, and each of its names selects something
pub record CanRun (task : Request) (h : Header) : Type 0 where
  pub body : reads_body task ≡ true
  pub valid : IsValid task
  pub matched : first_unmatched (names_of task) h.declarations ≡ None

-- ---- the begin

-- a run that stops at its start has a failed write, or a name that selects nothing
abbrev pub StopsUnread : Stop → Type 0
StopsUnread Write = Unit {0}
StopsUnread (Unmatched index) = Unit {0}
StopsUnread stop = ⊥

-- what such a run leaves
abbrev pub StopsAtStart : Request → Header → Device → Device → Stop → Type 0
StopsAtStart task h out out' Write = CanRun task h × WritesSome out out' (open_text task h [])
StopsAtStart task h out out' (Unmatched index) = (first_unmatched (names_of task) h.declarations ≡ Some index) × Writes out out' []
StopsAtStart task h out out' stop = ⊥

-- what comes before all items was written, and this holds of what begins; or why it stops
abbrev pub Starts : {A : Type 0} → (A → Type 0) → Request → Header → Device → Device → Result A Stop → Type 0
Starts holds task h out out' result = MatchResult result (λ a. CanRun task h × holds a × Writes out out' (open_text task h [])) (StopsAtStart task h out out')

-- the same over any header that is shown
abbrev pub StartsOver : {A : Type 0} → HeadView → (A → Header → Type 0) → Request → Device → Device → Result A Stop → Type 0
StartsOver v holds task out out' result = (h : Header) → IsViewOf v h → Starts (λ a. holds a h) task h out out' result

-- ---- items

-- the last timestamp, by the registers
abbrev pub last_time_of : Regs → Option ℕ
last_time_of r = cond r.marked (Some r.time) None

-- What is due with one more item was written, and it was returned whether the item ends the run. If
-- it does not, this holds.
pub record TakesOneBy {E : Type 0} (takes : List ℕ → Type 0) (holds : Type 0) (task : Request) (h : Header) (items : List BodyItem) (x : BodyItem) (result : Result Bool E) : Type 0 where
  pub due : DueBy takes (open_text task h items) (open_text task h (items ++ x ∷ []))
  pub ends : IfOk result (λ ended. ended ≡ ends_early task x)
  pub keeps : result ≡ Ok false → holds

-- what is due with one more item was written
abbrev pub TakesOne : {E : Type 0} → Type 0 → Request → Header → List BodyItem → BodyItem → Device → Device → Result Bool E → Type 0
TakesOne holds task h items x out out' result = TakesOneBy (λ due. Takes out out' due result) holds task h items x result

-- this holds of an item of any header and any items before it, after which the registers are these
abbrev pub AtItem : HeadView → Regs → Item → List ℕ → (Header → List BodyItem → BodyItem → Type 0) → Type 0
AtItem v r item text holds = (h : Header) (items : List BodyItem) (before : Regs) (x : BodyItem) → IsViewOf v h → AreRegsAfter items before
    → r ≡ regs_after before item → IsItem h.codes text item x → length items < 2 ^ 63 → holds h items x

-- what is due with an item of any header, after any items of which the first holds, was written;
-- the second holds of all of them, if the item does not end the run
abbrev pub TakesEach : {E : Type 0} → HeadView → Regs → Item → List ℕ → (holds after : Header → List BodyItem → Type 0) → Request → Device → Device → Result Bool E → Type 0
TakesEach v r item text holds after task out out' result = AtItem v r item text (λ h items x. holds h items → TakesOne (after h (items ++ x ∷ [])) task h items x out out' result)

-- what is due with a timestamp of this time was written, in this way
abbrev pub TakesTime : {E : Type 0} → HeadView → ℕ → (holds after : Header → List BodyItem → Type 0) → Request → Device → Device → Result Bool E → Type 0
TakesTime v time holds after task out out' result = (h : Header) (items : List BodyItem) → IsViewOf v h → holds h items
    → TakesOne (after h (items ++ BodyItem.Time time ∷ [])) task h items (BodyItem.Time time) out out' result

-- this text of any header and all items of its body was put
abbrev pub ClosesOver : {A E : Type 0} → HeadView → (holds : Header → List BodyItem → Type 0) → (text : Header → List BodyItem → List ℕ) → Device → Device → Result A E → Type 0
ClosesOver v holds text out out' result = (h : Header) (items : List BodyItem) → IsViewOf v h → holds h items → Takes out out' (text h items) result

-- this holds of any header and all items of its body, after which the registers are these
abbrev pub AtClose : HeadView → Regs → (Header → List BodyItem → Type 0) → Type 0
AtClose v r holds = (h : Header) (items : List BodyItem) → IsViewOf v h → AreRegsAfter items r → last_time_of r ≡ last_mark items → holds h items

-- the engine has begun, and no step of it has ended the run
abbrev pub is_going : Engine → Bool
is_going e = e.going

-- an engine over this header holds what is due after these items
pub record Holds (e : Engine) (h : Header) (items : List BodyItem) : Type 0 where
  pub views : IsViewOf e.view.now h
  pub can : CanRun (request_of_engine e) h
  pub known : AreRegsAfter items e.regs
  pub last : last_time_of e.regs ≡ last_mark items
  pub keeps : Keeps e.task_state h items

-- after these tokens, those of the header, the feed has given these items, and the engine holds
-- them
pub record Runs {X : Type 0} {g : Ghosts X} (e : Engine) (h : Header) (i : Input) (front : List Token) (items : List BodyItem) (f : Feed X g) : Type 0 where
  pub holds : Holds e h items
  pub gave : GaveItems h.codes i front items f e.regs
  -- none of them ends the run
  pub on : list_any (ends_early (request_of_engine e)) items ≡ false
  -- there are no more of them than bytes
  pub few : length items ≤ seen f
