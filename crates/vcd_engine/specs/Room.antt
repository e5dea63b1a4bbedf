-- Whether room is large enough for a task, and small enough for the bound.
use Rattle.std.specs.Prelude.{◌≡◌, ℕ, ◌≤◌, length, max, Result, IfOk, MatchResult}
use Rattle.vcd_model.specs.Bound.{FitsInput, RoomSize, no_room}
use Rattle.vcd_model.specs.Header.{Header}
use Rattle.vcd_model.specs.Outcome.{Request}
use Rattle.vcd_text.specs.Device.{Device}
use Rattle.vcd_text.specs.Feed.{chunk_len_of, limit_of}
use Rattle.vcd_text.specs.declared.device.Source.{Ghosts}
use Rattle.vcd_text.specs.declared.feed.Feed.{Feed}
use Rattle.vcd_view.specs.Needs.{room, view_size}
use Rattle.vcd_view.specs.Shown.{parts}
use Rattle.vcd_view.specs.Views.{IsViewOf}
use Rattle.vcd_engine.specs.Pick.{flags_in}
use Rattle.vcd_engine.specs.declared.engine.Engine.{Engine}
use Rattle.vcd_engine.specs.declared.task_state.TaskState.{TaskState}
use Rattle.vcd_engine.specs.declared.task_state.TaskState.TheVariants as task_state
use Rattle.vcd_view.specs.declared.view.HeadView.{HeadView}
use Rattle.vcd_view.specs.declared.view.Need.{Need}
use Rattle.vcd_engine.specs.declared.task.Room.{Room}
use Rattle.vcd_engine.specs.declared.task.Task.{Task}
use Rattle.vcd_engine.specs.Cut.{lent_to}
use Rattle.vcd_engine.specs.Edges.{room_in_edges}
use Rattle.vcd_engine.specs.Engine.{StopsUnread, request_in}
use Rattle.vcd_body.specs.declared.answer.Stop.{Stop}
use Rattle.vcd_run.specs.Run.{CountsStop}
use Rattle.vcd_engine.specs.Sample.{lent_to as lent_to_sample}
use Rattle.vcd_body.specs.Current.{table_bytes}
use Rattle.vcd_engine.specs.declared.task.Task.TheVariants.{Check, Pick, Cut, Sample, Edges}

-- how many bytes of values a task works with
abbrev pub values_for : Task → HeadView → ℕ
values_for Check v = 0
values_for (Pick names) v = length v.codes.now
values_for (Cut from to) v = table_bytes v
values_for (Sample times names) v = table_bytes v
values_for (Edges names) v = table_bytes v

-- how many marks
abbrev pub marks_for : Task → HeadView → ℕ
marks_for Check v = 0
marks_for (Pick names) v = length v.rows.now
marks_for (Cut from to) v = length v.rows.now
marks_for (Sample times names) v = length v.rows.now
marks_for (Edges names) v = length v.rows.now

-- how many slots for codes, and how many shares
abbrev pub slots_for : Task → HeadView → ℕ
slots_for Check v = 0
slots_for (Pick names) v = 0
slots_for (Cut from to) v = length v.codes.now
slots_for (Sample times names) v = length v.codes.now
slots_for (Edges names) v = length v.codes.now

-- the room is large enough for the task over the header that is shown
pub record HasRoomFor (t : Task) (v : HeadView) (r : Room) : Type 0 where
  pub values : values_for t v ≤ length r.values.now
  pub marks : marks_for t v ≤ length r.marks.now
  pub slots : slots_for t v ≤ length r.slots.now
  pub shares : slots_for t v ≤ length r.shares.now

-- this holds of any room that has what is needed
abbrev pub AnyRoom : Need → (Room → Type 0) → Type 0
AnyRoom need Holds = (r : Room) → need.values ≤ length r.values.now → need.slots ≤ length r.slots.now → need.slots ≤ length r.shares.now → need.marks ≤ length r.marks.now → Holds r

-- ---- what is lent

-- the lengths of room; a slot and its share count as one
abbrev pub room_size : Room → RoomSize
room_size r = record { values = length r.values.now; slots = max (length r.slots.now) (length r.shares.now); marks = length r.marks.now }

-- the lengths of the room that a task's state has
abbrev pub room_of : TaskState → RoomSize
room_of (task_state.Check c) = no_room
room_of (task_state.Pick p) = record { values = flags_in p; slots = 0; marks = 0 }
room_of (task_state.Cut m) = lent_to m
room_of (task_state.Sample s) = lent_to_sample s
room_of (task_state.Edges e) = room_in_edges e

-- the request of a task's state and the room that it holds stay
abbrev pub SameTask : TaskState → TaskState → Type 0
SameTask m m' = (request_in m' ≡ request_in m) × (room_of m' ≡ room_of m)

-- what an engine has besides its registers: a view, and room
abbrev pub view_in : Engine → HeadView
view_in e = e.view.now

abbrev pub room_in : Engine → RoomSize
room_in e = room_of e.task_state

-- the engine still has the same view and room
abbrev pub SameHold : Engine → Engine → Type 0
SameHold e e' = (view_in e' ≡ view_in e) × (room_in e' ≡ room_in e)

-- no more room than this
pub record IsWithin (r most : RoomSize) : Type 0 where
  pub values : r.values ≤ most.values
  pub slots : r.slots ≤ most.slots
  pub marks : r.marks ≤ most.marks

-- what begins runs this request, and is lent no more room than this; or it stops unread, and a
-- write that failed is counted
pub record BeginsAs {A : Type 0} (asked : A → Request) (lent : A → RoomSize) (task : Request) (most : RoomSize) (out out' : Device) (result : Result A Stop) : Type 0 where
  pub answer : MatchResult result (λ a. asked a ≡ task) StopsUnread
  pub room : IfOk result (λ a. IsWithin (lent a) most)
  pub failures : CountsStop out out' result

-- windows of these lengths, the view and room of this size count at most the bound of the header
-- that is shown, with 512 bytes to spare
abbrev pub AreWithinBound : (limit chunk : ℕ) → HeadView → RoomSize → Type 0
AreWithinBound limit chunk v r = (h : Header) → IsViewOf v h → FitsInput limit h (record { chunk = chunk; token = limit; value = limit }) (view_size (parts v)) r

-- the windows of this feed count like this
abbrev pub FitsBound : {X : Type 0} {g : Ghosts X} → Feed X g → HeadView → RoomSize → Type 0
FitsBound f v r = AreWithinBound (limit_of f) (chunk_len_of f) v r

-- the same for every token limit, if no chunk is lent: of a task that begins, or that reads no body
abbrev pub IsWithinEachBound : HeadView → RoomSize → Type 0
IsWithinEachBound v r = (limit : ℕ) → AreWithinBound limit 0 v r

-- what is lent of no more room than is needed is within the bound, with windows of any length
abbrev pub KeepsBound : HeadView → Need → Type 0
KeepsBound view need = (limit chunk : ℕ) (lent : RoomSize) → chunk ≤ 65536 → IsWithin lent (room need) → AreWithinBound limit chunk view lent
