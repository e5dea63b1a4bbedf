-- What the calls of the job promise.
use Rattle.std.specs.Prelude.{◌≡◌, ◌==◌, ◌||◌, ◌&&◌, ℕ, Bool, true, false, cond, nat_lt, [], length, replicate, vec_len, None, Result, Ok, Err}
use Rattle.vcd_model.specs.Compare.{count_line}
use Rattle.vcd_model.specs.Header.{Header}
use Rattle.vcd_model.specs.Within.{outermost, unselected}
use Rattle.vcd_text.specs.Device.{Device, Writes, WritesSome}
use Rattle.vcd_view.specs.Views.{IsViewOf}
use Rattle.vcd_view.specs.declared.view.HeadView.{HeadView}
use Rattle.vcd_view.specs.declared.view.Need.{Need}
use Rattle.vcd_body.specs.Current.{table_bytes}
use Rattle.vcd_body.specs.declared.answer.Done.{Done}
use Rattle.vcd_body.specs.declared.answer.Done.TheVariants.{Early, Whole}
use Rattle.vcd_body.specs.declared.answer.Stop.TheVariants.{Write}
use Rattle.vcd_compare.specs.Pairs.{AreFew, ArePairs}
use Rattle.vcd_compare.specs.declared.asked.Asked.{Asked}
use Rattle.vcd_compare.specs.declared.pairs.Pairs.{Pairs}
use Rattle.vcd_compare.specs.declared.unselected.PairsFault.{PairsFault}
use Rattle.vcd_compare.specs.declared.whole.Answer.{Answer as Compared}
use Rattle.vcd_compare.specs.declared.whole.Room.{Room}
use Rattle.vcd_compare_words.specs.declared.job.Comparing.{Comparing}
use Rattle.vcd_job.specs.Ends.{Speech}
use Rattle.vcd_job.specs.declared.answer.Answer.{Answer}
use Rattle.vcd_job.specs.declared.answer.Answer.TheVariants.{Status, Refused}
use Rattle.vcd_job.specs.declared.failure.Failure.{Failure}
use Rattle.vcd_job.specs.declared.failure.Failure.TheVariants.{Stopped, OutOfMemory}
use Rattle.vcdkit_compare.specs.Work.{names_of, query_of, refusal_of}
use Rattle.vcdkit_compare.specs.declared.job.Refusal.{Refusal}
use Rattle.vcdkit_compare.specs.declared.job.Refusal.TheVariants.{Late, Unselected}
use Rattle.vcdkit_compare.specs.declared.room.RoomMemory.{RoomMemory}

-- how the job speaks
abbrev pub speech_in : Comparing → Speech Refusal
speech_in job = record { asked = []; refusal = λ why name. refusal_of job why; faulty = 2 }

-- what is answered if there are no pairs, for this reason
abbrev pub fault_end : PairsFault → Result (Answer Refusal) Failure
fault_end PairsFault.OutOfMemory = Err OutOfMemory
fault_end fault = Ok (Refused (Unselected fault))

-- each name selects something, and these are the pairs of the job
pub record HasPairsOf (job : Comparing) (h : Header) (ps : Pairs) : Type 0 where
  pub selected : unselected (query_of job) h (names_of job) ≡ None
  pub are : ArePairs ps h (query_of job) (outermost (names_of job))
  pub few : AreFew ps h (query_of job) (outermost (names_of job))

-- the same of any header that is shown
abbrev pub AreOfJob : Comparing → HeadView → Pairs → Type 0
AreOfJob job view ps = (h : Header) → IsViewOf view h → HasPairsOf job h ps

-- memory of these lengths
pub record IsMemoryFor (need : Need) (ps : Pairs) (m : RoomMemory) : Type 0 where
  pub values : vec_len m.values ≡ need.values
  pub slots : vec_len m.slots ≡ need.slots
  pub shares : vec_len m.shares ≡ need.slots
  pub triggers : m.triggers.items ≡ replicate need.slots None
  pub flags : m.flags.items ≡ replicate ps.classes 0
  pub classes : vec_len m.classes ≡ ps.classes
  pub last : m.last.items ≡ replicate ps.classes 0
  pub earlier : vec_len m.earlier ≡ length ps.rows.items
  pub due : vec_len m.due ≡ length ps.rows.items
  pub skips : m.skips.items ≡ replicate (length ps.ends.items) 0

-- room that is enough for these pairs, and no more than it has to be
pub record IsRoomFor (v : HeadView) (ps : Pairs) (r : Room) : Type 0 where
  pub values : length r.values.now ≡ table_bytes v
  pub slots : length r.slots.now ≡ length v.codes.now
  pub shares : length r.shares.now ≡ length v.codes.now
  pub triggers : r.triggers.now ≡ replicate (length v.codes.now) None
  pub flags : r.flags.now ≡ replicate ps.classes 0
  pub classes : length r.classes.now ≡ ps.classes
  pub last : r.last.now ≡ replicate ps.classes 0
  pub earlier : length r.earlier.now ≡ length ps.rows.items
  pub due : length r.due.now ≡ length ps.rows.items
  pub skips : r.skips.now ≡ replicate (length ps.ends.items) 0

-- the dump was read to its end, which is before the first time at which values are compared
abbrev pub is_whole : Done → Bool
is_whole Whole = true
is_whole Early = false

abbrev pub is_late : Asked → Compared → Bool
is_late asked answer = is_whole answer.done && nat_lt answer.last asked.from

-- an answer over this many pairs was turned into a status, and the count was written; or the dump
-- ended too early, and nothing was written
abbrev pub Finishes : Asked → Compared → ℕ → (out out' : Device) → Result (Answer Refusal) Failure → Type 0
Finishes asked answer count out out' (Ok (Status n)) = (is_late asked answer ≡ false) × (n ≡ cond (answer.differs || count == 0) 1 0) × Writes out out' (count_line count)
Finishes asked answer count out out' (Ok (Refused (Late last))) = (is_late asked answer ≡ true) × (last ≡ answer.last) × (out' ≡ out)
Finishes asked answer count out out' (Err (Stopped Write)) = (is_late asked answer ≡ false) × WritesSome out out' (count_line count)
Finishes asked answer count out out' end = ⊥
