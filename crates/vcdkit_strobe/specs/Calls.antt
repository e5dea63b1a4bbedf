-- What the calls of the job promise.
use Rattle.std.specs.Prelude.{◌≡◌, ℕ, length, vec_len, None}
use Rattle.vcd_model.specs.Header.{Header}
use Rattle.vcd_model.specs.Selection.{first_unmatched}
use Rattle.vcd_model.specs.Strobe.{clocks_of, no_clock, time_code}
use Rattle.vcd_view.specs.Views.{IsViewOf}
use Rattle.vcd_view.specs.declared.view.HeadView.{HeadView}
use Rattle.vcd_view.specs.declared.view.Need.{Need}
use Rattle.vcd_head.specs.Marks.{marks_of}
use Rattle.vcd_body.specs.Contents.{codes_shown}
use Rattle.vcd_body.specs.Current.{table_bytes}
use Rattle.vcd_strobe.specs.Clocks.{AreClocks}
use Rattle.vcd_strobe.specs.Lines.{ArePlaces}
use Rattle.vcd_strobe.specs.Strobes.{AreFresh}
use Rattle.vcd_strobe.specs.declared.start.Room.{Room}
use Rattle.vcd_strobe_words.specs.Asked.{strobe_in}
use Rattle.vcd_strobe_words.specs.declared.strobing.Strobing.{Strobing}
use Rattle.vcd_job.specs.Ends.{Speech}
use Rattle.vcdkit_strobe.specs.Work.{refusal_of}
use Rattle.vcdkit_strobe.specs.declared.job.Refusal.{Refusal}
use Rattle.vcdkit_strobe.specs.declared.room.HeadMemory.{HeadMemory}
use Rattle.vcdkit_strobe.specs.declared.room.RoomMemory.{RoomMemory}

-- how the job speaks
abbrev pub speech_in : Strobing → Speech Refusal
speech_in job = record { asked = (strobe_in job).names; refusal = refusal_of job; faulty = 2 }

-- ---- memory

-- memory of these lengths, for this many clocks; and the code of the time
pub record IsHeadMemory (v : HeadView) (clocks : ℕ) (m : HeadMemory) : Type 0 where
  pub marks : vec_len m.marks ≡ length v.rows.now
  pub flags : vec_len m.flags ≡ length v.codes.now
  pub clocks_len : vec_len m.clocks ≡ clocks
  pub id : (h : Header) → IsViewOf v h → m.id.items ≡ (time_code h).text

pub record IsRoomMemory (need : Need) (codes : ℕ) (m : RoomMemory) : Type 0 where
  pub values : vec_len m.values ≡ need.values
  pub slots : vec_len m.slots ≡ need.slots
  pub shares : vec_len m.shares ≡ need.slots
  pub roles : vec_len m.roles ≡ codes
  pub listed : vec_len m.listed ≡ codes

-- ---- what is lent

-- each name selects what it has to, and these are the clocks and the marks of the job
pub record IsSelected (job : Strobing) (h : Header) (m : HeadMemory) : Type 0 where
  pub clocked : no_clock h (strobe_in job).clocks ≡ None
  pub matched : first_unmatched (strobe_in job).names h.declarations ≡ None
  pub clocks : AreClocks h.codes m.clocks.items (clocks_of h (strobe_in job).clocks)
  pub marks : m.marks.items ≡ marks_of (strobe_in job).names h.declarations

-- the same of any header that is shown
abbrev pub AreOfJob : Strobing → HeadView → HeadMemory → Type 0
AreOfJob job view m = (h : Header) → IsViewOf view h → IsSelected job h m

-- these are the places of the header that is shown, and the roles before the first item
abbrev pub ArePlacesOf : Strobing → (view places : HeadView) → Room → Type 0
ArePlacesOf job view places r = (h : Header) → IsViewOf view h → ArePlaces (codes_shown places) h.codes × AreFresh h (strobe_in job).names r.roles.now

-- room that is enough for these places, and no more than it has to be
pub record IsRoomFor (v places : HeadView) (r : Room) : Type 0 where
  pub values : length r.values.now ≡ table_bytes places
  pub slots : length r.slots.now ≡ length places.codes.now
  pub shares : length r.shares.now ≡ length places.codes.now
  pub roles : length r.roles.now ≡ length v.codes.now
  pub listed : length r.listed.now ≡ length v.codes.now
