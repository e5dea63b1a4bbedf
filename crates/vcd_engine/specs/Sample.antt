-- What `sample` keeps.
use Rattle.std.specs.Prelude.{◌≡◌, ◌≢◌, ◌++◌, ◌∷◌, Bool, true, false, nat_lt, List, ℕ, [], length, map, string_bytes}
use Rattle.std.specs.List.{AllByRecursion}
use Rattle.std.specs.List.Sorted.{IsStrictlyIncreasing}
use Rattle.vcd_model.specs.Bound.{RoomSize}
use Rattle.vcd_model.specs.Header.{Header}
use Rattle.vcd_model.specs.Items.{BodyItem}
use Rattle.vcd_model.specs.Outcome.{Request}
use Rattle.vcd_model.specs.Sample.{is_settled}
use Rattle.vcd_body.specs.Contents.{bytes_in, codes_in}
use Rattle.vcd_engine.specs.Leads.{LeadOn}
use Rattle.vcd_body.specs.Current.{AreHeld}
use Rattle.vcd_engine.specs.declared.task_state.sample.Sample.{Sample}

-- the names that were asked for
abbrev pub names_in : Sample → List (List ℕ)
names_in s = map string_bytes s.names.now

-- what was asked for
abbrev pub asked_in : Sample → Request
asked_in s = Request.Sample s.times.now (names_in s)

-- what `sample` is lent
abbrev pub lent_to : Sample → RoomSize
lent_to s = record { values = bytes_in s.table; slots = codes_in s.table; marks = length s.marks.now }

-- the request and the room stay
abbrev pub SameSample : Sample → Sample → Type 0
SameSample s s' = (asked_in s' ≡ asked_in s) × (lent_to s' ≡ lent_to s)

-- over this header and after these items: the table holds the values, the marks lead from one row
-- with a line to the next, and the last of the times, at least one, are those that are not settled
pub record AreSampled (s : Sample) (h : Header) (items : List BodyItem) : Type 0 where
  pub held : AreHeld s.table h items
  pub marks_lead : LeadOn (names_in s) h.declarations s.marks.now
  pub rising : IsStrictlyIncreasing s.times.now
  pub done : List ℕ
  pub times_are : s.times.now ≡ done ++ s.rest.now
  pub settled : AllByRecursion (λ t. is_settled items t ≡ true) done
  pub others : AllByRecursion (λ t. is_settled items t ≡ false) s.rest.now
  pub left : s.rest.now ≢ []

-- a timestamp of this time is above the first of the times that are left, or none is
abbrev pub is_due : List ℕ → ℕ → Bool
is_due [] time = true
is_due (u ∷ us) time = nat_lt u time
