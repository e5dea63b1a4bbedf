-- What `cut` keeps.
use Rattle.std.specs.Prelude.{◌≡◌, ℕ, ◌≤◌, ◌<◌, ◌⊎◌, nat_le, true, false, not, List, [], ◌∷◌, filter, flat_map, Result, Ok, Err}
use Rattle.std.specs.Io.KnownBytes.{Appends}
use Rattle.vcd_model.specs.Bound.{RoomSize}
use Rattle.vcd_model.specs.Cut.{ends_cut, is_started, line_if_set, start_section}
use Rattle.vcd_model.specs.Declarations.{IdCode}
use Rattle.vcd_model.specs.Header.{Header}
use Rattle.vcd_model.specs.History.{value_before}
use Rattle.vcd_model.specs.Items.{BodyItem, Entry, entries}
use Rattle.vcd_model.specs.ItemText.{kept_by}
use Rattle.vcd_model.specs.Outcome.{Request}
use Rattle.vcd_body.specs.Contents.{bytes_in, codes_in}
use Rattle.vcd_text.specs.Device.{Device, WritesSome, Takes}
use Rattle.vcd_view.specs.declared.view.HeadView.{HeadView}
use Rattle.vcd_body.specs.declared.item.Item.{Item}
use Rattle.vcd_body.specs.declared.item.Item.TheVariants.{Time}
use Rattle.vcd_engine.specs.ItemText.{HasWritten}
use Rattle.vcd_body.specs.Current.{AreHeld, HasValues}
use Rattle.vcd_engine.specs.declared.task_state.cut.Cut.{Cut}
use Rattle.vcd_view.specs.Views.{IsViewOf}
use Rattle.vcd_body.specs.declared.values.table.Table.{Table}

-- the lines of the values of these codes before a time
abbrev pub values_text : List IdCode → List BodyItem → ℕ → List ℕ
values_text cs items time = flat_map (λ c. line_if_set c (value_before items c time)) (filter (λ c. not c.event) cs)

-- the start section of a time was put, of the values of a table
abbrev pub PutsStart : {A E : Type 0} → HeadView → Table → ℕ → Device → Device → Result A E → Type 0
PutsStart v t from out out' result = (h : Header) (items : List BodyItem) → IsViewOf v h → HasValues t h (λ c. value_before items c from) → Takes out out' (start_section h from items) result

-- the item is no timestamp
abbrev pub IsNoTimestamp : Item → Type 0
IsNoTimestamp (Time t) = ⊥
IsNoTimestamp item = Unit {0}

-- what is asked for
abbrev pub span_in : Cut → Request
span_in m = Request.Cut m.from m.to

-- with a timestamp of this time the start section was written
pub record HasBegun (h : Header) (items : List BodyItem) (time : ℕ) (m m' : Cut) (out out' : Device) : Type 0 where
  pub due : m.started ≡ false
  pub come : m.from ≤ time
  pub stands : m'.started ≡ true
  pub text : HasWritten (m.from ∷ []) [] m'.text
  pub section : Appends out.held out'.held (start_section h m.from items)

-- the start section was written before, or is not due yet
pub record HasNone (time : ℕ) (m m' : Cut) (out out' : Device) : Type 0 where
  pub why : (m.started ≡ true) ⊎ (time < m.from)
  pub same : m' ≡ m
  pub nothing : out' ≡ out

-- the start section was written, if it was due; or a prefix of it if a write failed
abbrev pub BeginsBy : {A E : Type 0} → Header → List BodyItem → ℕ → Cut → Cut → Device → Device → Result A E → Type 0
BeginsBy h items time m m' out out' (Ok a) = HasBegun h items time m m' out out' ⊎ HasNone time m m' out out'
BeginsBy h items time m m' out out' (Err e) = (m.started ≡ false) × (m.from ≤ time) × WritesSome out out' (start_section h m.from items)

-- what `cut` is lent
abbrev pub lent_to : Cut → RoomSize
lent_to m = record { values = bytes_in m.table; slots = codes_in m.table; marks = 0 }

-- the times and the room stay
abbrev pub SameSpan : Cut → Cut → Type 0
SameSpan m m' = (span_in m' ≡ span_in m) × (lent_to m' ≡ lent_to m)

-- the items from a time on
abbrev pub kept_from : ℕ → List BodyItem → List Entry
kept_from from items = kept_by (λ e. nat_le from e.time) (entries items)

-- over this header and after these items, none of which ends it: until the start section is written
-- the table holds the values, and then the text is that of the kept items
pub record AreCut (m : Cut) (h : Header) (items : List BodyItem) : Type 0 where
  pub ordered : m.from ≤ m.to
  pub on : ends_cut m.to items ≡ false
  pub started_is : m.started ≡ is_started m.from items
  pub held : m.started ≡ false → AreHeld m.table h items
  pub written : m.started ≡ true → HasWritten (m.from ∷ []) (kept_from m.from items) m.text
