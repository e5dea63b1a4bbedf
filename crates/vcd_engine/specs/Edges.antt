-- What `edges` keeps.
use Rattle.std.specs.Prelude.{◌≡◌, ℕ, List, [], ◌∷◌, length, map, string_bytes, slice_get, Some}
use Rattle.vcd_model.specs.Bound.{RoomSize}
use Rattle.vcd_model.specs.Declarations.{IdCode}
use Rattle.vcd_model.specs.Edges.{Counts, counts_for}
use Rattle.vcd_model.specs.Header.{Header}
use Rattle.vcd_model.specs.Items.{BodyItem}
use Rattle.vcd_head.specs.Marks.{marks_of}
use Rattle.vcd_body.specs.Contents.{bytes_in, codes_in, counts_at}
use Rattle.vcd_body.specs.declared.values.table.Table.{Table}
use Rattle.vcd_body.specs.Current.{AreHeld}
use Rattle.vcd_engine.specs.declared.task_state.edges.Edges.{Edges}
use Rattle.vcd_body.specs.Items.{model_form}
use Rattle.vcd_body.specs.declared.item.Form.{Form}

-- ---- counters

-- three counters, as they are kept
abbrev pub numbers : Counts → List ℕ
numbers n = n.changes ∷ n.rises ∷ n.falls ∷ []

-- after these items the table holds the values of the codes, and the counters of each are its
-- counts
pub record AreTallied (t : Table) (h : Header) (items : List BodyItem) : Type 0 where
  pub held : AreHeld t h items
  pub counted : (index : ℕ) (c : IdCode) → slice_get h.codes index ≡ Some c → counts_at t index ≡ numbers (counts_for items c)

-- a change of a code to this text
abbrev pub change_to : IdCode → Form → List ℕ → BodyItem
change_to c form text = BodyItem.Changes (record { code = c; form = model_form form; text = text })

-- ---- what a task's state keeps

-- the names that were asked for
abbrev pub names_counted : Edges → List (List ℕ)
names_counted e = map string_bytes e.names.now

-- what `edges` is lent
abbrev pub room_in_edges : Edges → RoomSize
room_in_edges e = record { values = bytes_in e.table; slots = codes_in e.table; marks = length e.marks.now }

-- the names and the room stay
abbrev pub SameEdges : Edges → Edges → Type 0
SameEdges e e' = (names_counted e' ≡ names_counted e) × (room_in_edges e' ≡ room_in_edges e)

-- over this header and after these items the selected variables are marked, and the table says what
-- is to be written of them
pub record AreEdges (e : Edges) (h : Header) (items : List BodyItem) : Type 0 where
  pub marks_are : e.marks.now ≡ marks_of (names_counted e) h.declarations
  pub tallied : AreTallied e.table h items
