-- What a table of current values holds after items.
use Rattle.std.specs.Prelude.{◌≡◌, ℕ, ◌-◌, ◌^◌, ◌≤◌, false, min, sum_by, List, [], ◌∷◌, ◌++◌, slice_get, Option, Some}
use Rattle.vcd_model.specs.Declarations.{IdCode}
use Rattle.vcd_model.specs.Header.{Header}
use Rattle.vcd_model.specs.History.{final_value}
use Rattle.vcd_model.specs.Items.{BodyItem}
use Rattle.vcd_model.specs.Values.{Value, value_with}
use Rattle.vcd_view.specs.Needs.{value_bytes}
use Rattle.vcd_view.specs.Views.{IsViewOf}
use Rattle.vcd_view.specs.declared.view.Code.{Code}
use Rattle.vcd_view.specs.declared.view.HeadView.{HeadView}
use Rattle.vcd_body.specs.Contents.{IsLaidOut, held_at, kept_at}
use Rattle.vcd_body.specs.Given.{HasGoodText, IsItem, IsText}
use Rattle.vcd_body.specs.Items.{model_form}
use Rattle.vcd_body.specs.Kept.{Kept, value_at_size}
use Rattle.vcd_body.specs.Stored.{share_of}
use Rattle.vcd_body.specs.declared.item.Form.{Form}
use Rattle.vcd_body.specs.declared.item.Item.{Item}
use Rattle.vcd_body.specs.declared.values.table.Table.{Table}

-- how many bytes the values of the codes of a header take at most
abbrev pub table_bytes : HeadView → ℕ
table_bytes v = min (sum_by value_bytes v.codes.now) (2 ^ 64 - 1)

-- where a code may have this text it may have the other one, which gives it the same value
abbrev pub GivesSame : Form → List ℕ → List ℕ → Type 0
GivesSame form text other = (code : Code) → IsText form code text → IsText form code other
    × (code.event ≡ false → value_with code.size (model_form form) other ≡ value_with code.size (model_form form) text)

-- of each code that is no event the table holds this value
pub record HasValues (t : Table) (h : Header) (value : IdCode → Option Value) : Type 0 where
  pub laid : IsLaidOut t
  pub each : (index : ℕ) (c : IdCode) → slice_get h.codes index ≡ Some c → c.event ≡ false → value_at_size c.size (held_at t index) ≡ value c

-- each code has room for all values that it may have
abbrev pub HasShares : Table → Header → Type 0
HasShares t h = (index : ℕ) (c : IdCode) → slice_get h.codes index ≡ Some c → (k : Kept) × (kept_at t index ≡ Some k) × (share_of c.size ≤ k.room)

-- the table holds the value of each code that is no event after these items, and has room for its
-- next ones
pub record AreHeld (t : Table) (h : Header) (items : List BodyItem) : Type 0 where
  pub values : HasValues t h (final_value items)
  pub shares : HasShares t h

-- after this item, whose change has this text, the one table holds what the items before it and it
-- give if the other one held what those before it gave
abbrev pub HoldsOneMore : (old new : Table) → Item → List ℕ → Type 0
HoldsOneMore old new item text = (view : HeadView) (h : Header) (items : List BodyItem) (x : BodyItem)
    → IsViewOf view h → HasGoodText view.codes.now text item → IsItem h.codes text item x
    → AreHeld old h items → AreHeld new h (items ++ x ∷ [])
