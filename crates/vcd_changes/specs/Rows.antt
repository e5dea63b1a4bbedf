-- The changes of a code, as rows of numbers.
use Rattle.std.specs.Prelude.{◌≡◌, ℕ, ◌==◌, cond, List, [], ◌∷◌, ◌++◌, bytes_eq, filter_map, length, take, Option, Some, None, Result, Ok, Err}
use Rattle.vcd_model.specs.Declarations.{IdCode}
use Rattle.vcd_model.specs.Input.{Input}
use Rattle.vcd_model.specs.Items.{BodyItem, ChangeForm, Entry, entries}
use Rattle.vcd_model.specs.Items.ChangeForm.{Scalar, Vector, RealText}
use Rattle.vcd_model.specs.Tokens.{Token}
use Rattle.vcd_text.specs.declared.device.Source.{Ghosts}
use Rattle.vcd_text.specs.declared.feed.Feed.{Feed}
use Rattle.vcd_body.specs.Items.{model_form}
use Rattle.vcd_body.specs.Reads.{Fails, GaveAll, GaveItems}
use Rattle.vcd_body.specs.declared.fault.BodyFault.{BodyFault}
use Rattle.vcd_body.specs.declared.item.Item.{Item}
use Rattle.vcd_body.specs.declared.item.Item.TheVariants as item
use Rattle.vcd_body.specs.declared.item.Regs.{Regs}
use Rattle.vcd_changes.specs.Digits.{digits_of}
use Rattle.vcd_changes.specs.declared.digits.Digits.{Digits}
use Rattle.vcd_changes.specs.declared.row.ChangeRow.{ChangeRow}
use Rattle.vcd_changes.specs.declared.rows.Filled.{Filled}
use Rattle.vcd_changes.specs.declared.rows.Filled.TheVariants.{All, Full}

-- the row of these digits
abbrev pub row_with : ℕ → Digits → ChangeRow
row_with time digits = record { time = time; value = digits.value; known = digits.known }

-- the row of a change at a time: nothing is known of the digits of a real number
abbrev pub row_of : ℕ → ChangeForm → List ℕ → ChangeRow
row_of time Scalar text = row_with time (digits_of text)
row_of time Vector text = row_with time (digits_of text)
row_of time RealText text = record { time = time; value = 0; known = 0 }

-- the row of an item that is a change of this code
abbrev pub row_in : List ℕ → Entry → Option ChangeRow
row_in code entry = elim entry.item [
  | BodyItem.Time t ↦ None
  | BodyItem.Begin s ↦ None
  | BodyItem.End ↦ None
  | BodyItem.Changes c ↦ cond (bytes_eq c.code.text code) (Some (row_of entry.time c.form c.text)) None
]

-- the rows of a code: one for each of its changes, in order
abbrev pub rows_of : List ℕ → List BodyItem → List ChangeRow
rows_of code items = filter_map (row_in code) (entries items)

-- the row that an item adds, if it is a change of the code at this index
abbrev pub row_added : (index time : ℕ) → List ℕ → Item → List ChangeRow
row_added index time text (item.Change code form) = cond (code == index) (row_of time (model_form form) text ∷ []) []
row_added index time text other = []

module _ {X : Type 0} {g : Ghosts X} (codes : List IdCode) (i : Input) (front : List Token) where
  -- after these items others were given, whose changes of this code have the rows that were added
  pub record GaveRows (items : List BodyItem) (code : List ℕ) (f : Feed X g) (r : Regs) (old new : List ChangeRow) : Type 0 where
    pub more : List BodyItem
    pub added : List ChangeRow
    pub gave : GaveItems codes i front (items ++ more) f r
    pub rows_are : rows_of code (items ++ more) ≡ rows_of code items ++ added
    pub new_are : new ≡ old ++ added

  -- how a reading ends that has these items: they are all of the body's; or the rows are full; or
  -- the body has this fault
  abbrev pub EndsSo : List BodyItem → Feed X g → Regs → (count : ℕ) → List ChangeRow → Result Filled BodyFault → Type 0
  EndsSo items f r count rows (Ok All) = GaveAll codes i front items f r
  EndsSo items f r count rows (Ok Full) = GaveItems codes i front items f r × (count ≡ length rows)
  EndsSo items f r count rows (Err fault) = Fails codes i front items fault f

  -- after these items others were read, whose changes of this code are in the first rows
  pub record Collects (items : List BodyItem) (code : List ℕ) (f : Feed X g) (r : Regs) (count : ℕ) (rows : List ChangeRow) (result : Result Filled BodyFault) : Type 0 where
    pub more : List BodyItem
    pub rows_are : rows_of code (items ++ more) ≡ rows_of code items ++ take count rows
    pub ends : EndsSo (items ++ more) f r count rows result
