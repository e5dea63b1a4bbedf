-- What a walk over the items ahead leaves of the rows of a code.
use Rattle.std.specs.Prelude.{◌≡◌, ℕ, ◌≤◌, Bool, true, false, cond, nat_le, List, ◌++◌, length, take, slice_get, Some, None, Result, Ok}
use Rattle.vcd_model.specs.Declarations.{IdCode}
use Rattle.vcd_model.specs.Header.{Header}
use Rattle.vcd_model.specs.Items.{BodyItem}
use Rattle.vcd_model.specs.Tokens.{Token}
use Rattle.vcd_text.specs.Ahead.{bytes_of, longest_of, passed_of}
use Rattle.vcd_text.specs.Passed.{Passed}
use Rattle.vcd_text.specs.declared.ahead.Ahead.{Ahead}
use Rattle.vcd_text.specs.declared.device.WriteFailed.{WriteFailed}
use Rattle.vcd_view.specs.Views.{IsViewOf}
use Rattle.vcd_view.specs.declared.view.HeadView.{HeadView}
use Rattle.vcd_body.specs.Ahead.{GaveAhead, LooksOver}
use Rattle.vcd_body.specs.Items.{AreRegsAfter, regs_after}
use Rattle.vcd_body.specs.Taken.{TakesItem}
use Rattle.vcd_body.specs.Walk.{Stage, stage_at}
use Rattle.vcd_body.specs.declared.ahead.ScannedItem.{ScannedItem}
use Rattle.vcd_body.specs.declared.item.Regs.{Regs}
use Rattle.vcd_changes.specs.Rows.{row_added, rows_of}
use Rattle.vcd_changes.specs.declared.row.ChangeRow.{ChangeRow}
use Rattle.vcd_changes.specs.declared.walk.Collecting.{Collecting}
use Rattle.vcd_changes.specs.declared.walk.Rows.{Rows}

-- the rows are full
abbrev pub is_full : Collecting → Bool
is_full c = nat_le c.room c.count

-- some of the rows, or all, are filled
pub record HasRoom (c : Collecting) (rows : Rows) : Type 0 where
  pub most : c.count ≤ c.room
  pub room : c.room ≡ length rows.rows.now

-- how many bytes ahead are passed
abbrev pub passed_with : Ahead → Collecting → ℕ
passed_with a c = cond (is_full c) c.end (passed_of a)

-- where such a walk is, and the rows so far
abbrev pub RowStage : Type 0
RowStage = Stage Collecting Rows

abbrev pub filled : RowStage → List ChangeRow
filled s = take s.visit.count s.command.rows.now

-- the rows are the same loan, for the same code
pub record SameRows (s t : RowStage) : Type 0 where
  pub index : t.visit.index ≡ s.visit.index
  pub loan : t.command.rows.ghost_name ≡ s.command.rows.ghost_name

-- One item more was taken ahead. Once the rows are full, it is a change, and nothing is done with
-- it. Otherwise it adds its row, and no byte after it is passed if the rows are full then.
pub record TakesRow (v : HeadView) (s t : RowStage) (result : Result (Unit {0}) WriteFailed) : Type 0 where
  pub scanned : ScannedItem
  pub item : TakesItem v s.ahead t.ahead s.regs scanned
  pub done : result ≡ Ok tt
  pub same : SameRows s t
  pub room : HasRoom t.visit t.command
  pub regs : t.regs ≡ regs_after s.regs scanned.item
  pub full : is_full s.visit ≡ true → (t.visit ≡ s.visit) × (filled t ≡ filled s) × (t.regs ≡ s.regs)
  pub added : is_full s.visit ≡ false → filled t ≡ filled s ++ row_added s.visit.index t.regs.time scanned.text.now scanned.item
  pub end : is_full s.visit ≡ false → passed_with t.ahead t.visit ≡ passed_of t.ahead

-- where it is, whatever the output is, to which nothing is written
abbrev pub rows_at : Ahead → Regs → Collecting → Rows → RowStage
rows_at a r c rows = stage_at a r c rows (record { held = None; failures = 0; last_failed = false })

abbrev pub passed_at : RowStage → ℕ
passed_at s = passed_with s.ahead s.visit

-- others were taken after these items, and their rows were added
pub record Added (s : RowStage) (h : Header) (lines : ℕ) (items : List BodyItem) (code : IdCode) (z : RowStage) : Type 0 where
  pub more : List BodyItem
  pub added : List ChangeRow
  pub gave : GaveAhead h.codes (longest_of s.ahead) lines (bytes_of s.ahead) (passed_at z) items more
  pub known : AreRegsAfter (items ++ more) z.regs
  pub rows_are : rows_of code.text (items ++ more) ≡ rows_of code.text items ++ added
  pub filled_are : filled z ≡ filled s ++ added

-- how far a walk has come
pub record Came (v : HeadView) (s z : RowStage) : Type 0 where
  pub over : LooksOver (longest_of s.ahead) (bytes_of s.ahead) z.ahead
  pub same : SameRows s z
  pub room : HasRoom z.visit z.command
  pub passed : (lines : ℕ) → (ts : List Token) × Passed (longest_of s.ahead) lines (bytes_of s.ahead) (passed_at z) ts
  pub adds : (h : Header) (lines : ℕ) (items : List BodyItem) (code : IdCode) → IsViewOf v h → AreRegsAfter items s.regs
      → slice_get h.codes s.visit.index ≡ Some code → Added s h lines items code z
