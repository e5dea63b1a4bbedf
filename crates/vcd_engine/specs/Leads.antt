-- Marks that lead from one row with a line in a sample to the next.
use Rattle.std.specs.Prelude.{◌≡◌, ℕ, ◌+◌, ◌-◌, ◌^◌, ◌<◌, ◌≤◌, ◌==◌, min, true, List, length, take, get_or, Some, slice_get, MatchBool}
use Rattle.vcd_model.specs.Declarations.{Declaration, Variable}
use Rattle.vcd_model.specs.Items.{BodyItem}
use Rattle.vcd_model.specs.Sample.{sample_lines}
use Rattle.vcd_model.specs.Selection.{selected}
use Rattle.vcd_model.specs.Header.{Header}
use Rattle.vcd_view.specs.Views.{IsViewOf}
use Rattle.vcd_view.specs.declared.view.HeadView.{HeadView}
use Rattle.vcd_head.specs.Marks.{is_marked, marks_of}
use Rattle.vcd_body.specs.declared.values.table.Table.{Table}
use Rattle.vcd_body.specs.Current.{AreHeld}

-- this many declarations from an index on have no line, whatever the items and the time
abbrev pub HaveNoLine : List (List ℕ) → List Declaration → ℕ → ℕ → Type 0
HaveNoLine names ds from count =
    (k : ℕ) → k ≤ count → (items : List BodyItem) (time : ℕ) → sample_lines (selected names (take (from + k) ds)) items time ≡ sample_lines (selected names (take from ds)) items time

-- a variable that is selected is declared at an index
pub record IsSelectedAt (names : List (List ℕ)) (ds : List Declaration) (i : ℕ) : Type 0 where
  pub variable : Variable
  pub declared : slice_get ds i ≡ Some (Declaration.Var variable)
  pub marked : is_marked (marks_of names ds) i ≡ true

-- how many rows a mark passes
abbrev pub rows_on : ℕ → ℕ
rows_on mark = 2 ^ min (mark - 2) 63

-- a mark of 1 is of a selected variable, and any other passes rows that have no line
abbrev pub Leads : List (List ℕ) → List Declaration → ℕ → ℕ → Type 0
Leads names ds i mark = MatchBool (mark == 1) (IsSelectedAt names ds i) (HaveNoLine names ds i (rows_on mark))

-- the same for each mark, one for each declaration
pub record LeadOn (names : List (List ℕ)) (ds : List Declaration) (marks : List ℕ) : Type 0 where
  pub each : (i : ℕ) → i < length marks → Leads names ds i (get_or marks i 0)
  pub len : length marks ≡ length ds

-- this holds of any header that the view shows, with marks that lead on for names, and of any items
-- after which the table holds the values
abbrev pub AnySampled : HeadView → Table → List ℕ → (Header → List BodyItem → List (List ℕ) → Type 0) → Type 0
AnySampled view table marks Holds = (h : Header) (items : List BodyItem) (names : List (List ℕ)) → IsViewOf view h
    → LeadOn names h.declarations marks → AreHeld table h items → Holds h items names
