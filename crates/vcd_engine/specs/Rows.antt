-- Rows of variables.
use Rattle.std.specs.Prelude.{◌≡◌, ℕ, take, slice_get, Some}
use Rattle.vcd_model.specs.Declarations.{Declaration, Variable, path_of}
use Rattle.vcd_model.specs.Header.{Header}
use Rattle.vcd_model.specs.Selection.{Selected}
use Rattle.vcd_view.specs.Views.{IsViewOf}
use Rattle.vcd_view.specs.declared.view.HeadView.{HeadView}

-- this holds of any header and the variable that it declares at a row, with its path
abbrev pub AtRow : HeadView → ℕ → (Header → Selected → Type 0) → Type 0
AtRow v row holds = (h : Header) (d : Variable) → IsViewOf v h → slice_get h.declarations row ≡ Some (Declaration.Var d)
    → holds h (record { path = path_of (take row h.declarations) (Declaration.Var d); variable = d })
