-- What is said of the header that a view shows, of codes, and of room for an engine.
use Rattle.std.specs.Prelude.{◌≡◌, ◌<◌, ℕ, List, length, Some, slice_get}
use Rattle.std.specs.List.{AllZip}
use Rattle.vcd_model.specs.Bound.{FitsInput, AreWindows, WindowSize}
use Rattle.vcd_model.specs.Declarations.{Declaration, IdCode, Variable}
use Rattle.vcd_model.specs.Header.{Header}
use Rattle.vcd_view.specs.Needs.{room, view_size}
use Rattle.vcd_view.specs.Shown.{parts}
use Rattle.vcd_view.specs.Views.{AreHeld, IsCode, IsViewOf}
use Rattle.vcd_view.specs.declared.view.Code.{Code}
use Rattle.vcd_view.specs.declared.view.HeadView.{HeadView}
use Rattle.vcd_view.specs.declared.view.Need.{Need}

-- this holds of any header that the view shows
abbrev pub AnyHeader : HeadView → (Header → Type 0) → Type 0
AnyHeader view Holds = (h : Header) → IsViewOf view h → Holds h

-- this holds of any header that the view shows and that has a declaration at this row
abbrev pub AnyRow : HeadView → ℕ → (Header → Type 0) → Type 0
AnyRow view row Holds = (h : Header) → IsViewOf view h → row < length h.declarations → Holds h

-- this holds of any header that the view shows, and of its declaration at this row
abbrev pub AnyDeclared : HeadView → ℕ → (Header → Declaration → Type 0) → Type 0
AnyDeclared view row Holds = (h : Header) (d : Declaration) → IsViewOf view h → slice_get h.declarations row ≡ Some d → Holds h d

-- this holds of any header that the view shows, and of its variable at this row
abbrev pub AnyVariable : HeadView → ℕ → (Header → Variable → Type 0) → Type 0
AnyVariable view row Holds = (h : Header) (v : Variable) → IsViewOf view h → slice_get h.declarations row ≡ Some (Declaration.Var v) → Holds h v

-- this holds of any codes whose bytes are in the text where the list says
abbrev pub AnyCodes : List ℕ → List Code → (List IdCode → Type 0) → Type 0
AnyCodes text codes Holds = (ks : List IdCode) → AllZip (IsCode text) codes ks → Holds ks

-- this holds of any such codes, if no two of them have the same bytes
abbrev pub AnyHeld : List ℕ → List Code → (List IdCode → Type 0) → Type 0
AnyHeld text codes Holds = (cs : List IdCode) → AreHeld text codes cs → Holds cs

-- with the room that is needed, each input of the header fits the bound
abbrev pub FitsEachInput : HeadView → Need → Type 0
FitsEachInput view need = (limit : ℕ) (h : Header) (w : WindowSize) → IsViewOf view h → AreWindows limit w → FitsInput limit h w (view_size (parts view)) (room need)
