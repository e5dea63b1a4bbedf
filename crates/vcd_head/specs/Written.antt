-- What is written over a view of a header.
use Rattle.std.specs.Prelude.{◌≡◌, ℕ, List, Result, Some, slice_get}
use Rattle.vcd_model.specs.Declarations.{Declaration}
use Rattle.vcd_model.specs.Header.{Header}
use Rattle.vcd_text.specs.Device.{Device, Takes}
use Rattle.vcd_view.specs.Views.{IsViewOf}
use Rattle.vcd_view.specs.declared.view.HeadView.{HeadView}

-- the sink took this text of the header that the view shows, or a prefix if a write failed
abbrev pub TakesHeader : {A E : Type 0} → HeadView → Device → Device → (Header → List ℕ) → Result A E → Type 0
TakesHeader view old new text result = (h : Header) → IsViewOf view h → Takes old new (text h) result

-- the same for the declaration of a row
abbrev pub TakesRow : {A E : Type 0} → HeadView → ℕ → Device → Device → (Header → Declaration → List ℕ) → Result A E → Type 0
TakesRow view row old new text result = (h : Header) (d : Declaration) → IsViewOf view h → slice_get h.declarations row ≡ Some d → Takes old new (text h d) result
