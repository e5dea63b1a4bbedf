use Rattle.std.specs.Prelude.{◌≡◌, Some, slice_get}
use Rattle.vcd_model.specs.Declarations.{Declaration}
use Rattle.vcd_model.specs.Header.{Header}
use Rattle.vcd_view.specs.Views.{IsViewOf}
use Rattle.vcd_strobe.proofs.PathSteps.{HasPart}
use Rattle.vcd_strobe.proofs.paths.has_path.Given as goal

abbrev pub invariant-loop-scope : goal.invariant-loop-scope
invariant-loop-scope l = (h : Header) (d : Declaration) → IsViewOf l.view h → slice_get h.declarations l.row ≡ Some d → HasPart h l.row d l.path l.part l.rest

abbrev pub decreases-loop-scope : goal.decreases-loop-scope
decreases-loop-scope l = l.part
