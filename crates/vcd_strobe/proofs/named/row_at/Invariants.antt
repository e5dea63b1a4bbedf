use Rattle.vcd_model.specs.Header.{Header}
use Rattle.vcd_view.specs.Views.{IsViewOf}
use Rattle.vcd_strobe.proofs.NamedSteps.{HasFirst}
use Rattle.vcd_strobe.proofs.named.row_at.Given as goal

abbrev pub invariant-loop-row : goal.invariant-loop-row
invariant-loop-row l = (h : Header) → IsViewOf l.view h → HasFirst h l.path l.row l.first
