use Rattle.vcd_model.specs.Header.{Header}
use Rattle.vcd_view.specs.Views.{IsViewOf}
use Rattle.vcd_strobe.proofs.NamedSteps.{FindEach}
use Rattle.vcd_strobe.proofs.named.find_clocks.Given as goal

abbrev pub invariant-loop-at : goal.invariant-loop-at
invariant-loop-at l = (h : Header) → IsViewOf l.view h → FindEach h l.names l.clocks l.at
