use Rattle.vcd_laws.proofs.PickLaw.{pick_keeps as law}
use Rattle.vcd_laws.proofs.laws.pick_keeps.Goals as goal

pub returns : goal.returns
returns c = law
