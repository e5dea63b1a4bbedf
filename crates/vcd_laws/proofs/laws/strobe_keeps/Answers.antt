use Rattle.vcd_laws.proofs.StrobeKeeps.{strobe_keeps as law}
use Rattle.vcd_laws.proofs.laws.strobe_keeps.Goals as goal

pub returns : goal.returns
returns c = law
