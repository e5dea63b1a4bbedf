use Rattle.vcd_laws.proofs.CutLaw.{cut_keeps as law}
use Rattle.vcd_laws.proofs.laws.cut_keeps.Goals as goal

pub returns : goal.returns
returns c = law
