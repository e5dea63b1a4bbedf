use Rattle.vcd_laws.proofs.SameStrobes.{same_strobes as law}
use Rattle.vcd_laws.proofs.laws.same_strobes.Goals as goal

pub returns : goal.returns
returns c = law
