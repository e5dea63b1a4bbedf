use Rattle.vcd_laws.proofs.CutTwice.{cut_twice as law}
use Rattle.vcd_laws.proofs.laws.cut_twice.Goals as goal

pub returns : goal.returns
returns c = law
