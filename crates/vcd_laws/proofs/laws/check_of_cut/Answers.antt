use Rattle.vcd_laws.proofs.CheckOfCut.{check_of_cut as law}
use Rattle.vcd_laws.proofs.laws.check_of_cut.Goals as goal

pub returns : goal.returns
returns c = law
