use Rattle.vcd_laws.proofs.EdgesOfCut.{edges_of_cut as law}
use Rattle.vcd_laws.proofs.laws.edges_of_cut.Goals as goal

pub returns : goal.returns
returns c = law
