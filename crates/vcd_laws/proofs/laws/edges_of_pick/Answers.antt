use Rattle.vcd_laws.proofs.EdgesOfPick.{edges_of_pick as law}
use Rattle.vcd_laws.proofs.laws.edges_of_pick.Goals as goal

pub returns : goal.returns
returns c = law
