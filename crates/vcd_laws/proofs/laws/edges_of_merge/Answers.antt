use Rattle.vcd_laws.proofs.EdgesOfMerge.{edges_of_merge as law}
use Rattle.vcd_laws.proofs.laws.edges_of_merge.Goals as goal

pub returns : goal.returns
returns c = law
