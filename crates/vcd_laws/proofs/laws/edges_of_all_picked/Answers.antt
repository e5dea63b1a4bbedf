use Rattle.vcd_laws.proofs.PickedAlone.{edges_of_all_picked as law}
use Rattle.vcd_laws.proofs.laws.edges_of_all_picked.Goals as goal

pub returns : goal.returns
returns c = law
