use Rattle.vcd_laws.proofs.AllMerged.{edges_of_all_merged as law}
use Rattle.vcd_laws.proofs.laws.edges_of_all_merged.Goals as goal

pub returns : goal.returns
returns c = law
