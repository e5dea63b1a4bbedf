use Rattle.vcd_laws.proofs.ListOfMerge.{list_of_merge as law}
use Rattle.vcd_laws.proofs.laws.list_of_merge.Goals as goal

pub returns : goal.returns
returns c = law
