use Rattle.vcd_laws.proofs.CompareOfMerge.{compare_of_merge as law}
use Rattle.vcd_laws.proofs.laws.compare_of_merge.Goals as goal

pub returns : goal.returns
returns c = law
