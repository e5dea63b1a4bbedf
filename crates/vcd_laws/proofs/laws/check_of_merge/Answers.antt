use Rattle.vcd_laws.proofs.CheckOfMerge.{check_of_merge as law}
use Rattle.vcd_laws.proofs.laws.check_of_merge.Goals as goal

pub returns : goal.returns
returns c = law
