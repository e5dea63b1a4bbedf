use Rattle.vcd_laws.proofs.MergeFaults.{merge_names_the_fault as law}
use Rattle.vcd_laws.proofs.laws.merge_names_the_fault.Goals as goal

pub returns : goal.returns
returns c = law
