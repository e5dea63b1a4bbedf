use Rattle.vcd_laws.proofs.Safe.{check_names_the_fault as law}
use Rattle.vcd_laws.proofs.laws.check_names_the_fault.Goals as goal

pub returns : goal.returns
returns c = law
