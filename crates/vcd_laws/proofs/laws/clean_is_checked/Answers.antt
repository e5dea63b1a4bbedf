use Rattle.vcd_laws.proofs.Safe.{clean_is_checked as law}
use Rattle.vcd_laws.proofs.laws.clean_is_checked.Goals as goal

pub returns : goal.returns
returns c = law
