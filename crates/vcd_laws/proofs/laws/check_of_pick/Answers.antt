use Rattle.vcd_laws.proofs.Checks.{check_of_pick as law}
use Rattle.vcd_laws.proofs.laws.check_of_pick.Goals as goal

pub returns : goal.returns
returns c = law
