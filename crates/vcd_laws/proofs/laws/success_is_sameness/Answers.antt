use Rattle.vcd_laws.proofs.SameDumps.{success_is_sameness as law}
use Rattle.vcd_laws.proofs.laws.success_is_sameness.Goals as goal

pub returns : goal.returns
returns c = law
