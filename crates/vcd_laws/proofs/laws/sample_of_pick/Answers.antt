use Rattle.vcd_laws.proofs.PickUses.{sample_of_pick as law}
use Rattle.vcd_laws.proofs.laws.sample_of_pick.Goals as goal

pub returns : goal.returns
returns c = law
