use Rattle.vcd_laws.proofs.PickOfPick.{pick_of_pick as law}
use Rattle.vcd_laws.proofs.laws.pick_of_pick.Goals as goal

pub returns : goal.returns
returns c = law
