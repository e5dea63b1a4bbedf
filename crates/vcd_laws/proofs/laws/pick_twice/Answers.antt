use Rattle.vcd_laws.proofs.PickTwice.{pick_twice as law}
use Rattle.vcd_laws.proofs.laws.pick_twice.Goals as goal

pub returns : goal.returns
returns c = law
