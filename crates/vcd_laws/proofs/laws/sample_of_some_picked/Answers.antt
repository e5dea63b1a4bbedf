use Rattle.vcd_laws.proofs.PickedAlone.{sample_of_some_picked as law}
use Rattle.vcd_laws.proofs.laws.sample_of_some_picked.Goals as goal

pub returns : goal.returns
returns c = law
