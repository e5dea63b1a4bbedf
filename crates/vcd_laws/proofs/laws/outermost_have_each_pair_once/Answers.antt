use Rattle.vcd_laws.proofs.OutermostOnce.{outermost_have_each_pair_once as law}
use Rattle.vcd_laws.proofs.laws.outermost_have_each_pair_once.Goals as goal

pub returns : goal.returns
returns c = law
