use Rattle.vcd_laws.proofs.OutermostPlaces.{outermost_have_all_pairs as law}
use Rattle.vcd_laws.proofs.laws.outermost_have_all_pairs.Goals as goal

pub returns : goal.returns
returns c = law
