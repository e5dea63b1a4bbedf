use Rattle.vcd_laws.proofs.SuccessMatches.{comparison_is_within as law}
use Rattle.vcd_laws.proofs.laws.comparison_is_within.Goals as goal

pub returns : goal.returns
returns c = law
