use Rattle.vcd_laws.proofs.StrobesMatch.{strobe_success_is_a_match as law}
use Rattle.vcd_laws.proofs.laws.strobe_success_is_a_match.Goals as goal

pub returns : goal.returns
returns c = law
