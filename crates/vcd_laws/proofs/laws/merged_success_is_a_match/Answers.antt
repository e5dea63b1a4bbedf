use Rattle.vcd_laws.proofs.MergedSuccess.{merged_success_is_a_match as law}
use Rattle.vcd_laws.proofs.laws.merged_success_is_a_match.Goals as goal

pub returns : goal.returns
returns c = law
