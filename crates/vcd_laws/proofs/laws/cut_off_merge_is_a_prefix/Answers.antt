use Rattle.vcd_laws.proofs.CutOff.{cut_off_merge_is_a_prefix as law}
use Rattle.vcd_laws.proofs.laws.cut_off_merge_is_a_prefix.Goals as goal

pub returns : goal.returns
returns c = law
