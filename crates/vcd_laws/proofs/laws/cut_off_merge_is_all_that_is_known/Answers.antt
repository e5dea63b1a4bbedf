use Rattle.vcd_laws.proofs.CutOff.{cut_off_merge_is_all_that_is_known as law}
use Rattle.vcd_laws.proofs.laws.cut_off_merge_is_all_that_is_known.Goals as goal

pub returns : goal.returns
returns c = law
