use Rattle.vcd_laws.proofs.AllMerged.{sample_of_all_merged as law}
use Rattle.vcd_laws.proofs.laws.sample_of_all_merged.Goals as goal

pub returns : goal.returns
returns c = law
