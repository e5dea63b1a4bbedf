use Rattle.vcd_laws.proofs.AllMerged.{sample_of_any_merged as law}
use Rattle.vcd_laws.proofs.laws.sample_of_any_merged.Goals as goal

pub returns : goal.returns
returns c = law
