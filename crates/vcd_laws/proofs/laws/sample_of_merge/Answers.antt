use Rattle.vcd_laws.proofs.SampleOfMerge.{sample_of_merge as law}
use Rattle.vcd_laws.proofs.laws.sample_of_merge.Goals as goal

pub returns : goal.returns
returns c = law
