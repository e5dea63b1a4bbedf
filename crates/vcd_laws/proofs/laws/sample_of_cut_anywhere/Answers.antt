use Rattle.vcd_laws.proofs.SampleOfCut.{sample_of_cut_anywhere as law}
use Rattle.vcd_laws.proofs.laws.sample_of_cut_anywhere.Goals as goal

pub returns : goal.returns
returns c = law
