use Rattle.vcd_laws.proofs.CutUses.{sample_of_cut as law}
use Rattle.vcd_laws.proofs.laws.sample_of_cut.Goals as goal

pub returns : goal.returns
returns c = law
