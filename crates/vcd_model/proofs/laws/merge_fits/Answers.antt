use Rattle.vcd_model.proofs.BoundLemmas.{merge_fits as law}
use Rattle.vcd_model.proofs.laws.merge_fits.Goals as goal

pub returns : goal.returns
returns c = law
