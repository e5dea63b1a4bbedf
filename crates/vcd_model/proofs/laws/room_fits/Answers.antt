use Rattle.vcd_model.proofs.BoundLemmas.{room_fits as law}
use Rattle.vcd_model.proofs.laws.room_fits.Goals as goal

pub returns : goal.returns
returns c = law
