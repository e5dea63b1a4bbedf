use Rattle.vcd_laws.proofs.KeepsAll.{pick_keeps_all as law}
use Rattle.vcd_laws.proofs.laws.pick_keeps_all.Goals as goal

pub returns : goal.returns
returns c = law
