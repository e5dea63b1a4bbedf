use Rattle.vcd_laws.proofs.KeepsAll.{cut_keeps_all as law}
use Rattle.vcd_laws.proofs.laws.cut_keeps_all.Goals as goal

pub returns : goal.returns
returns c = law
