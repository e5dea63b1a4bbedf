use Rattle.vcd_laws.proofs.DumpOfDump.{cut_of_pick as law}
use Rattle.vcd_laws.proofs.laws.cut_of_pick.Goals as goal

pub returns : goal.returns
returns c = law
