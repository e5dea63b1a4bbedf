use Rattle.vcd_laws.proofs.DumpOfDump.{pick_of_cut as law}
use Rattle.vcd_laws.proofs.laws.pick_of_cut.Goals as goal

pub returns : goal.returns
returns c = law
