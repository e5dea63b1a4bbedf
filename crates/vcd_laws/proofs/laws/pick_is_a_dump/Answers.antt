use Rattle.vcd_laws.proofs.DumpLaws.{pick_is_a_dump as law}
use Rattle.vcd_laws.proofs.laws.pick_is_a_dump.Goals as goal

pub returns : goal.returns
returns c = law
