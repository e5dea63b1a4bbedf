use Rattle.vcd_laws.proofs.StrobeDump.{strobe_is_a_dump as law}
use Rattle.vcd_laws.proofs.laws.strobe_is_a_dump.Goals as goal

pub returns : goal.returns
returns c = law
