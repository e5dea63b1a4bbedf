use Rattle.vcd_laws.proofs.DumpLaws.{merge_is_a_dump as law}
use Rattle.vcd_laws.proofs.laws.merge_is_a_dump.Goals as goal

pub returns : goal.returns
returns c = law
