use Rattle.vcd_laws.proofs.MergeDumps.{merge_keeps_changes as law}
use Rattle.vcd_laws.proofs.laws.merge_keeps_changes.Goals as goal

pub returns : goal.returns
returns c = law
