use Rattle.vcd_laws.proofs.MergeDumps.{merge_keeps_changes_before as law}
use Rattle.vcd_laws.proofs.laws.merge_keeps_changes_before.Goals as goal

pub returns : goal.returns
returns c = law
