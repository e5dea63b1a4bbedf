use Rattle.vcd_laws.proofs.RunLaws.{merge_run_keeps as law}
use Rattle.vcd_laws.proofs.laws.merge_run_keeps.Goals as goal

pub returns : goal.returns
returns c = law
