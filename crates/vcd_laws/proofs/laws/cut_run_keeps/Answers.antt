use Rattle.vcd_laws.proofs.RunLaws.{cut_run_keeps as law}
use Rattle.vcd_laws.proofs.laws.cut_run_keeps.Goals as goal

pub returns : goal.returns
returns c = law
