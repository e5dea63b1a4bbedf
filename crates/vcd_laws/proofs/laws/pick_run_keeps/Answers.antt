use Rattle.vcd_laws.proofs.RunLaws.{pick_run_keeps as law}
use Rattle.vcd_laws.proofs.laws.pick_run_keeps.Goals as goal

pub returns : goal.returns
returns c = law
