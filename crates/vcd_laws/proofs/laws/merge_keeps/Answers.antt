use Rattle.vcd_laws.proofs.MergeLaw.{merge_keeps as law}
use Rattle.vcd_laws.proofs.laws.merge_keeps.Goals as goal

pub returns : goal.returns
returns c = law
