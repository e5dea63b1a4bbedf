use Rattle.vcd_laws.proofs.MergeDue.{merge_due_grows as law}
use Rattle.vcd_laws.proofs.laws.merge_due_grows.Goals as goal

pub returns : goal.returns
returns c = law
