use Rattle.vcd_laws.proofs.MergeDue.{settled_merge_due_is_all as law}
use Rattle.vcd_laws.proofs.laws.settled_merge_due_is_all.Goals as goal

pub returns : goal.returns
returns c = law
