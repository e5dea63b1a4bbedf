use Rattle.vcd_laws.proofs.MergeDue.{merge_due_is_all_that_is_known as law}
use Rattle.vcd_laws.proofs.laws.merge_due_is_all_that_is_known.Goals as goal

pub returns : goal.returns
returns c = law
