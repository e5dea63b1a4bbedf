use Rattle.vcd_laws.proofs.MergeDue.{merge_due_is_never_revised as law}
use Rattle.vcd_laws.proofs.laws.merge_due_is_never_revised.Goals as goal

pub returns : goal.returns
returns c = law
