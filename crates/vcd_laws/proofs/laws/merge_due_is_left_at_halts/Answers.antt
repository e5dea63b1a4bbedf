use Rattle.vcd_laws.proofs.MergeDue.{merge_due_is_left_at_halts as law}
use Rattle.vcd_laws.proofs.laws.merge_due_is_left_at_halts.Goals as goal

pub returns : goal.returns
returns c = law
