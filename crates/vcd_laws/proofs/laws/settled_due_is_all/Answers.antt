use Rattle.vcd_laws.proofs.DueText.{settled_due_is_all as law}
use Rattle.vcd_laws.proofs.laws.settled_due_is_all.Goals as goal

pub returns : goal.returns
returns c = law
