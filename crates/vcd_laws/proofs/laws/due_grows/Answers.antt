use Rattle.vcd_laws.proofs.DueText.{due_grows as law}
use Rattle.vcd_laws.proofs.laws.due_grows.Goals as goal

pub returns : goal.returns
returns c = law
