use Rattle.vcd_laws.proofs.DueText.{due_is_never_revised as law}
use Rattle.vcd_laws.proofs.laws.due_is_never_revised.Goals as goal

pub returns : goal.returns
returns c = law
