use Rattle.vcd_laws.proofs.DueText.{due_is_left_at_a_halt as law}
use Rattle.vcd_laws.proofs.laws.due_is_left_at_a_halt.Goals as goal

pub returns : goal.returns
returns c = law
