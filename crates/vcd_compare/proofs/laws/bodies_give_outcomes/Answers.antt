use Rattle.vcd_compare.proofs.Outcomes.{bodies_give_outcomes as law}
use Rattle.vcd_compare.proofs.laws.bodies_give_outcomes.Goals as goal

pub returns : goal.returns
returns c = law
