use Rattle.vcd_compare.proofs.Outcomes.{answers_give_outcomes as law}
use Rattle.vcd_compare.proofs.laws.answers_give_outcomes.Goals as goal

pub returns : goal.returns
returns c = law
