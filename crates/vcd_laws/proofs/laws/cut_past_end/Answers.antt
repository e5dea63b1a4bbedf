use Rattle.vcd_laws.proofs.CutTwice.{cut_past_end as law}
use Rattle.vcd_laws.proofs.laws.cut_past_end.Goals as goal

pub returns : goal.returns
returns c = law
