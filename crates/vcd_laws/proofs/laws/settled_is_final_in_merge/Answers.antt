use Rattle.vcd_laws.proofs.Settling.{settled_is_final_in_merge as law}
use Rattle.vcd_laws.proofs.laws.settled_is_final_in_merge.Goals as goal

pub returns : goal.returns
returns c = law
