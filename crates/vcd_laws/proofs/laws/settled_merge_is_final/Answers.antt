use Rattle.vcd_laws.proofs.SettlingMerge.{settled_merge_is_final as law}
use Rattle.vcd_laws.proofs.laws.settled_merge_is_final.Goals as goal

pub returns : goal.returns
returns c = law
