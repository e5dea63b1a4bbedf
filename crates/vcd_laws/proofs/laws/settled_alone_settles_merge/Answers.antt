use Rattle.vcd_laws.proofs.SettledAlone.{settled_alone_settles_merge as law}
use Rattle.vcd_laws.proofs.laws.settled_alone_settles_merge.Goals as goal

pub returns : goal.returns
returns c = law
