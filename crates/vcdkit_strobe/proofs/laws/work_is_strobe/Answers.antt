use Rattle.vcdkit_strobe.proofs.WorkLemmas.{work_is_strobe as law}
use Rattle.vcdkit_strobe.proofs.laws.work_is_strobe.Goals as goal

pub returns : goal.returns
returns c = law
