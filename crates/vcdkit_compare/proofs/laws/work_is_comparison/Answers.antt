use Rattle.vcdkit_compare.proofs.WorkLemmas.{work_is_comparison as law}
use Rattle.vcdkit_compare.proofs.laws.work_is_comparison.Goals as goal

pub returns : goal.returns
returns c = law
