use Rattle.vcd_laws.proofs.WordLemmas.{jobs_are_valid as law}
use Rattle.vcd_laws.proofs.laws.jobs_are_valid.Goals as goal

pub returns : goal.returns
returns c = law
