use Rattle.vcd_laws.proofs.Safe.{checked_is_safe as law}
use Rattle.vcd_laws.proofs.laws.checked_is_safe.Goals as goal

pub returns : goal.returns
returns c = law
