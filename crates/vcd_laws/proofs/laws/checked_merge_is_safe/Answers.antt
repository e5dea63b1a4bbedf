use Rattle.vcd_laws.proofs.SafeMerge.{checked_merge_is_safe as law}
use Rattle.vcd_laws.proofs.laws.checked_merge_is_safe.Goals as goal

pub returns : goal.returns
returns c = law
