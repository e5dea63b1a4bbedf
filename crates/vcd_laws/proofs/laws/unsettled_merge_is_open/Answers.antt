use Rattle.vcd_laws.proofs.UnsettledMerge.{unsettled_merge_is_open as law}
use Rattle.vcd_laws.proofs.laws.unsettled_merge_is_open.Goals as goal

pub returns : goal.returns
returns c = law
