use Rattle.vcd_laws.proofs.Unsettled.{unsettled_is_open as law}
use Rattle.vcd_laws.proofs.laws.unsettled_is_open.Goals as goal

pub returns : goal.returns
returns c = law
