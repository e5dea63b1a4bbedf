use Rattle.vcd_laws.proofs.MergedBack.{merged_head_is_read_back as law}
use Rattle.vcd_laws.proofs.laws.merged_head_is_read_back.Goals as goal

pub returns : goal.returns
returns c = law
