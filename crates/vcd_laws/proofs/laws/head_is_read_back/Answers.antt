use Rattle.vcd_laws.proofs.HeadBack.{head_is_read_back as law}
use Rattle.vcd_laws.proofs.laws.head_is_read_back.Goals as goal

pub returns : goal.returns
returns c = law
