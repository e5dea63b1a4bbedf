use Rattle.vcd_model.proofs.StrobeGrows.{strobe_grows}
use Rattle.vcd_laws.proofs.laws.nothing_revised_in_strobe.Goals as goal

pub returns : goal.returns
returns c = strobe_grows
