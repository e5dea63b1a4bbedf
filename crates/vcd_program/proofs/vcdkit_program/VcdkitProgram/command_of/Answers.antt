use Rattle.vcd_program.proofs.Cited.{refl}
use Rattle.vcd_program.proofs.vcdkit_program.VcdkitProgram.command_of.Goals as goal

pub returns-clause-simple : goal.returns-clause-simple
returns-clause-simple c = refl
