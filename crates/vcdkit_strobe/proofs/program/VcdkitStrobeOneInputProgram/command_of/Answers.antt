use Rattle.std.proofs.Common.{refl}
use Rattle.vcdkit_strobe.proofs.program.VcdkitStrobeOneInputProgram.command_of.Goals as goal

pub returns-clause-simple : goal.returns-clause-simple
returns-clause-simple c = refl
