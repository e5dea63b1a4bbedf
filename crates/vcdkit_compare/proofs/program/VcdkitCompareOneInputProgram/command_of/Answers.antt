use Rattle.std.proofs.Common.{refl}
use Rattle.vcdkit_compare.proofs.program.VcdkitCompareOneInputProgram.command_of.Goals as goal

pub returns-clause-simple : goal.returns-clause-simple
returns-clause-simple c = refl
