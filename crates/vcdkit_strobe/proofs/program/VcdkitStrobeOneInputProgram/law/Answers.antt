use Rattle.vcdkit_strobe.proofs.ProgramLemmas.{outcome-is, refusal-is, unnamed}
use Rattle.vcdkit_strobe.proofs.program.VcdkitStrobeOneInputProgram.law.Goals as goal

pub returns : goal.returns
returns c = (λ matches job asks. (tt, unnamed job, outcome-is job matches asks), refusal-is)
