use Rattle.vcdkit_compare.proofs.ProgramLemmas.{outcome-is, refusal-is, unnamed}
use Rattle.vcdkit_compare.proofs.program.VcdkitCompareOneInputProgram.law.Goals as goal

pub returns : goal.returns
returns c = (λ matches job asks. (tt, unnamed job, outcome-is job matches asks), refusal-is)
