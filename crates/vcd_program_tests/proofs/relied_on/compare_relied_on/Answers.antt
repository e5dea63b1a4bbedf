use Rattle.vcd_program.specs.Memory.{end_of}
use Rattle.vcd_program_tests.proofs.BeyondLemmas.{if-ok, on-compare}
use Rattle.vcd_program_tests.proofs.relied_on.compare_relied_on.Goals as goal

pub returns : goal.returns
returns c = if-ok _ _ (λ left. on-compare _ _ _ (end_of left)) c.compare_in_memory.result c.compare_in_memory.ensures
