use Rattle.vcd_program.specs.Memory.{end_of}
use Rattle.vcd_program_tests.proofs.BeyondLemmas.{if-ok, on-strobe}
use Rattle.vcd_program_tests.proofs.relied_on.strobe_relied_on.Goals as goal

pub returns : goal.returns
returns c = if-ok _ _ (λ left. on-strobe _ _ _ (end_of left)) c.strobe_in_memory.result c.strobe_in_memory.ensures
