use Rattle.vcd_program.proofs.Cited.{map, rules, string_bytes}
use Rattle.vcd_program.proofs.Facts.{left-in-lent}
use Rattle.vcd_program.proofs.memory.run_into_memory.Goals as goal

pub returns : goal.returns
returns g c =
    left-in-lent g.P.Program (map string_bytes c.args.words.now) c.args.files.now c.args.input.now c.run_into_lent-status.new.out c.run_into_lent-status.new.err _ _ _ _ c.run_into_lent-status.result
    (search rules) (search rules) c.run_into_lent-status.ensures.left c.in_ok-output.ensures c.in_ok-message.ensures
