use Rattle.vcd_program_tests.proofs.BeyondLemmas.{strobe-process-of}
use Rattle.vcd_program_tests.proofs.relied_on.run_strobe_relied_on.Goals as goal

pub returns : goal.returns
returns g c =
    strobe-process-of g.P.Process g.P.File.Read g.P.Input.Read g.W.Sink g.W.Output.flushes g.E.Sink g.E.Output.flushes c.args.process.now c.run_process.new.process c.args.out.now c.run_process.new.out c.args.err.now c.run_process.new.err c.run_process.result c.run_process.ensures.runs
