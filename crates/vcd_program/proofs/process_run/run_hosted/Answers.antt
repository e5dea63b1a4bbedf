use Rattle.vcd_program.proofs.Cited.{map, string_bytes}
use Rattle.vcd_program.proofs.Facts.{run-hosted}
use Rattle.vcd_program.proofs.process_run.run_hosted.Goals as goal

pub returns-clause-loan : goal.returns-clause-loan
returns-clause-loan g c =
    (run-hosted g.A.Program g.P.Process g.P.File.Read g.P.Input.Read g.W.Sink g.W.Output.flushes c.args.host.now c.run_program.new.host
    (map string_bytes c.args.words.now) _ _ _ _ _ c.run_program.ensures.runs).1.0

pub returns-clause-runs : goal.returns-clause-runs
returns-clause-runs g c =
    (run-hosted g.A.Program g.P.Process g.P.File.Read g.P.Input.Read g.W.Sink g.W.Output.flushes c.args.host.now c.run_program.new.host
    (map string_bytes c.args.words.now) _ _ _ _ _ c.run_program.ensures.runs).0
