use Rattle.vcd_program.proofs.Facts.{refused, shown_once}
use Rattle.vcd_program.proofs.command_line.run_matches.Goals as goal

pub returns-in-Err-clause-runs : goal.returns-in-Err-clause-runs
returns-in-Err-clause-runs g c =
    refused g.P.Program g.H.Host.opens g.H.Input.Source.rest g.H.Input.Source.failures g.H.Input.Source.last_failed c.args.matches.now c.args.host.now
    (g.W.Sink.device c.args.out.now) (g.E.Sink.device c.args.err.now)
    (g.E.Sink.device c.use_fault.new.err)
    c.use_fault.result _ c.in-Err.fault c.in-Err.ensures.asks c.in-Err.ensures.refusal c.use_fault.ensures.quiet c.use_fault.ensures.memory c.use_fault.ensures.line.line c.use_fault.ensures.line.status

pub returns-in-Err-clause-failures : goal.returns-in-Err-clause-failures
returns-in-Err-clause-failures g c = shown_once (g.E.Sink.device c.args.err.now) (g.E.Sink.device c.use_fault.new.err) _ c.use_fault.ensures.line.line
