use Rattle.std.proofs.Common.{codes}
use Rattle.vcd_text.proofs.Writes.{puts-first, puts-twice}
use Rattle.vcdkit_strobe.proofs.MessageLines.{as-line}
use Rattle.vcdkit_strobe.proofs.job.put_no_edge.Goals as goal

pub returns-in_err-put : goal.returns-in_err-put
returns-in_err-put g c =
    as-line (g.E.Sink.device c.args.err.now) (g.E.Sink.device _) c.args.name.now (codes ": no edge") c.from_residual.result
    (puts-first (g.E.Sink.device _) (g.E.Sink.device _) (codes "vcdkit-strobe: ") _ _ c.from_residual.ensures.0 c.in_err-put.ensures)

pub returns-in_err-put-2 : goal.returns-in_err-put-2
returns-in_err-put-2 g c =
    as-line (g.E.Sink.device c.args.err.now) (g.E.Sink.device _) c.args.name.now (codes ": no edge") c.from_residual-in_err-put-2.result
    (puts-twice (g.E.Sink.device _) (g.E.Sink.device _) (g.E.Sink.device _) (codes "vcdkit-strobe: ") _ _ c.in_ok-put.ensures
    (puts-first (g.E.Sink.device _) (g.E.Sink.device _) _ _ _ c.from_residual-in_err-put-2.ensures.0 c.in_err-put-2.ensures))

pub returns : goal.returns
returns g c =
    as-line (g.E.Sink.device c.args.err.now) (g.E.Sink.device _) c.args.name.now (codes ": no edge") c.put-3.result
    (puts-twice (g.E.Sink.device _) (g.E.Sink.device _) (g.E.Sink.device _) (codes "vcdkit-strobe: ") _ _ c.in_ok-put.ensures
    (puts-twice (g.E.Sink.device _) (g.E.Sink.device _) (g.E.Sink.device _) _ _ _ c.in_ok-put-2.ensures c.put-3.ensures))
