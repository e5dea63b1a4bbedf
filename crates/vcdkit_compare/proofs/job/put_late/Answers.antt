use Rattle.std.proofs.Common.{codes}
use Rattle.vcd_text.proofs.Writes.{puts-first, puts-twice}
use Rattle.vcdkit_compare.proofs.LineLemmas.{as-late}
use Rattle.vcdkit_compare.proofs.job.put_late.Goals as goal

pub returns-in_err-put : goal.returns-in_err-put
returns-in_err-put g c =
    as-late (g.E.Sink.device c.args.err.now) (g.E.Sink.device _) c.args.from c.args.last c.from_residual.result
    (puts-first (g.E.Sink.device _) (g.E.Sink.device _) (codes "vcdkit-compare: --from: ") _ _ c.from_residual.ensures.0 c.in_err-put.ensures)

pub returns-in_err-put_number : goal.returns-in_err-put_number
returns-in_err-put_number g c =
    as-late (g.E.Sink.device c.args.err.now) (g.E.Sink.device _) c.args.from c.args.last c.from_residual-in_err-put_number.result
    (puts-twice (g.E.Sink.device _) (g.E.Sink.device _) (g.E.Sink.device _) (codes "vcdkit-compare: --from: ") _ _ c.in_ok-put.ensures
    (puts-first (g.E.Sink.device _) (g.E.Sink.device _) _ _ _ c.from_residual-in_err-put_number.ensures.0 c.in_err-put_number.ensures))

pub returns-in_err-put-2 : goal.returns-in_err-put-2
returns-in_err-put-2 g c =
    as-late (g.E.Sink.device c.args.err.now) (g.E.Sink.device _) c.args.from c.args.last c.from_residual-in_err-put-2.result
    (puts-twice (g.E.Sink.device _) (g.E.Sink.device _) (g.E.Sink.device _) (codes "vcdkit-compare: --from: ") _ _ c.in_ok-put.ensures
    (puts-twice (g.E.Sink.device _) (g.E.Sink.device _) (g.E.Sink.device _) _ _ _ c.in_ok-put_number.ensures
    (puts-first (g.E.Sink.device _) (g.E.Sink.device _) (codes " is after the end of the dump, ") _ _ c.from_residual-in_err-put-2.ensures.0 c.in_err-put-2.ensures)))

pub returns-in_err-put_number-2 : goal.returns-in_err-put_number-2
returns-in_err-put_number-2 g c =
    as-late (g.E.Sink.device c.args.err.now) (g.E.Sink.device _) c.args.from c.args.last c.from_residual-in_err-put_number-2.result
    (puts-twice (g.E.Sink.device _) (g.E.Sink.device _) (g.E.Sink.device _) (codes "vcdkit-compare: --from: ") _ _ c.in_ok-put.ensures
    (puts-twice (g.E.Sink.device _) (g.E.Sink.device _) (g.E.Sink.device _) _ _ _ c.in_ok-put_number.ensures
    (puts-twice (g.E.Sink.device _) (g.E.Sink.device _) (g.E.Sink.device _) (codes " is after the end of the dump, ") _ _ c.in_ok-put-2.ensures
    (puts-first (g.E.Sink.device _) (g.E.Sink.device _) _ _ _ c.from_residual-in_err-put_number-2.ensures.0 c.in_err-put_number-2.ensures))))

pub returns : goal.returns
returns g c =
    as-late (g.E.Sink.device c.args.err.now) (g.E.Sink.device _) c.args.from c.args.last c.put-3.result
    (puts-twice (g.E.Sink.device _) (g.E.Sink.device _) (g.E.Sink.device _) (codes "vcdkit-compare: --from: ") _ _ c.in_ok-put.ensures
    (puts-twice (g.E.Sink.device _) (g.E.Sink.device _) (g.E.Sink.device _) _ _ _ c.in_ok-put_number.ensures
    (puts-twice (g.E.Sink.device _) (g.E.Sink.device _) (g.E.Sink.device _) (codes " is after the end of the dump, ") _ _ c.in_ok-put-2.ensures
    (puts-twice (g.E.Sink.device _) (g.E.Sink.device _) (g.E.Sink.device _) _ _ _ c.in_ok-put_number-2.ensures
    (c.put-3.ensures)))))
