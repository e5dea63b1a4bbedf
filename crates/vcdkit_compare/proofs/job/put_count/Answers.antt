use Rattle.std.proofs.Common.{[], ◌∷◌, codes}
use Rattle.vcd_text.proofs.Writes.{puts-first, puts-twice}
use Rattle.vcdkit_compare.proofs.job.put_count.Goals as goal

pub returns-in_err-put : goal.returns-in_err-put
returns-in_err-put g c = puts-first (g.W.Sink.device _) (g.W.Sink.device _) (codes "compared ") _ _ c.from_residual.ensures.0 c.in_err-put.ensures

pub returns-in_err-put_number : goal.returns-in_err-put_number
returns-in_err-put_number g c = puts-twice (g.W.Sink.device _) (g.W.Sink.device _) (g.W.Sink.device _) (codes "compared ") _ _ c.in_ok-put.ensures
    (puts-first (g.W.Sink.device _) (g.W.Sink.device _) _ (10 ∷ []) _ c.from_residual-in_err-put_number.ensures.0 c.in_err-put_number.ensures)

pub returns : goal.returns
returns g c = puts-twice (g.W.Sink.device _) (g.W.Sink.device _) (g.W.Sink.device _) (codes "compared ") _ _ c.in_ok-put.ensures
    (puts-twice (g.W.Sink.device _) (g.W.Sink.device _) (g.W.Sink.device _) _ (10 ∷ []) _ c.in_ok-put_number.ensures c.put-2.ensures)
