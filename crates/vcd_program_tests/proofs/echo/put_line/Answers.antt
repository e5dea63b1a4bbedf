use Rattle.std.proofs.Common.{[], ◌∷◌}
use Rattle.vcd_text.proofs.Writes.{puts-first, puts-twice}
use Rattle.vcd_program_tests.proofs.echo.put_line.Goals as goal

pub returns-in_err-put : goal.returns-in_err-put
returns-in_err-put g c =
    rw (← c.as_bytes.ensures.value)
    (puts-first (g.W.Sink.device _) (g.W.Sink.device _) _ (10 ∷ []) _ c.from_residual.ensures.0 c.in_err-put.ensures)

pub returns : goal.returns
returns g c =
    rw (← c.as_bytes.ensures.value)
    (puts-twice (g.W.Sink.device _) (g.W.Sink.device _) (g.W.Sink.device _) _ (10 ∷ []) _ c.in_ok-put.ensures c.put-2.ensures)
