use Rattle.std.proofs.Common.{◌∷◌, [], codes}
use Rattle.vcd_model.specs.Strobe.{no_clock_text}
use Rattle.vcd_text.proofs.Writes.{puts-first, puts-twice}
use Rattle.vcd_strobe.specs.Named.{model_why}
use Rattle.vcdkit_strobe.proofs.MessageLines.{as-three}
use Rattle.vcdkit_strobe.proofs.job.put_no_clock.Goals as goal

pub returns-in_err-put : goal.returns-in_err-put
returns-in_err-put g c =
    as-three (g.E.Sink.device c.args.err.now) (g.E.Sink.device _) c.args.word.now (codes ": ") (no_clock_text (model_why c.args.why)) c.from_residual.result
    (puts-first (g.E.Sink.device _) (g.E.Sink.device _) (codes "vcdkit-strobe: ") _ _ c.from_residual.ensures.0 c.in_err-put.ensures)

pub returns-in_err-put-2 : goal.returns-in_err-put-2
returns-in_err-put-2 g c =
    as-three (g.E.Sink.device c.args.err.now) (g.E.Sink.device _) c.args.word.now (codes ": ") (no_clock_text (model_why c.args.why)) c.from_residual-in_err-put-2.result
    (puts-twice (g.E.Sink.device _) (g.E.Sink.device _) (g.E.Sink.device _) (codes "vcdkit-strobe: ") _ _ c.in_ok-put.ensures
    (puts-first (g.E.Sink.device _) (g.E.Sink.device _) _ _ _ c.from_residual-in_err-put-2.ensures.0 c.in_err-put-2.ensures))

pub returns-in_err-put-3 : goal.returns-in_err-put-3
returns-in_err-put-3 g c =
    as-three (g.E.Sink.device c.args.err.now) (g.E.Sink.device _) c.args.word.now (codes ": ") (no_clock_text (model_why c.args.why)) c.from_residual-in_err-put-3.result
    (puts-twice (g.E.Sink.device _) (g.E.Sink.device _) (g.E.Sink.device _) (codes "vcdkit-strobe: ") _ _ c.in_ok-put.ensures
    (puts-twice (g.E.Sink.device _) (g.E.Sink.device _) (g.E.Sink.device _) _ _ _ c.in_ok-put-2.ensures
    (puts-first (g.E.Sink.device _) (g.E.Sink.device _) (codes ": ") _ _ c.from_residual-in_err-put-3.ensures.0 c.in_err-put-3.ensures)))

pub returns-in_err-put_reason : goal.returns-in_err-put_reason
returns-in_err-put_reason g c =
    as-three (g.E.Sink.device c.args.err.now) (g.E.Sink.device _) c.args.word.now (codes ": ") (no_clock_text (model_why c.args.why)) c.from_residual-in_err-put_reason.result
    (puts-twice (g.E.Sink.device _) (g.E.Sink.device _) (g.E.Sink.device _) (codes "vcdkit-strobe: ") _ _ c.in_ok-put.ensures
    (puts-twice (g.E.Sink.device _) (g.E.Sink.device _) (g.E.Sink.device _) _ _ _ c.in_ok-put-2.ensures
    (puts-twice (g.E.Sink.device _) (g.E.Sink.device _) (g.E.Sink.device _) (codes ": ") _ _ c.in_ok-put-3.ensures
    (puts-first (g.E.Sink.device _) (g.E.Sink.device _) _ (10 ∷ []) _ c.from_residual-in_err-put_reason.ensures.0 c.in_err-put_reason.ensures))))

pub returns : goal.returns
returns g c =
    as-three (g.E.Sink.device c.args.err.now) (g.E.Sink.device _) c.args.word.now (codes ": ") (no_clock_text (model_why c.args.why)) c.put-4.result
    (puts-twice (g.E.Sink.device _) (g.E.Sink.device _) (g.E.Sink.device _) (codes "vcdkit-strobe: ") _ _ c.in_ok-put.ensures
    (puts-twice (g.E.Sink.device _) (g.E.Sink.device _) (g.E.Sink.device _) _ _ _ c.in_ok-put-2.ensures
    (puts-twice (g.E.Sink.device _) (g.E.Sink.device _) (g.E.Sink.device _) (codes ": ") _ _ c.in_ok-put-3.ensures
    (puts-twice (g.E.Sink.device _) (g.E.Sink.device _) (g.E.Sink.device _) _ (10 ∷ []) _ c.in_ok-put_reason.ensures c.put-4.ensures))))
