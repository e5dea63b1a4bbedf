use Rattle.vcd_body.proofs.Cited.{[], ◌∷◌, puts-twice}
use Rattle.vcd_body.proofs.values.held_text.put_real_text.Goals as goal

pub returns : goal.returns
returns g c = puts-twice (g.W.Sink.device _) (g.W.Sink.device _) (g.W.Sink.device _) (114 ∷ []) c.args.text.now c.put-2.result c.in_ok-put.ensures c.put-2.ensures
