use Rattle.vcd_engine.proofs.Cited.{[], ◌∷◌, puts-twice}
use Rattle.vcd_engine.proofs.rows.put_word.Goals as goal

pub returns : goal.returns
returns g c = puts-twice (g.W.Sink.device _) (g.W.Sink.device _) (g.W.Sink.device _) (32 ∷ []) c.args.word.now c.put-2.result c.in_ok-put.ensures c.put-2.ensures
