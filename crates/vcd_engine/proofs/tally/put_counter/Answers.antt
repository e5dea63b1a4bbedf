use Rattle.vcd_engine.proofs.Cited.{[], ◌∷◌, decimal, puts-twice}
use Rattle.vcd_engine.proofs.tally.put_counter.Goals as goal

pub returns : goal.returns
returns g c = puts-twice (g.W.Sink.device _) (g.W.Sink.device _) (g.W.Sink.device _) (32 ∷ []) (decimal c.args.number) c.put_number.result c.in_ok-put.ensures c.put_number.ensures
