use Rattle.vcd_engine.proofs.Cited.{subst, Puts}
use Rattle.vcd_engine.proofs.Facts.{front_is}
use Rattle.vcd_engine.proofs.pending.put_part.Goals as goal

pub returns : goal.returns
returns g c = subst (λ l. Puts (g.W.Sink.device c.args.out.now) (g.W.Sink.device c.put_front.new.w) l c.put_front.result)
    (front_is c.args.bytes.now c.args.from c.args.to c.requires.within.1) c.put_front.ensures
