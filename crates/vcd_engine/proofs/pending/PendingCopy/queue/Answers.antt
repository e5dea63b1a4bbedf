use Rattle.vcd_engine.proofs.Cited.{◌≡◌, Err, arith, refl, rules, some-first, pending_in}
use Rattle.vcd_engine.proofs.Facts.{begun_on, pending_on, joined}
use Rattle.vcd_engine.proofs.pending.PendingCopy.queue.Goals as goal

pub returns-then-from-self : goal.returns-then-from-self
returns-then-from-self g c =
    let p = c.args.self.now in
    let on = c.requires.within.0 in
    let part = c.requires.part.0 in
    let e = c.if-from-self.true in
    record {
      puts = pending_on (pending_in c.args.bytes.now p) _ _ (g.W.Sink.device c.args.out.now) (joined c.args.bytes.now p.from p.to c.args.from c.args.to part e on);
      counts = refl;
      part = (omega (arith, e, on, part), c.requires.within.1);
    }

pub returns-in_err-flush : goal.returns-in_err-flush
returns-in_err-flush g c =
    let e : c.from_residual.result ≡ Err c.in_err-flush.field-0.0 = search rules in
    let puts = c.in_err-flush.ensures.puts in
    rw e (record { puts = some-first (g.W.Sink.device _) (g.W.Sink.device _) _ _ puts; counts = puts.1; part = tt })

pub returns : goal.returns
returns g c =
    let puts = c.in_ok-flush.ensures.puts in
    record { puts = begun_on _ _ (g.W.Sink.device _) (g.W.Sink.device _) puts; counts = puts.1; part = c.requires.within }
