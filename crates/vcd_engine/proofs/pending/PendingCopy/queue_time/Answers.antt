use Rattle.vcd_engine.proofs.Cited.{◌≡◌, Err, arith, rules, subst, counts-on, some-first, if_ok, PutsBehind}
use Rattle.vcd_engine.proofs.Facts.{put_on}
use Rattle.vcd_engine.proofs.pending.PendingCopy.queue_time.Goals as goal

pub queue_line-requires-clause-within : goal.queue_line-requires-clause-within
queue_line-requires-clause-within g c = let line = c.requires.line c.if-from-to.true in let room = line.0 in (omega (arith, room), line.1)

pub returns-then-from-to : goal.returns-then-from-to
returns-then-from-to g c =
    let line = c.requires.line c.if-from-to.true in
    subst (λ l. PutsBehind c.args.bytes.now c.args.self.now c.queue_line.new.self (g.W.Sink.device c.args.out.now)
    (g.W.Sink.device c.queue_line.new.out) l c.queue_line.result) line.2 c.queue_line.ensures

pub returns-in_err-flush : goal.returns-in_err-flush
returns-in_err-flush g c =
    let e : c.from_residual.result ≡ Err c.in_err-flush.field-0.0 = search rules in
    rw e (record { puts = some-first (g.W.Sink.device _) (g.W.Sink.device _) _ _ c.in_err-flush.ensures.puts; counts = c.in_err-flush.ensures.puts.1; part = tt })

pub returns : goal.returns
returns g c = record {
  puts = put_on _ _ _ (g.W.Sink.device _) (g.W.Sink.device _) (g.W.Sink.device _) c.put_time.result c.in_ok-flush.ensures.puts c.in_ok-flush.ensures.pending.0 c.put_time.ensures;
  counts = counts-on (g.W.Sink.device c.args.out.now) (g.W.Sink.device c.flush.new.out) (g.W.Sink.device c.put_time.new.out) c.put_time.result c.in_ok-flush.ensures.puts.1 c.put_time.ensures.1;
  part = if_ok c.put_time.result _ c.in_ok-flush.ensures.pending.1;
}
