use Rattle.vcd_engine.proofs.Cited.{◌≡◌, Err, rules, subst, Puts, counts-on, some-first, if_ok, PutsBehind}
use Rattle.vcd_engine.proofs.Facts.{line_there, put_on, two_bytes_line}
use Rattle.vcd_engine.proofs.pending.PendingCopy.queue_line.Goals as goal

pub returns-then-bytes-last-eq10 : goal.returns-then-bytes-last-eq10
returns-then-bytes-last-eq10 g c =
    let bytes = c.args.bytes.now in
    let line = line_there bytes c.args.from c.args.to c.args.n c.requires.within.0 c.requires.within.1 c.if-bytes-last-eq10.true in
    subst (λ l. PutsBehind bytes c.args.self.now c.queue_parts.new.self (g.W.Sink.device c.args.out.now) (g.W.Sink.device c.queue_parts.new.out) l c.queue_parts.result) line c.queue_parts.ensures

pub returns-in_err-flush : goal.returns-in_err-flush
returns-in_err-flush g c =
    let e : c.from_residual.result ≡ Err c.in_err-flush.field-0.0 = search rules in
    rw e (record { puts = some-first (g.W.Sink.device _) (g.W.Sink.device _) _ _ c.in_err-flush.ensures.puts; counts = c.in_err-flush.ensures.puts.1; part = tt })

pub returns-then-to-from : goal.returns-then-to-from
returns-then-to-from g c =
    let line = two_bytes_line c.args.bytes.now c.args.from c.args.to c.args.n c.if-n-eq0.true c.if-to-from.true c.requires.within.1 in
    let put = subst (λ l. Puts (g.W.Sink.device c.flush.new.out) (g.W.Sink.device c.put_few.new.w) l c.put_few.result) line c.put_few.ensures in
    record {
      puts = put_on _ _ _ (g.W.Sink.device _) (g.W.Sink.device _) (g.W.Sink.device _) c.put_few.result c.in_ok-flush.ensures.puts c.in_ok-flush.ensures.pending.0 put;
      counts = counts-on (g.W.Sink.device c.args.out.now) (g.W.Sink.device c.flush.new.out) (g.W.Sink.device c.put_few.new.w) c.put_few.result c.in_ok-flush.ensures.puts.1 put.1;
      part = if_ok c.put_few.result _ c.in_ok-flush.ensures.pending.1;
    }

pub returns : goal.returns
returns g c = record {
  puts = put_on _ _ _ (g.W.Sink.device _) (g.W.Sink.device _) (g.W.Sink.device _) c.put_with_line_feed.result c.in_ok-flush.ensures.puts c.in_ok-flush.ensures.pending.0 c.put_with_line_feed.ensures;
  counts = counts-on (g.W.Sink.device c.args.out.now) (g.W.Sink.device c.flush.new.out)
      (g.W.Sink.device c.put_with_line_feed.new.out) c.put_with_line_feed.result c.in_ok-flush.ensures.puts.1 c.put_with_line_feed.ensures.1;
  part = if_ok c.put_with_line_feed.result _ c.in_ok-flush.ensures.pending.1;
}
