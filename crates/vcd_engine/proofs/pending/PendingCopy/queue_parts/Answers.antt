use Rattle.vcd_engine.proofs.Cited.{◌≡◌, ◌+◌, slice_range, Err, arith, rules, sym, subst, PutsBehind, pending_in}
use Rattle.vcd_engine.proofs.Facts.{first_on, joined, twice_behind}
use Rattle.vcd_engine.proofs.pending.PendingCopy.queue_parts.Goals as goal

pub returns-then-n-eq0 : goal.returns-then-n-eq0
returns-then-n-eq0 g c =
    let bytes = c.args.bytes.now in
    let from = c.args.from in
    let within = c.requires.within.0 in
    let whole = joined bytes from (from + 1) (from + 1 + c.args.n) c.args.to (omega arith) (omega (arith, c.if-n-eq0.true)) within in
    subst (λ l. PutsBehind bytes c.args.self.now c.queue.new.self (g.W.Sink.device c.args.out.now) (g.W.Sink.device c.queue.new.out) l c.queue.result) (sym whole) c.queue.ensures

pub returns-in_err-queue : goal.returns-in_err-queue
returns-in_err-queue g c =
    let e : c.from_residual.result ≡ Err c.in_err-queue.field-0.0 = search rules in
    let bytes = c.args.bytes.now in
    let from = c.args.from in
    rw e (record {
      puts = first_on (pending_in bytes c.args.self.now) (slice_range bytes from (from + 1)) (slice_range bytes (from + 1 + c.args.n) c.args.to)
          (g.W.Sink.device _) (g.W.Sink.device _) c.in_err-queue.ensures.puts;
      counts = c.in_err-queue.ensures.counts;
      part = tt;
    })

pub returns : goal.returns
returns g c = twice_behind _ _ _ _ _ _ _ _ _ _ c.queue-3.result c.in_ok-queue.ensures c.queue-3.ensures
