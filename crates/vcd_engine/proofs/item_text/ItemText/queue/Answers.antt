use Rattle.vcd_engine.proofs.Cited.{◌≡◌, ◌++◌, ◌∷◌, [], Err, rules, sym, subst, item_line, time_due, some-first, HasWritten, PutsOn, pending_in, line_without, if_ok}
use Rattle.vcd_engine.proofs.Facts.{text_with, written_with, first_on, put_on, twice_behind}
use Rattle.vcd_engine.proofs.item_text.ItemText.queue.Goals as goal

pub left_out-requires : goal.left_out-requires
left_out-requires g c = (c.args.view, c.requires.next.spelled)

pub returns-in_err-queue_time : goal.returns-in_err-queue_time
returns-in_err-queue_time g c =
    let e : c.from_residual-in_err-queue_time.result ≡ Err c.in_err-queue_time.field-0.0 = search rules in
    let time = c.in_err-queue_time.ensures.puts in
    rw e (record {
      text = λ h before kept e views is at has tells.
          let t = c.args.self.now in (
            (
              time_due t.written c.args.time ++ item_line e.item,
              text_with before kept e c.args.time t at has tells,
              first_on (pending_in c.args.scanned.bytes.now c.args.pending.now) (time_due t.written c.args.time) (item_line e.item) (g.W.Sink.device _)
                  (g.W.Sink.device _) time.puts,
            ),
            tt,
          );
      counts = time.counts;
      part = tt;
    })

pub returns : goal.returns
returns g c =
    let l = c.args.scanned in
    let bytes = l.bytes.now in
    let both = twice_behind bytes c.args.pending.now c.queue_time.new.pending c.queue_line.new.self _
    (line_without bytes l.begin l.end c.in-Some.n) _ _ _ _ c.queue_line.result c.in_ok-queue_time.ensures.puts c.queue_line.ensures in
    record {
      text = λ h before kept e views is at has tells.
          let t = c.args.self.now in
          let line = c.in-Some.ensures.line c.args.view h e.item c.requires.next.spelled c.requires.next.binary c.requires.next.sized views is in
          let puts = subst (λ k. PutsOn (pending_in bytes c.args.pending.now) (pending_in bytes c.queue_line.new.self)
          (g.W.Sink.device c.args.out.now) (g.W.Sink.device c.queue_line.new.out) (time_due t.written c.args.time ++ k) c.queue_line.result)
          line both.puts in (
            (time_due t.written c.args.time ++ item_line e.item, text_with before kept e c.args.time t at has tells, puts),
            if_ok c.queue_line.result _ (subst (λ o. HasWritten before (kept ++ e ∷ []) (record { written = o }))
                (sym c.in_ok-queue_time.ensures.written) (written_with before kept e c.args.time at)),
          );
      counts = both.counts;
      part = both.part;
    }

pub returns-in_err-flush-clause-text : goal.returns-in_err-flush-clause-text
returns-in_err-flush-clause-text g c = λ h before kept e views is at has tells.
    let t = c.args.self.now in
    let failed : c.from_residual.result ≡ Err c.in_err-flush.field-0.0 = search rules in
    rw failed (
      (
        time_due t.written c.args.time ++ item_line e.item,
        text_with before kept e c.args.time t at has tells,
        some-first (g.W.Sink.device _) (g.W.Sink.device _) _ _ c.in_err-flush.ensures.puts,
      ),
      tt,
    )

pub returns-in_default-clause-text : goal.returns-in_default-clause-text
returns-in_default-clause-text g c = λ h before kept e views is at has tells.
    let one = c.put_with_time.ensures.text h before kept e views is at has tells in (
      (
        one.0.0,
        one.0.1,
        put_on _ _ _ (g.W.Sink.device _) (g.W.Sink.device _)
            (g.W.Sink.device _) c.put_with_time.result c.in_ok-flush.ensures.puts c.in_ok-flush.ensures.pending.0
            (one.0.2, c.put_with_time.ensures.counts),
      ),
      one.1,
    )
