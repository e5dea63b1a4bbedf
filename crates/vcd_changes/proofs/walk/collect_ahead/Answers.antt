use Rattle.vcd_changes.proofs.Cited.{◌≡◌, ◌<◌, ◌++◌, ◌∙◌, List, ap, length, sym, take, arith, rules, lt-leb, ahead_of, lines_of, limit_of, GaveAhead, ChangeRow}
use Rattle.vcd_changes.proofs.Facts.{none_ahead}
use Rattle.vcd_changes.proofs.walk.collect_ahead.Goals as goal

pub walk_rows-walked-requires-clause-some : goal.walk_rows-walked-requires-clause-some
walk_rows-walked-requires-clause-some g c =
    let room : c.args.count < length c.args.rows.now = omega (arith, c.if-rows-count.false) in
    lt-leb _ _ room

pub pass_items-requires : goal.pass_items-requires
pass_items-requires g c =
    let a = c.ahead-ahead.ensures in
    let came = c.walk_rows-walked.ensures.came in
    let p = came.passed (lines_of c.args.feed.now) in
    (p.0, rw (sym a.limit, sym a.bytes, c.bytes_to_pass-passed.ensures) p.1)

pub returns-then-rows-count-clause-reads : goal.returns-then-rows-count-clause-reads
returns-then-rows-count-clause-reads g c = λ h i front items code views gave at. none_ahead code.text h.codes i front items _ _ _ gave

pub returns-clause-reads : goal.returns-clause-reads
returns-clause-reads g c = λ h i front items code views gave at.
    let f = c.args.feed.now in
    let a = c.ahead-ahead.ensures in
    let came = c.walk_rows-walked.ensures.came in
    let e : c.rows-1.given.0 ≡ c.walk_rows-walked.new.rows.rows.now = search rules in
    let more = came.adds h (lines_of f) items code views gave.known at in
    let lies : GaveAhead h.codes (limit_of f) (lines_of f) (ahead_of f) c.bytes_to_pass-passed.result items more.more = rw (sym a.limit, sym a.bytes, c.bytes_to_pass-passed.ensures) more.gave in
    record {
      more = more.more;
      added = more.added;
      gave = c.pass_items.ensures.gives h.codes i front items more.more c.args.regs.now c.walk_rows-walked.result.regs gave lies more.known;
      rows_are = more.rows_are;
      new_are = rw e (more.filled_are ∙ ap (λ (l : List ChangeRow). take c.args.count l ++ more.added) c.new-lent.ensures.rows);
    }

pub returns-clause-most : goal.returns-clause-most
returns-clause-most g c =
    let e : c.rows-1.given.0 ≡ c.walk_rows-walked.new.rows.rows.now = search rules in
    let room = c.walk_rows-walked.ensures.came.room in
    rw e (omega (arith, room.most, room.room))
