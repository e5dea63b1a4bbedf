use Rattle.vcd_head.proofs.Cited.{Some, None, refl, failed_after, seen, limit_of}
use Rattle.vcd_head.proofs.Facts.{fails_at_end}
use Rattle.vcd_head.proofs.tokens.next_token.Goals as goal

pub returns-in-Ok-Finish-clause-reads : goal.returns-in-Ok-Finish-clause-reads
returns-in-Ok-Finish-clause-reads g c = λ most i placed before r.
    let e = rw c.in-Ok-Finish.field-0-is at c.in-Ok-Finish.ensures in
    let n = e.gives i r.given r.stands in
    fails_at_end most (limit_of c.args.feed.now) i r.given placed before None c.next.new.self e.advances.limit r.so_far n.2 n.1 n.0

pub returns-in-Ok-Finish-clause-goes : goal.returns-in-Ok-Finish-clause-goes
returns-in-Ok-Finish-clause-goes g c =
    let e = rw c.in-Ok-Finish.field-0-is at c.in-Ok-Finish.ensures in
    record {
      advances = record {
        loans = e.advances.loans;
        limit = e.advances.limit;
        chunk = e.advances.chunk;
        on = λ x. cc;
        goes = λ x o. cc;
        failed = λ x o. cc;
        last = λ x o. cc;
        same = λ x. e.advances.same (λ y. cc);
      };
      progress = tt;
      bounded = e.bounded.1;
    }

pub returns-in-Err-TokenTooLong-clause-reads : goal.returns-in-Err-TokenTooLong-clause-reads
returns-in-Err-TokenTooLong-clause-reads g c = λ most i placed before r.
    let e = rw c.in-Err-TokenTooLong.field-0-is at c.in-Err-TokenTooLong.ensures in
    let n = e.gives i r.given r.stands in
    fails_at_end most (limit_of c.args.feed.now) i r.given placed before (Some 1) c.next.new.self e.advances.limit r.so_far n.2 n.1 n.0

pub returns-in-Err-InputTooLong-clause-reads : goal.returns-in-Err-InputTooLong-clause-reads
returns-in-Err-InputTooLong-clause-reads g c = λ most i placed before r.
    let e = rw c.in-Err-InputTooLong.field-0-is at c.in-Err-InputTooLong.ensures in
    let n = e.gives i r.given r.stands in
    fails_at_end most (limit_of c.args.feed.now) i r.given placed before (Some 21) c.next.new.self e.advances.limit r.so_far n.2 n.1 n.0

pub returns-in-Err-ReadFailed-clause-reads : goal.returns-in-Err-ReadFailed-clause-reads
returns-in-Err-ReadFailed-clause-reads g c = λ most i placed before r.
    let e = rw c.in-Err-ReadFailed.field-0-is at c.in-Err-ReadFailed.ensures in
    let n = e.gives i r.given r.stands in (
      fails_at_end most (limit_of c.args.feed.now) (failed_after (seen c.next.new.self) i) r.given placed before
          (Some 31) c.next.new.self e.advances.limit r.so_far n.2 n.1 n.0,
      e.left refl i r.given r.stands,
    )

pub returns-in-Ok-Token-clause-reads : goal.returns-in-Ok-Token-clause-reads
returns-in-Ok-Token-clause-reads g c = λ most i placed before r.
    let e = rw c.in-Ok-Token.field-0-is at c.in-Ok-Token.ensures in
    record { given = r.given; stands = e.gives i r.given r.stands; so_far = r.so_far }
