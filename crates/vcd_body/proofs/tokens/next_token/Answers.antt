use Rattle.vcd_body.proofs.Cited.{◌++◌, refl, failed_after, seen, limit_of}
use Rattle.vcd_body.proofs.Facts.{halted_at}
use Rattle.vcd_body.proofs.tokens.next_token.Goals as goal

pub returns-in-Err-TokenTooLong-clause-reads : goal.returns-in-Err-TokenTooLong-clause-reads
returns-in-Err-TokenTooLong-clause-reads g c = λ codes i front placed before r.
    let e = rw c.in-Err-TokenTooLong.field-0-is at c.in-Err-TokenTooLong.ensures in
    let n = e.gives i (front ++ r.given) r.stands in
    halted_at codes i front placed (limit_of c.args.feed.now) r.given before 1 c.next.new.self e.advances.limit r.so_far n.2 n.0

pub returns-in-Err-InputTooLong-clause-reads : goal.returns-in-Err-InputTooLong-clause-reads
returns-in-Err-InputTooLong-clause-reads g c = λ codes i front placed before r.
    let e = rw c.in-Err-InputTooLong.field-0-is at c.in-Err-InputTooLong.ensures in
    let n = e.gives i (front ++ r.given) r.stands in
    halted_at codes i front placed (limit_of c.args.feed.now) r.given before 21 c.next.new.self e.advances.limit r.so_far n.2 n.0

pub returns-in-Err-ReadFailed-clause-reads : goal.returns-in-Err-ReadFailed-clause-reads
returns-in-Err-ReadFailed-clause-reads g c = λ codes i front placed before r.
    let e = rw c.in-Err-ReadFailed.field-0-is at c.in-Err-ReadFailed.ensures in
    let n = e.gives i (front ++ r.given) r.stands in (
      halted_at codes (failed_after (seen c.next.new.self) i) front placed
          (limit_of c.args.feed.now) r.given before 31 c.next.new.self e.advances.limit r.so_far n.2 n.0,
      e.left refl i (front ++ r.given) r.stands,
    )

pub returns-in-Ok-Token-clause-ahead : goal.returns-in-Ok-Token-clause-ahead
returns-in-Ok-Token-clause-ahead g c = λ t ts w. (refl, (c.in-Ok-Token.ensures.ahead t ts w).1)

pub returns-in-Ok-Finish-clause-ahead : goal.returns-in-Ok-Finish-clause-ahead
returns-in-Ok-Finish-clause-ahead g c = λ t ts w. let e = (c.in-Ok-Finish.ensures.ahead t ts w).0 in let f = c.in-Ok-Finish.field-0-is in absurd (cc)

pub returns-in-Err-TokenTooLong-clause-ahead : goal.returns-in-Err-TokenTooLong-clause-ahead
returns-in-Err-TokenTooLong-clause-ahead g c = λ t ts w. let e = (c.in-Err-TokenTooLong.ensures.ahead t ts w).0 in absurd (cc)

pub returns-in-Err-InputTooLong-clause-ahead : goal.returns-in-Err-InputTooLong-clause-ahead
returns-in-Err-InputTooLong-clause-ahead g c = λ t ts w. let e = (c.in-Err-InputTooLong.ensures.ahead t ts w).0 in absurd (cc)

pub returns-in-Err-ReadFailed-clause-ahead : goal.returns-in-Err-ReadFailed-clause-ahead
returns-in-Err-ReadFailed-clause-ahead g c = λ t ts w. let e = (c.in-Err-ReadFailed.ensures.ahead t ts w).0 in absurd (cc)
