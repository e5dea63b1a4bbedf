use Rattle.vcd_text.proofs.Cited.{◌+◌, ◌≤◌, length, arith, refl}
use Rattle.vcd_text.proofs.Facts.{before_bits, run_behind, run_past, white_on, white_one}
use Rattle.vcd_text.proofs.ahead.Ahead.next.Goals.{then-begins_at+in_ok-white-3, else-begins_at}
use Rattle.vcd_text.proofs.ahead.Ahead.next.Goals as goal

pub returns-in_err-white-clause-needed : goal.returns-in_err-white-clause-needed
returns-in_err-white-clause-needed c = λ _ start n front r.
    let a = c.args.self.now in
    let none = c.in_err-white.ensures.none refl in
    let far = run_past a.limit a.bytes.now a.at none.0 start n front.order (none.2 a.at a.order a.bits) r in
    let end = none.1 in
    omega (arith, far, end)

pub begins_at-requires-clause-ahead : goal.begins_at-requires-clause-ahead
begins_at-requires-clause-ahead c =
    let a = c.args.self.now in
    let m = c.in_ok-white.ensures.bits a.at a.order a.bits in m.ahead

pub take-requires-clause-bits : goal.take-requires-clause-bits
take-requires-clause-bits c =
    let a = c.args.self.now in
    c.in_ok-white.ensures.bits a.at a.order a.bits

pub returns-in_err-white-2-clause-needed : goal.returns-in_err-white-2-clause-needed
returns-in_err-white-2-clause-needed c = λ _ start n front r.
    let a = c.args.self.now in
    let is = c.if-not-begins_at.false in
    let m = c.in_ok-white.ensures.bits a.at a.order a.bits in
    let one = c.without_first.ensures.bits a.bytes.now a.at (length a.bytes.now) (c.begins_at.ensures.near is) (c.begins_at.ensures.set is) m in
    let white = white_one a.bytes.now a.at (c.begins_at.ensures.white is a.bytes.now (length a.bytes.now) m).1 in
    let le : a.at + 1 ≤ c.without_first.result.next = omega (arith, one.0, c.without_first.ensures.next) in
    let none = c.in_err-white-2.ensures.none refl in
    let behind = run_behind a.limit a.bytes.now a.at (a.at + 1) start n white front r in
    let far = run_past a.limit a.bytes.now (a.at + 1) none.0 start n behind (none.2 (a.at + 1) le one.1) r in
    let end = none.1 in
    omega (arith, far, end)

pub begins_at-requires-2-clause-ahead : goal.begins_at-requires-2-clause-ahead
begins_at-requires-2-clause-ahead c =
    let a = c.args.self.now in
    let is = c.if-not-begins_at.false in
    let m = c.in_ok-white.ensures.bits a.at a.order a.bits in
    let one = c.without_first.ensures.bits a.bytes.now a.at (length a.bytes.now) (c.begins_at.ensures.near is) (c.begins_at.ensures.set is) m in
    let le : a.at + 1 ≤ c.without_first.result.next = omega (arith, one.0, c.without_first.ensures.next) in
    let m2 = c.in_ok-white-2.ensures.bits (a.at + 1) le one.1 in
    m2.ahead

pub white_ahead-requires-then-begins_at : goal.white_ahead-requires-then-begins_at
white_ahead-requires-then-begins_at c = omega (arith, c.unknown.ensures.next, c.past_white-start.ensures.within)

pub returns-in_err-white-3-clause-needed : goal.returns-in_err-white-3-clause-needed
returns-in_err-white-3-clause-needed c = λ _ start n front r.
    let a = c.args.self.now in
    let is = c.if-not-begins_at.false in
    let m = c.in_ok-white.ensures.bits a.at a.order a.bits in
    let white = white_one a.bytes.now a.at (c.begins_at.ensures.white is a.bytes.now (length a.bytes.now) m).1 in
    let from = c.past_white-start.result in
    let before = white_on a.bytes.now a.at (a.at + 1) from white c.past_white-start.ensures.white in
    let le : from ≤ c.unknown.result.next = omega (arith, c.unknown.ensures.next) in
    let m3 = c.unknown.ensures.bits a.bytes.now from (length a.bytes.now) (omega arith) c.past_white-start.ensures.within in
    let none = c.in_err-white-3.ensures.none refl in
    let behind = run_behind a.limit a.bytes.now a.at from start n before front r in
    let far = run_past a.limit a.bytes.now from none.0 start n behind (none.2 from le m3) r in
    let end = none.1 in
    omega (arith, far, end)

pub take-requires-2-clause-before : goal.take-requires-2-clause-before
take-requires-2-clause-before c =
    let a = c.args.self.now in
    let is = c.if-not-begins_at.false in
    let m = c.in_ok-white.ensures.bits a.at a.order a.bits in
    let white = white_one a.bytes.now a.at (c.begins_at.ensures.white is a.bytes.now (length a.bytes.now) m).1 in
    elim c.if-begins_at.branch [
      | then-begins_at+in_ok-white-3 w ↦ rw w.start-is (white_on a.bytes.now a.at (a.at + 1) w.past_white-start.result white w.past_white-start.ensures.white)
      | else-begins_at w ↦ rw w.start-is white
    ]

pub take-requires-2-clause-bits : goal.take-requires-2-clause-bits
take-requires-2-clause-bits c =
    let a = c.args.self.now in
    let is = c.if-not-begins_at.false in
    let m = c.in_ok-white.ensures.bits a.at a.order a.bits in
    let one = c.without_first.ensures.bits a.bytes.now a.at (length a.bytes.now) (c.begins_at.ensures.near is) (c.begins_at.ensures.set is) m in
    let le : a.at + 1 ≤ c.without_first.result.next = omega (arith, one.0, c.without_first.ensures.next) in
    elim c.if-begins_at.branch [
      | then-begins_at+in_ok-white-3 w ↦ (let from = w.past_white-start.result in
          let far : from ≤ w.unknown.result.next = omega (arith, w.unknown.ensures.next) in
          rw (w.start-is, w.white-is) (w.in_ok-white-3.ensures.bits from far (w.unknown.ensures.bits a.bytes.now from (length a.bytes.now) (omega arith) w.past_white-start.ensures.within)))
      | else-begins_at w ↦ rw (w.start-is, w.white-is) (c.in_ok-white-2.ensures.bits (a.at + 1) le one.1)
    ]

pub take-requires-2-clause-token : goal.take-requires-2-clause-token
take-requires-2-clause-token c =
    let bytes = c.args.self.now.bytes.now in
    elim c.if-begins_at.branch [
      | then-begins_at+in_ok-white-3 w ↦ before_bits bytes c.if-begins_at.start c.if-begins_at.white (take-requires-2-clause-bits c) (rw w.start-is w.past_white-start.ensures.stops)
      | else-begins_at w ↦ rw (w.start-is, w.white-is) (c.begins_at-2.ensures.none w.if-begins_at.false)
    ]
