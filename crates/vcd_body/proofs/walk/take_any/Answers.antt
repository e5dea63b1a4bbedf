use Rattle.vcd_body.proofs.Cited.{◌≡◌, None, false, rules, TakesOne, as_done, stage_at}
use Rattle.vcd_body.proofs.Facts.{and_done, one_taken, stands_there}
use Rattle.vcd_body.proofs.walk.take_any.Goals as goal
use Rattle.vcd_body.proofs.walk.take_any.Goals.{in-Bit+in_ok-change-in-Bit, in-Vector+in_ok-tokens-in-Vector+in_ok-taken-in-Vector, in-Real+in_ok-change-in-Real}

pub scalar_ahead-requires-clause-opens : goal.scalar_ahead-requires-clause-opens
scalar_ahead-requires-clause-opens g c = (c.args.ahead.now, c.in_ok-opening.ensures.opens)

pub take_change-taken-requires-clause-item : goal.take_change-taken-requires-clause-item
take_change-taken-requires-clause-item g c = (_, _, c.in_ok-change-in-Bit.ensures.takes c.args.ahead.now c.args.regs.now c.in_ok-opening.ensures.opens)

pub take_change-taken-requires-clause-stands : goal.take_change-taken-requires-clause-stands
take_change-taken-requires-clause-stands g c = stands_there g.V.Visit.takes g.V.Visit.stands _ _ _ _ _
    (c.in_ok-change-in-Bit.ensures.takes c.args.ahead.now c.args.regs.now c.in_ok-opening.ensures.opens) _ _ c.requires.stands

pub vector_tokens_ahead-requires-clause-opens : goal.vector_tokens_ahead-requires-clause-opens
vector_tokens_ahead-requires-clause-opens g c = (c.args.ahead.now, c.in_ok-opening.ensures.opens)

pub take_vector-requires-clause-opens : goal.take_vector-requires-clause-opens
take_vector-requires-clause-opens g c = (c.args.ahead.now, c.in_ok-tokens-in-Vector.ensures.opens c.args.ahead.now c.in_ok-opening.ensures.opens, c.requires.stands)

pub returns-in_err-take_timestamp-in-Timestamp : goal.returns-in_err-take_timestamp-in-Timestamp
returns-in_err-take_timestamp-in-Timestamp g c =
    let e : c.from_residual-in_err-take_timestamp-in-Timestamp.result ≡ None = search rules in
    record { next = rw e (c.in_err-take_timestamp-in-Timestamp.ensures (g.W.Sink.device c.args.out.now)) }

pub real_ahead-requires-clause-opens : goal.real_ahead-requires-clause-opens
real_ahead-requires-clause-opens g c = (c.args.ahead.now, c.in_ok-opening.ensures.opens)

pub take_change-taken-requires-in-Real-clause-item : goal.take_change-taken-requires-in-Real-clause-item
take_change-taken-requires-in-Real-clause-item g c = (_, _, c.in_ok-change-in-Real.ensures.takes c.args.ahead.now c.args.regs.now c.in_ok-opening.ensures.opens)

pub take_change-taken-requires-in-Real-clause-stands : goal.take_change-taken-requires-in-Real-clause-stands
take_change-taken-requires-in-Real-clause-stands g c = stands_there g.V.Visit.takes g.V.Visit.stands _ _ _ _ _
    (c.in_ok-change-in-Real.ensures.takes c.args.ahead.now c.args.regs.now c.in_ok-opening.ensures.opens) _ _ c.requires.stands

pub returns : goal.returns
returns g c =
    let one : TakesOne g.V.Visit.takes g.V.Visit.stands c.args.view
    (stage_at c.args.ahead.now c.args.regs.now c.args.visit.now c.args.command.now (g.W.Sink.device c.args.out.now))
    (stage_at c.match-opening.to c.args.regs.now c.match-opening.visit c.match-opening.command (g.W.Sink.device c.match-opening.out))
    (as_done c.match-opening.taken) = elim c.match-opening.branch [
      | in-Bit+in_ok-change-in-Bit w ↦
          let item = w.in_ok-change-in-Bit.ensures.takes c.args.ahead.now c.args.regs.now c.in_ok-opening.ensures.opens in
          let n = w.take_change-taken.ensures in
          rw (w.to-is, w.visit-is, w.command-is, w.out-is, w.taken-is)
          (one_taken g.V.Visit.takes g.V.Visit.stands _ _ _ _ _ item _ _ _ _ _ _ _ w.take_change-taken.result
          (n.takes _ _ item) n.counts n.stands)
      | in-Vector+in_ok-tokens-in-Vector+in_ok-taken-in-Vector w ↦
          rw (w.to-is, w.visit-is, w.command-is, w.out-is, w.taken-is)
          (w.in_ok-taken-in-Vector.ensures c.args.ahead.now
          (w.in_ok-tokens-in-Vector.ensures.opens c.args.ahead.now c.in_ok-opening.ensures.opens))
      | in-Real+in_ok-change-in-Real w ↦
          let item = w.in_ok-change-in-Real.ensures.takes c.args.ahead.now c.args.regs.now c.in_ok-opening.ensures.opens in
          let n = w.take_change-taken-in-Real.ensures in
          rw (w.to-is, w.visit-is, w.command-is, w.out-is, w.taken-is)
          (one_taken g.V.Visit.takes g.V.Visit.stands _ _ _ _ _ item _ _ _ _ _ _ _ w.take_change-taken-in-Real.result
          (n.takes _ _ item) n.counts n.stands)
    ] in
    record { next = rw (c.and.ensures, and_done c.match-opening.taken false) one }
