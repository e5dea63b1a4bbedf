use Rattle.vcd_merge.proofs.Cited.{◌≡◌, ◌+◌, ◌∙◌, ap, refl, length, Err, rules, arith, inr, add-zero, slice_get_within, standing, Stop, Read, Write, Ok}
use Rattle.vcd_merge.proofs.Facts.{TookTurn, has_ended, none_waiting, others_stay, some_waits, was_cut, was_stopped, went_on}
use Rattle.vcd_merge.specs.Order.{AllWait}
use Rattle.vcd_merge.proofs.merge_steps.run_step.Given.{Over}
use Rattle.vcd_merge.proofs.merge_steps.run_step.Goals.{After-join, In_ok-run_turn}
use Rattle.vcd_merge.proofs.merge_steps.run_step.Goals as goal

-- the turn that was taken
took : (g : Over) (c : In_ok-run_turn g) → TookTurn {A = Unit {0}} g.S.Source.rest g.S.Source.failures
    (standing c.args.heads.now c.args.seats.now c.args.written.now c.args.sources.now c.args.windows.now)
    (standing c.args.heads.now c.run_turn.new.seats c.run_turn.new.written c.run_turn.new.sources c.run_turn.new.windows)
    c.take_next-next.result.input c.take_next-next.result.before c.args.order.now.until (g.W.Sink.device c.args.out.now)
    (g.W.Sink.device c.run_turn.new.out) (Ok c.in_ok-run_turn.field-0)
took g c =
    let en = c.in_ok-run_turn.ensures in
    let next = c.take_next-next.ensures in
    record { ready = c.requires.ready; next = next.next; early = next.before; within = next.until; heads = refl; sources = en.sources; touches = en.touches; turns = en.turns }

-- all that have not finished wait again
waiting : (g : Over) (c : After-join g) → AllWait c.run_turn.new.seats c.join.new.self.inputs c.join.new.self.len
waiting g c =
    let next = c.take_next-next.ensures in
    let en = c.in_ok-run_turn.ensures in
    let w = slice_get_within c.args.seats.now c.take_next-next.result.input next.next.seat next.next.there in
    let e = en.touches.seats in
    c.join.ensures.back (length c.run_turn.new.seats)
    (others_stay c.args.seats.now c.run_turn.new.seats c.take_next-next.result.input c.take_next-next.new.self.inputs c.take_next-next.new.self.len e en.kept next.others)
    (omega (arith, w, e))

pub take_next-next-requires-clause-some : goal.take_next-next-requires-clause-some
take_next-next-requires-clause-some g c =
    let n = c.requires.ready.some.1 in
    let within = slice_get_within c.args.seats.now c.requires.ready.some.0 n.seat n.there in
    let waits = c.requires.order.all c.requires.ready.some.0 (record { within = within; other = λ e. omega (arith, within, e); seat = n.seat; there = n.there; unfinished = n.unfinished }) in
    let place = waits.1 in
    omega (arith, place)

pub run_turn-requires-clause-input : goal.run_turn-requires-clause-input
run_turn-requires-clause-input g c = let next = c.take_next-next.ensures.next in slice_get_within c.args.seats.now c.take_next-next.result.input next.seat next.there

pub join-requires-clause-input : goal.join-requires-clause-input
join-requires-clause-input g c =
    let next = c.take_next-next.ensures.next in
    let w = slice_get_within c.args.seats.now c.take_next-next.result.input next.seat next.there in
    let e = c.in_ok-run_turn.ensures.touches.seats in
    omega (arith, w, e)

pub join-requires-clause-order : goal.join-requires-clause-order
join-requires-clause-order g c = (
  length c.run_turn.new.seats,
  c.take_next-next.result.input,
  omega arith,
  others_stay c.args.seats.now c.run_turn.new.seats c.take_next-next.result.input c.take_next-next.new.self.inputs c.take_next-next.new.self.len c.in_ok-run_turn.ensures.touches.seats c.in_ok-run_turn.ensures.kept c.take_next-next.ensures.others,
  inr refl,
)

pub returns-then-not-is_empty-clause-order : goal.returns-then-not-is_empty-clause-order
returns-then-not-is_empty-clause-order g c = λ again. waiting g (goal.at.returns-then-not-is_empty-clause-order g c).After-join

pub returns-in_err-run_turn-clause-runs : goal.returns-in_err-run_turn-clause-runs
returns-in_err-run_turn-clause-runs g c =
    let stop = c.in_err-run_turn.field-0.0 in
    let e : c.from_residual.result ≡ Err stop = search rules in
    let en = c.in_err-run_turn.ensures in
    let next = c.take_next-next.ensures in
    rw e (was_stopped {A = Unit {0}} {k = c.take_next-next.result.input} {before = c.take_next-next.result.before} stop
    (record { ready = c.requires.ready; next = next.next; early = next.before; within = next.until; heads = refl; sources = en.sources; touches = en.touches; turns = en.turns }))

pub returns-then-not-is_empty-clause-runs : goal.returns-then-not-is_empty-clause-runs
returns-then-not-is_empty-clause-runs g c =
    let at = goal.at.returns-then-not-is_empty-clause-runs g c in
    let en = c.in_ok-run_turn.ensures in
    went_on (took g at.In_ok-run_turn) en.seated (some_waits c.run_turn.new.seats c.join.new.self.inputs c.join.new.self.len
    (waiting g at.After-join) (c.is_empty.ensures.some c.if-not-is_empty.true)) en.left

pub returns-in_err-put_end-clause-runs : goal.returns-in_err-put_end-clause-runs
returns-in_err-put_end-clause-runs g c =
    let at = goal.at.returns-in_err-put_end-clause-runs g c in
    let close = c.in_err-put_end.ensures in
    let all = none_waiting c.run_turn.new.seats c.join.new.self.inputs c.join.new.self.len (waiting g at.After-join) (c.is_empty.ensures.none c.if-not-is_empty.false) in
    let e : c.from_residual-in_err-put_end.result ≡ Err Write = search rules in
    rw e (was_cut (took g at.In_ok-run_turn) all _ (close.counts ∙ ap (λ n. n + 1) (c.in_ok-run_turn.ensures.touches.writes ∙ add-zero _))
    (λ hs es marked w. (close.takes hs es marked w, close.counts)))

pub returns-clause-runs : goal.returns-clause-runs
returns-clause-runs g c =
    let at = goal.at.returns-clause-runs g c in
    let close = c.in_ok-put_end.ensures in
    let all = none_waiting c.run_turn.new.seats c.join.new.self.inputs c.join.new.self.len (waiting g at.After-join) (c.is_empty.ensures.none c.if-not-is_empty.false) in
    has_ended (took g at.In_ok-run_turn) all _ (close.counts ∙ c.in_ok-run_turn.ensures.touches.writes) (λ hs es marked w. (close.takes hs es marked w, close.counts))

pub returns-in_err-run_turn-clause-last : goal.returns-in_err-run_turn-clause-last
returns-in_err-run_turn-clause-last g c = λ input is.
    let stop = c.in_err-run_turn.field-0.0 in
    let e : c.from_residual.result ≡ Err stop = search rules in
    let named : stop ≡ Read input = cc in
    c.in_err-run_turn.ensures.last input (ap (λ (s : Stop). Err s) named)

pub returns-in_err-run_turn-clause-passed_on : goal.returns-in_err-run_turn-clause-passed_on
returns-in_err-run_turn-clause-passed_on g c = λ input is.
    let stop = c.in_err-run_turn.field-0.0 in
    let e : c.from_residual.result ≡ Err stop = search rules in
    let named : stop ≡ Read input = cc in
    c.in_err-run_turn.ensures.passed_on input (ap (λ (s : Stop). Err s) named)
