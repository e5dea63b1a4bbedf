use Rattle.vcd_merge.proofs.Cited.{◌≡◌, ◌<◌, ℕ, Bool, List, true, BodyItem, Views, shown, AtSeat, Lane, Reaches, Ok, Err, refl, ap, ◌∙◌, add-zero, rules, arith, Device, stage_with, spot_with, Stop, Read, Write, Seat}
use Rattle.vcd_merge.proofs.Facts.{at_once, cut_as, ended_as, goes_on, reaches_to, run_on, stays_at, turns_after, turns_then}
use Rattle.vcd_merge.proofs.merging.take_turn.Goals.{Else-branch}
use Rattle.vcd_merge.proofs.merging.take_turn.Given.{Over}
use Rattle.vcd_merge.proofs.merging.take_turn.Goals as goal

pub items-init : goal.items-init
items-init g c = record {
  loans = record { source = refl; chunk = refl; token = refl; value = refl };
  limit = refl;
  chunk = refl;
  open_still = c.requires.open;
  failures = refl;
  further = omega arith;
  unfinished = c.requires.unfinished;
  parked = refl;
  same = record { factor = refl; first = refl };
  writes = refl;
  trail = λ scale first lane items views at. (items, at, at_once _ _ scale first lane _ _);
}

-- all of the items that lie ahead were taken
past : (g : Over) (c : Else-branch g) (scale first : ℕ) (l : Lane) (items : List BodyItem) → Views (shown c.args.head.now) l.header
    → AtSeat scale first l items (spot_with c.args.seat.now c.args.feed.now)
    → (ys : List BodyItem) × AtSeat scale first l ys (spot_with c.take_turn_ahead.new.seat c.take_turn_ahead.new.feed)
    × Reaches g.S.Source.rest g.S.Source.failures scale first l c.args.turn.before
    (stage_with items c.args.written.now c.args.seat.now c.args.feed.now (g.W.Sink.device c.args.out.now))
    (stage_with ys c.take_turn_ahead.new.written c.take_turn_ahead.new.seat c.take_turn_ahead.new.feed
    (g.W.Sink.device c.take_turn_ahead.new.out))
past g c scale first l items views at =
    let v = c.items.invariant.trail scale first l items views at in
    let ahead = rw c.if-branch.false at c.in_ok-take_turn_ahead.ensures.turns in
    let w = ahead c.args.turn.input scale first l v.0 views v.1 in
    (w.0, w.1, reaches_to v.2 w.2)

pub returns-in_err-take_turn_ahead-clause-turns : goal.returns-in_err-take_turn_ahead-clause-turns
returns-in_err-take_turn_ahead-clause-turns g c = λ scale first l items views at.
    let v = c.items.invariant.trail scale first l items views at in
    let e : c.from_residual.result ≡ Err Write = search rules in
    rw e (cut_as {B = Bool} (run_on v.2 (Err Write) (c.in_err-take_turn_ahead.ensures.turns c.args.turn.input scale first l v.0 views v.1)))

pub returns-then-branch-clause-turns : goal.returns-then-branch-clause-turns
returns-then-branch-clause-turns g c = λ scale first l items views at.
    let v = c.items.invariant.trail scale first l items views at in
    let ahead = rw c.if-branch.true at c.in_ok-take_turn_ahead.ensures.turns in
    ended_as {B = Bool} {v = true} tt (run_on v.2 (Ok true) (ahead c.args.turn.input scale first l v.0 views v.1))

pub returns-in_err-pass_on_before_read-clause-turns : goal.returns-in_err-pass_on_before_read-clause-turns
returns-in_err-pass_on_before_read-clause-turns g c = λ scale first l items views at.
    let w = past g (goal.at.returns-in_err-pass_on_before_read-clause-turns g c).Else-branch scale first l items views at in
    let e : c.from_residual-in_err-pass_on_before_read.result ≡ Err Write = search rules in
    rw e (stays_at w.2 c.args.turn.input _ _ _ c.in_err-pass_on_before_read.ensures.puts refl)

pub returns-in_err-read_item-clause-turns : goal.returns-in_err-read_item-clause-turns
returns-in_err-read_item-clause-turns g c = λ scale first l items views at.
    let w = past g (goal.at.returns-in_err-read_item-clause-turns g c).Else-branch scale first l items views at in
    let stop = c.in_err-read_item.field-0.0 in
    let e : c.from_residual-in_err-read_item.result ≡ Err stop = search rules in
    rw e (turns_then w.2 c.args.turn.input _ (spot_with c.read_item.new.seat c.read_item.new.feed) (g.W.Sink.device c.pass_on_before_read.new.out)
    (g.W.Sink.device c.read_item.new.out) (Err stop) c.in_ok-pass_on_before_read.ensures.puts
    (c.in_err-read_item.ensures.turns scale first l w.0 views w.1))

pub returns-then-seat-clause-turns : goal.returns-then-seat-clause-turns
returns-then-seat-clause-turns g c = λ scale first l items views at.
    let w = past g (goal.at.returns-then-seat-clause-turns g c).Else-branch scale first l items views at in
    turns_then w.2 c.args.turn.input _ (spot_with c.read_item.new.seat c.read_item.new.feed) (g.W.Sink.device c.pass_on_before_read.new.out)
    (g.W.Sink.device c.read_item.new.out) (Ok c.in_ok-read_item.field-0) c.in_ok-pass_on_before_read.ensures.puts
    (c.in_ok-read_item.ensures.turns scale first l w.0 views w.1)

pub items-preserved : goal.items-preserved
items-preserved g c =
    let v = c.items.invariant in
    let a = c.in_ok-take_turn_ahead.ensures.advances in
    let seat = c.in_ok-take_turn_ahead.ensures.same in
    let m = c.in_ok-read_item.ensures.moved in
    let open_still = a.goes refl v.open_still in
    let same = m.failed open_still ∙ add-zero _ in
    let early : c.read_item.new.seat.time < c.args.turn.before = omega (arith, c.if-seat-turn.false) in
    let new : Device = g.W.Sink.device c.read_item.new.out in
    record {
      loans = record {
        source = m.loans.source ∙ a.loans.source ∙ v.loans.source;
        chunk = m.loans.chunk ∙ a.loans.chunk
            ∙ v.loans.chunk;
        token = m.loans.token ∙ a.loans.token ∙ v.loans.token;
        value = m.loans.value ∙ a.loans.value ∙ v.loans.value;
      };
      limit = m.limit ∙ a.limit ∙ v.limit;
      chunk = m.chunk ∙ a.chunk ∙ v.chunk;
      open_still = m.goes open_still;
      failures = same ∙ a.same (λ e. cc) ∙ v.failures;
      further = let x = v.further in let y = m.progress c.if-seat.false in let z = a.on refl in omega (arith, x, y, z);
      unfinished = c.if-seat.false;
      parked = c.in_ok-read_item.ensures.parked ∙ ap (λ (q : Seat). q.parked) seat ∙ v.parked;
      same = record {
        factor = c.in_ok-read_item.ensures.same.factor ∙ ap (λ (q : Seat). q.factor) seat
            ∙ v.same.factor;
        first = c.in_ok-read_item.ensures.same.first ∙ ap (λ (q : Seat). q.first) seat ∙ v.same.first;
      };
      writes = c.in_ok-read_item.ensures.writes ∙ add-zero _ ∙ c.in_ok-pass_on_before_read.ensures.puts.1 ∙ c.in_ok-take_turn_ahead.ensures.counts ∙ v.writes;
      trail = λ scale first l items views at.
          let w = past g (goal.at.items-preserved g c).Else-branch scale first l items views at in
          let out2 : Device = g.W.Sink.device c.take_turn_ahead.new.out in
          goes_on g.S.Source.failures c.args.turn.input scale first l c.args.turn.before
          (stage_with items c.args.written.now c.args.seat.now c.args.feed.now (g.W.Sink.device c.args.out.now))
          w.0 c.take_turn_ahead.new.written c.read_item.new.written c.take_turn_ahead.new.seat c.read_item.new.seat c.take_turn_ahead.new.feed c.read_item.new.feed out2 new c.in_ok-read_item.field-0 c.if-seat.false early same
          (m.goes open_still) m.chunk m.limit w.2
          (turns_after {A = Unit {0}} c.args.turn.input scale first l w.0 c.take_turn_ahead.new.written c.read_item.new.written
          (spot_with c.read_item.new.seat c.read_item.new.feed) out2 (g.W.Sink.device c.pass_on_before_read.new.out) new
          (Ok c.in_ok-read_item.field-0) c.in_ok-pass_on_before_read.ensures.puts (c.in_ok-read_item.ensures.turns scale first l w.0 views w.1));
    }

pub read_item-requires-clause-open : goal.read_item-requires-clause-open
read_item-requires-clause-open g c = c.in_ok-take_turn_ahead.ensures.advances.goes refl c.items.invariant.open_still

pub returns-in_err-take_turn_ahead-clause-passed_on : goal.returns-in_err-take_turn_ahead-clause-passed_on
returns-in_err-take_turn_ahead-clause-passed_on g c = λ input is.
    let e : c.from_residual.result ≡ Err Write = search rules in
    absurd (cc)

pub returns-in_err-pass_on_before_read-clause-passed_on : goal.returns-in_err-pass_on_before_read-clause-passed_on
returns-in_err-pass_on_before_read-clause-passed_on g c = λ input is.
    let e : c.from_residual-in_err-pass_on_before_read.result ≡ Err Write = search rules in
    absurd (cc)

pub returns-in_err-read_item-clause-passed_on : goal.returns-in_err-read_item-clause-passed_on
returns-in_err-read_item-clause-passed_on g c = λ input is.
    let stop = c.in_err-read_item.field-0.0 in
    let e : c.from_residual-in_err-read_item.result ≡ Err stop = search rules in
    let named : stop ≡ Read input = cc in
    c.in_err-read_item.ensures.passed_on input (ap (λ (s : Stop). Err s) named)
