use Rattle.std.proofs.Common.{◌+◌, ◌<◌, ◌^◌, length, arith, ℕ, List, sym, subst}
use Rattle.vcd_text.specs.Ahead.{bytes_of, lines_of}
use Rattle.vcd_text.specs.Feed.{seen}
use Rattle.vcd_run.proofs.AheadSteps.{come_ahead}
use Rattle.vcd_run.proofs.run.advance_ahead.Goals as goal

pub pass_items-requires : goal.pass_items-requires
pass_items-requires g c =
    let a = c.ahead.ensures in
    let q = c.take_ahead-taken.ensures.runs.passes (lines_of c.args.feed.now) a.passed in
    (q.0, rw (sym a.limit, sym a.bytes) q.1)

pub returns-clause-steps : goal.returns-clause-steps
returns-clause-steps g c = λ p h i front items views s.
    let a = c.ahead.ensures in
    let taken = c.take_ahead-taken.result in
    let bounded = subst (λ (bs : List ℕ). seen c.args.feed.now + length bs < 2 ^ 63) (sym a.bytes) a.bounded in
    let few : length items + length (bytes_of c.ahead.result) < 2 ^ 63 = let each = s.few in omega (arith, each, bounded) in
    let all = c.take_ahead-taken.ensures.runs.gives p h (lines_of c.args.feed.now) items views s.gave.known few s.stands s.on a.passed in (
      all.0,
      come_ahead g.T.Task.keeps p h i front items c.args.task.now c.args.regs.now c.args.feed.now s c.ahead.result c.take_ahead-taken.new.self taken.regs c.pass_items.new.feed
          (g.W.Sink.device c.args.out.now) (g.W.Sink.device c.take_ahead-taken.new.out)
          taken.passed a.limit a.bytes c.pass_items.ensures.gives c.pass_items.ensures.looked taken.written all.0 all.1,
    )
