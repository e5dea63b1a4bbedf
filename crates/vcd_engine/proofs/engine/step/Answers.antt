use Rattle.vcd_engine.proofs.Cited.{ap, refl, Request}
use Rattle.vcd_model.specs.Bound.{RoomSize}
use Rattle.vcd_engine.proofs.Facts.{runs_plan, step_plan}
use Rattle.vcd_engine.proofs.engine.step.Goals as goal

pub returns-clause-gives : goal.returns-clause-gives
returns-clause-gives g c = λ h i front items s.
    let e = c.args.engine.now in
    let same = ap (λ (q : Request × RoomSize). q.0) c.step-stepped.ensures.fixed in
    step_plan h i front items c.args.feed.now c.step-stepped.new.feed (g.W.Sink.device c.args.out.now) (g.W.Sink.device c.step-stepped.new.out) e
    (record { view = e.view; regs = c.step-stepped.new.regs; task_state = c.step-stepped.new.task; going = c.goes_on-engine.result })
    c.step-stepped.result s refl same
    (c.step-stepped.ensures.steps _ h i front items s.holds.views (runs_plan e h i front items c.args.feed.now s))

pub returns-clause-over : goal.returns-clause-over
returns-clause-over g c =
    let over = c.step-stepped.ensures.over in
    let fixed = c.step-stepped.ensures.fixed in
    record {
      advances = over.advances;
      progress = over.progress;
      bounded = over.bounded;
      writes = over.writes;
      going = c.goes_on-engine.ensures;
      request = ap (λ (q : Request × RoomSize). q.0) fixed;
      holds = (refl, ap (λ (q : Request × RoomSize). q.1) fixed);
      answer = c.step-stepped.ensures.early;
    }
