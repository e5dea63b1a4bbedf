use Rattle.vcd_engine.proofs.Facts.{takes_plan}
use Rattle.vcd_engine.proofs.task_state.TaskStateTask.take.Goals as goal

pub returns-in-Check-clause-takes : goal.returns-in-Check-clause-takes
returns-in-Check-clause-takes g c =
    let out = g.W.Sink.device c.args.out.now in
    rw c.in-Check.is (takes_plan c.args.view c.args.regs c.args.item c.args.text.now _ _ out
    (g.W.Sink.device c.take_given.new.out) c.take_given.result c.take_given.ensures.same c.take_given.ensures.takes)

pub returns-in-Pick-clause-takes : goal.returns-in-Pick-clause-takes
returns-in-Pick-clause-takes g c =
    let out = g.W.Sink.device c.args.out.now in
    rw c.in-Pick.is (takes_plan c.args.view c.args.regs c.args.item c.args.text.now _ _ out
    (g.W.Sink.device c.take_given-in-Pick.new.out)
    c.take_given-in-Pick.result c.take_given-in-Pick.ensures.same c.take_given-in-Pick.ensures.takes)

pub returns-in-Cut-clause-takes : goal.returns-in-Cut-clause-takes
returns-in-Cut-clause-takes g c =
    let out = g.W.Sink.device c.args.out.now in
    rw c.in-Cut.is (takes_plan c.args.view c.args.regs c.args.item c.args.text.now _ _ out (g.W.Sink.device c.take.new.out) c.take.result c.take.ensures.same c.take.ensures.takes)

pub returns-in-Sample-clause-takes : goal.returns-in-Sample-clause-takes
returns-in-Sample-clause-takes g c =
    let out = g.W.Sink.device c.args.out.now in
    rw c.in-Sample.is (takes_plan c.args.view c.args.regs c.args.item c.args.text.now _ _ out
    (g.W.Sink.device c.take-in-Sample.new.out) c.take-in-Sample.result c.take-in-Sample.ensures.same c.take-in-Sample.ensures.takes)

pub returns-in-Edges-clause-takes : goal.returns-in-Edges-clause-takes
returns-in-Edges-clause-takes g c =
    let out = g.W.Sink.device c.args.out.now in
    rw c.in-Edges.is (takes_plan c.args.view c.args.regs c.args.item c.args.text.now _ _ out
    (g.W.Sink.device c.take_given-in-Edges.new.out)
    c.take_given-in-Edges.result c.take_given-in-Edges.ensures.same c.take_given-in-Edges.ensures.takes)
