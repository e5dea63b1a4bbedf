use Rattle.vcd_engine.proofs.Facts.{ahead_plan}
use Rattle.vcd_engine.proofs.task_state.TaskStateTask.take_ahead.Goals as goal

pub returns-in-Check-clause-runs : goal.returns-in-Check-clause-runs
returns-in-Check-clause-runs g c = rw c.in-Check.is (ahead_plan c.args.view c.args.ahead c.args.regs _ _ (g.W.Sink.device c.args.out.now)
    (g.W.Sink.device c.take_each.new.out) c.take_each.result c.take_each.ensures)

pub returns-in-Sample-clause-runs : goal.returns-in-Sample-clause-runs
returns-in-Sample-clause-runs g c = rw c.in-Sample.is (ahead_plan c.args.view c.args.ahead c.args.regs _ _ (g.W.Sink.device c.args.out.now)
    (g.W.Sink.device c.take_each-in-Sample.new.out) c.take_each-in-Sample.result c.take_each-in-Sample.ensures)

pub returns-in-Edges-clause-runs : goal.returns-in-Edges-clause-runs
returns-in-Edges-clause-runs g c = rw c.in-Edges.is (ahead_plan c.args.view c.args.ahead c.args.regs _ _ (g.W.Sink.device c.args.out.now)
    (g.W.Sink.device c.take_each-in-Edges.new.out) c.take_each-in-Edges.result c.take_each-in-Edges.ensures)

pub returns-in-Pick-clause-runs : goal.returns-in-Pick-clause-runs
returns-in-Pick-clause-runs g c = rw c.in-Pick.is (ahead_plan c.args.view c.args.ahead c.args.regs _ _ (g.W.Sink.device c.args.out.now)
    (g.W.Sink.device c.take_each-in-Pick.new.out) c.take_each-in-Pick.result c.take_each-in-Pick.ensures)

pub returns-then-has_begun-clause-runs : goal.returns-then-has_begun-clause-runs
returns-then-has_begun-clause-runs g c = rw c.in-Cut.is (ahead_plan c.args.view c.args.ahead c.args.regs _ _ (g.W.Sink.device c.args.out.now)
    (g.W.Sink.device c.take_each-then-has_begun.new.out) c.take_each-then-has_begun.result c.take_each-then-has_begun.ensures)

pub returns-else-has_begun-clause-runs : goal.returns-else-has_begun-clause-runs
returns-else-has_begun-clause-runs g c = rw c.in-Cut.is (ahead_plan c.args.view c.args.ahead c.args.regs _ _ (g.W.Sink.device c.args.out.now)
    (g.W.Sink.device c.take_each-else-has_begun.new.out) c.take_each-else-has_begun.result c.take_each-else-has_begun.ensures)
