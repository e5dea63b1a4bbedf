use Rattle.vcd_engine.proofs.Cited.{subst, Keeps, TaskState}
use Rattle.vcd_engine.proofs.Facts.{closes_plan}
use Rattle.vcd_engine.proofs.task_state.TaskStateTask.close.Goals as goal

pub returns-in-Check-clause-closes : goal.returns-in-Check-clause-closes
returns-in-Check-clause-closes g c =
    closes_plan c.args.view c.args.regs c.args.self.now (g.W.Sink.device c.args.out.now) (g.W.Sink.device c.close.new.out) c.close.result
    (λ h items views known last keeps. rw c.in-Check.is (c.close.ensures.takes h items views last (subst (λ (m : TaskState). Keeps m h items) c.in-Check.is keeps)))

pub returns-in-Pick-clause-closes : goal.returns-in-Pick-clause-closes
returns-in-Pick-clause-closes g c =
    closes_plan c.args.view c.args.regs c.args.self.now (g.W.Sink.device c.args.out.now) (g.W.Sink.device c.close-in-Pick.new.out) c.close-in-Pick.result
    (λ h items views known last keeps. rw c.in-Pick.is (c.close-in-Pick.ensures.takes h items known last (subst (λ (m : TaskState). Keeps m h items) c.in-Pick.is keeps)))

pub returns-in-Cut-clause-closes : goal.returns-in-Cut-clause-closes
returns-in-Cut-clause-closes g c =
    closes_plan c.args.view c.args.regs c.args.self.now (g.W.Sink.device c.args.out.now) (g.W.Sink.device c.close-in-Cut.new.out) c.close-in-Cut.result
    (λ h items views known last keeps. rw c.in-Cut.is (c.close-in-Cut.ensures.takes h items views known last (subst (λ (m : TaskState). Keeps m h items) c.in-Cut.is keeps)))

pub returns-in-Sample-clause-closes : goal.returns-in-Sample-clause-closes
returns-in-Sample-clause-closes g c =
    closes_plan c.args.view c.args.regs c.args.self.now (g.W.Sink.device c.args.out.now) (g.W.Sink.device c.close-in-Sample.new.out) c.close-in-Sample.result
    (λ h items views known last keeps. rw c.in-Sample.is (c.close-in-Sample.ensures.takes h items views (subst (λ (m : TaskState). Keeps m h items) c.in-Sample.is keeps)))

pub returns-in-Edges-clause-closes : goal.returns-in-Edges-clause-closes
returns-in-Edges-clause-closes g c =
    closes_plan c.args.view c.args.regs c.args.self.now (g.W.Sink.device c.args.out.now) (g.W.Sink.device c.close-in-Edges.new.out) c.close-in-Edges.result
    (λ h items views known last keeps. rw c.in-Edges.is (c.close-in-Edges.ensures.takes h items views (subst (λ (m : TaskState). Keeps m h items) c.in-Edges.is keeps)))
