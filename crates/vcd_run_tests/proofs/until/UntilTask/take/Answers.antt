use Rattle.vcd_run_tests.proofs.TaskLemmas.{until_takes}
use Rattle.vcd_run_tests.proofs.until.UntilTask.take.Goals as goal

pub returns-clause-takes : goal.returns-clause-takes
returns-clause-takes g c = λ p h items before x views known next r read few keeps on.
    until_takes c.args.self.now.until p items x (g.W.Sink.device c.args._out.now) c.is_past.result keeps (c.is_past.ensures h.codes c.args._text.now x read) on
