use Rattle.std.proofs.Common.{refl}
use Rattle.vcd_run_tests.proofs.TaskLemmas.{ticking_takes}
use Rattle.vcd_run_tests.proofs.ticking.TickingTask.take.Goals as goal

pub returns-in-Ok-clause-takes : goal.returns-in-Ok-clause-takes
returns-in-Ok-clause-takes g c = λ p h items before x views known next r read few keeps on.
    ticking_takes p items x (g.W.Sink.device c.args.out.now) (g.W.Sink.device c.put_tick.new.out) _ keeps (c.in-Ok.ensures.takes h.codes c.args._text.now x read) refl

pub returns-in-Err-clause-takes : goal.returns-in-Err-clause-takes
returns-in-Err-clause-takes g c = λ p h items before x views known next r read few keeps on.
    ticking_takes p items x (g.W.Sink.device c.args.out.now) (g.W.Sink.device c.put_tick.new.out) _ keeps (c.in-Err.ensures.takes h.codes c.args._text.now x read) tt
