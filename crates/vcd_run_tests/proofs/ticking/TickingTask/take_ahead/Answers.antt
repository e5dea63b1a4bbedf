use Rattle.vcd_run.proofs.AheadSteps.{takes_none}
use Rattle.vcd_run_tests.specs.Plans.{ticking_plan}
use Rattle.std.proofs.Common.{◌≡◌}
use Rattle.vcd_run_tests.proofs.ticking.TickingTask.take_ahead.Goals as goal

pub returns-clause-runs : goal.returns-clause-runs
returns-clause-runs g c = takes_none (λ task p h items. p ≡ ticking_plan) c.args._view c.args._ahead c.args.regs c.args.self.now (g.W.Sink.device c.args._out.now)
