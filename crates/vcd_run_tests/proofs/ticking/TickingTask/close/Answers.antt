use Rattle.std.proofs.Common.{Ok, Err, Result, IfOk}
use Rattle.vcd_run_tests.proofs.ticking.TickingTask.close.Goals as goal

any_end : {A E : Type 0} (r : Result A E) → IfOk r (λ _. Unit {0})
any_end (Ok v) = tt
any_end (Err e) = tt

pub returns-clause-closes : goal.returns-clause-closes
returns-clause-closes g c = λ p h items views known keeps on. rw keeps (c.put.ensures.0, any_end c.put.result)
