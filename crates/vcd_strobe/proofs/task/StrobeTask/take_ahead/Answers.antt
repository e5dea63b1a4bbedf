use Rattle.vcd_strobe.proofs.AheadSteps.{ready_ahead, runs_ahead, same_ahead}
use Rattle.vcd_strobe.proofs.FixedSteps.{same_fixed}
use Rattle.vcd_strobe.proofs.task.StrobeTask.take_ahead.Goals as goal

pub returns-clause-runs : goal.returns-clause-runs
returns-clause-runs g c =
    let walked = c.walk_ahead-walked in
    rw (c.passed.ensures.passed, c.written.ensures) (runs_ahead c.args.view _ _ walked.result.ended walked.ensures)

pub returns-clause-ready : goal.returns-clause-ready
returns-clause-ready g c =
    let walked = c.walk_ahead-walked in
    rw c.written.ensures (ready_ahead c.args.view _ _ walked.result.ended walked.ensures)

pub returns-clause-fixed : goal.returns-clause-fixed
returns-clause-fixed g c =
    let walked = c.walk_ahead-walked in
    same_fixed _ _ (same_ahead c.args.view _ _ walked.result.ended walked.ensures)
