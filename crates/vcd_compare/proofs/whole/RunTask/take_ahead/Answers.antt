use Rattle.vcd_compare.proofs.Cited.{Run, refl}
use Rattle.vcd_compare.proofs.Facts.{ready_ahead, runs_ahead}
use Rattle.vcd_compare.proofs.whole.RunTask.take_ahead.Goals as goal

pub returns-clause-runs : goal.returns-clause-runs
returns-clause-runs g c =
    let walked = c.walk_ahead-walked.result in
    let run : Run = record { comparison = c.walk_ahead-walked.new.command; watched = walked.visit; differs = c.args.self.now.differs; last = c.args.self.now.last } in
    rw c.passed.ensures.passed (runs_ahead c.args.view c.args.ahead walked.ahead c.args.regs walked.regs c.args.self.now run _ _ walked.ended c.walk_ahead-walked.ensures refl)

pub returns-clause-ready : goal.returns-clause-ready
returns-clause-ready g c =
    let walked = c.walk_ahead-walked.result in
    let run : Run = record { comparison = c.walk_ahead-walked.new.command; watched = walked.visit; differs = c.args.self.now.differs; last = c.args.self.now.last } in
    ready_ahead c.args.view c.args.ahead walked.ahead c.args.regs walked.regs c.args.self.now run _ _ walked.ended c.walk_ahead-walked.ensures
