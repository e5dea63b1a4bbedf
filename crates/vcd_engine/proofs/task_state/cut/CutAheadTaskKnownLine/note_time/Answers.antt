use Rattle.vcd_engine.proofs.Facts.{mark_within}
use Rattle.vcd_engine.proofs.task_state.cut.CutAheadTaskKnownLine.note_time.Goals as goal

pub returns-clause-takes : goal.returns-clause-takes
returns-clause-takes c = λ h items few is. mark_within h items c.args.self.now c.args._time is c.requires.ready c.requires.no_stop
