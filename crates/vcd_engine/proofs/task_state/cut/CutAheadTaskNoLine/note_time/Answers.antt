use Rattle.vcd_engine.proofs.Facts.{mark_before}
use Rattle.vcd_engine.proofs.task_state.cut.CutAheadTaskNoLine.note_time.Goals as goal

pub returns-clause-takes : goal.returns-clause-takes
returns-clause-takes c = λ h items few is. mark_before h items c.args.self.now c.args._time is c.requires.no_stop
