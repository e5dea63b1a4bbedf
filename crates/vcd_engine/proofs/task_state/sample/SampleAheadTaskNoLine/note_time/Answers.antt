use Rattle.vcd_engine.proofs.Facts.{quiet_mark}
use Rattle.vcd_engine.proofs.task_state.sample.SampleAheadTaskNoLine.note_time.Goals as goal

pub returns-clause-takes : goal.returns-clause-takes
returns-clause-takes c = λ h items few is. quiet_mark c.args.self.now h items is c.args._time c.requires.no_stop
