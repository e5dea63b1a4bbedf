use Rattle.vcd_engine.proofs.Cited.{refl, BodyItem}
use Rattle.vcd_engine.proofs.Facts.{still_tallied}
use Rattle.vcd_engine.proofs.task_state.edges.EdgesAheadTaskNoLine.note_time.Goals as goal

pub returns-clause-takes : goal.returns-clause-takes
returns-clause-takes c = λ h items few is. record {
  due = refl;
  on = refl;
  keeps = record { marks_are = is.marks_are; tallied = still_tallied c.args.self.now.table h items (BodyItem.Time c.args._time) (λ k. refl) is.tallied };
}
