use Rattle.vcd_engine.proofs.Cited.{refl, BodyItem, names_in}
use Rattle.vcd_engine.proofs.Facts.{none_due, picks_still}
use Rattle.vcd_engine.proofs.task_state.pick.PickAheadTaskKnownLine.note_time.Goals as goal

pub returns-clause-takes : goal.returns-clause-takes
returns-clause-takes c = λ h items few picked.
    let p = c.args.self.now in
    let x = BodyItem.Time c.args._time in
    record { due = none_due h (names_in p) items x refl; on = refl; keeps = picks_still h items p picked x refl }
