use Rattle.vcd_engine.proofs.Cited.{refl, appends-none, room_enough}
use Rattle.vcd_engine.proofs.Facts.{new_tallied}
use Rattle.vcd_engine.proofs.task_state.edges.Edges.start.Goals as goal

pub returns-clause-starts : goal.returns-clause-starts
returns-clause-starts c = λ h out views. (
  record { body = refl; valid = tt; matched = c.in_default.ensures.names h views },
  record {
    marks_are = c.in_default.ensures.marks h views;
    tallied = new_tallied c.args.view h c.new-table.result views c.new-table.ensures.laid (c.new-table.ensures.room (room_enough c.args.view h _ views c.requires.room.values));
  },
  (appends-none out.held, refl),
)
