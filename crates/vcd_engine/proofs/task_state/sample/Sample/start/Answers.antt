use Rattle.vcd_engine.proofs.Cited.{[], length, map, string_bytes, refl, none_settled, new_holds, room_enough}
use Rattle.vcd_engine.proofs.task_state.sample.Sample.start.Goals as goal

pub returns-clause-starts : goal.returns-clause-starts
returns-clause-starts c = λ h views. (
  record {
    held = new_holds c.args.view h c.new.result views c.new.ensures.laid (c.new.ensures.room (room_enough c.args.view h (length c.args.room.values.now) views c.requires.room.values));
    marks_lead = c.lead_on.ensures.leads h (map string_bytes c.args.names.now) views (c.in_default.ensures.marks h views);
    rising = c.requires.rising;
    done = [];
    times_are = refl;
    settled = tt;
    others = none_settled c.args.times.now;
    left = c.requires.some;
  },
  c.in_default.ensures.names h views,
)
