use Rattle.vcd_engine.proofs.Cited.{◌+◌, ◌-◌, ◌≤◌, arith, refl}
use Rattle.vcd_engine.proofs.task_state.walk.KnownLineLineMemory.after_timestamp.Goals as goal

pub returns-then-is_timestamp_line : goal.returns-then-is_timestamp_line
returns-then-is_timestamp_line c = λ from time m begun.
    let after = m.after in
    let before = m.before in
    let room : c.args.at - 1 + 2 ≤ c.args.to = omega (arith, after, before) in
    (room, m.within, c.if-is_timestamp_line.ensures refl from time m)
