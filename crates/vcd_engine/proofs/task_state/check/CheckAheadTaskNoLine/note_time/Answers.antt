use Rattle.vcd_engine.proofs.Cited.{◌≡◌, ◌+◌, ◌%◌, ◌^◌, refl, arith}
use Rattle.vcd_engine.proofs.Facts.{are_few, counted_time}
use Rattle.vcd_engine.proofs.task_state.check.CheckAheadTaskNoLine.note_time.Goals as goal

pub returns-clause-takes : goal.returns-clause-takes
returns-clause-takes c = λ h items few counted.
    let old = c.args.self.now in
    let n = (are_few items old counted).times in
    let e : (old.times + 1) % 2 ^ 64 ≡ old.times + 1 = omega (arith, n) in
    record { due = refl; on = refl; keeps = rw e (counted_time items old counted c.args._time) }
