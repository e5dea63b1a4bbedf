use Rattle.vcd_body.proofs.Cited.{length, refl}
use Rattle.vcd_body.proofs.values.table.Table.follow_bits.Goals as goal

pub returns-in-Uncounted : goal.returns-in-Uncounted
returns-in-Uncounted c =
    let old = c.args.self.now in
    let new = c.add_steps.new.self in
    let k = c.add_steps.ensures.keeps in
    record {
      keeps = record { laid = λ laid. k.laid (c.step_bits_at.ensures.laid old.shares.now (length old.values.now) laid); codes = cc; bytes = cc };
      changes = λ laid. c.in-Uncounted.ensures.uncounted c.in-Uncounted.rises c.in-Uncounted.falls refl old.shares.now old.values.now new.values.now laid new.slots.now new.shares.now c.add_steps.ensures.changes;
    }
