use Rattle.vcd_body.proofs.Cited.{refl, with_text}
use Rattle.vcd_body.proofs.Facts.{no_share_there, no_slot_there}
use Rattle.vcd_body.proofs.values.table.Table.set_text.Goals as goal
use Rattle.vcd_body.proofs.values.table.Table.set_text.Goals.{else-code-self-via-then-code-self+else-code-self-2, else-code-self-via-else-code-self}

pub returns-else-code-self : goal.returns-else-code-self
returns-else-code-self c = record {
  keeps = record { laid = λ laid. laid; codes = refl; bytes = refl };
  changes = λ laid. elim c.else-code-self.branch [
    | else-code-self-via-then-code-self+else-code-self-2 w ↦ no_share_there c.args.self.now.values.now c.args.self.now.slots.now c.args.self.now.shares.now c.args.code
        (with_text c.args.form c.args.text.now) w.if-code-self-2.false
    | else-code-self-via-else-code-self w ↦ no_slot_there c.args.self.now.values.now c.args.self.now.slots.now c.args.self.now.shares.now c.args.code
        (with_text c.args.form c.args.text.now) w.if-code-self.false
  ];
}
