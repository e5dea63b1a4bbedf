use Rattle.vcd_body.proofs.Cited.{sym, ◌∙◌}
use Rattle.vcd_body.proofs.Facts.{keeps_twice, set_and_counted, some_bytes}
use Rattle.vcd_body.proofs.values.table.Table.follow_any.Goals as goal

pub returns-then-step : goal.returns-then-step
returns-then-step c = record {
  keeps = keeps_twice c.args.self.now c.set.new.self c.count.new.self c.set.ensures.sets.keeps c.count.ensures.keeps;
  changes = λ laid.
      let some = some_bytes c.args.text.now (sym c.is_empty.ensures ∙ c.if-is_empty.false) in
      set_and_counted c.args.self.now c.set.new.self c.count.new.self c.args.code c.args.size c.args.form c.args.text.now c.step_to-step.result
      (c.set.ensures.sets.changes laid) some (c.step_to-step.ensures laid some) c.if-step.true c.count.ensures.changes;
}
