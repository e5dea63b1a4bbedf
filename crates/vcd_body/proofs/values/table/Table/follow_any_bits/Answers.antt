use Rattle.vcd_body.proofs.Facts.{keeps_twice, number_alone, number_and_counted, step_put}
use Rattle.vcd_body.proofs.values.table.Table.follow_any_bits.Goals as goal

pub returns-then-step : goal.returns-then-step
returns-then-step c = record {
  keeps = keeps_twice c.args.self.now c.set_value.new.self c.count.new.self c.set_value.ensures.sets.keeps c.count.ensures.keeps;
  changes = λ laid.
      let bits = c.args.bits in
      number_and_counted c.args.self.now c.set_value.new.self c.count.new.self c.args.code c.args.size bits.len bits.number c.step_to-step.result
      (c.set_value.ensures.sets.changes laid) (step_put _ _ bits.len bits.number c.args.size _ c.put_digits.ensures bits.some
      (c.step_to-step.ensures laid)) c.if-step.true c.count.ensures.changes;
}

pub returns-else-step : goal.returns-else-step
returns-else-step c = record {
  keeps = c.set_value.ensures.sets.keeps;
  changes = λ laid.
      let bits = c.args.bits in
      number_alone c.args.self.now c.set_value.new.self c.args.code c.args.size bits.len bits.number c.step_to-step.result
      (c.set_value.ensures.sets.changes laid) (step_put _ _ bits.len bits.number c.args.size _ c.put_digits.ensures bits.some
      (c.step_to-step.ensures laid)) c.if-step.false;
}
