use Rattle.vcd_body.proofs.Cited.{refl}
use Rattle.vcd_body.proofs.Facts.{keeps_twice, same_again, set_and_counted}
use Rattle.vcd_body.specs.declared.item.Form.TheVariants as form
use Rattle.vcd_body.proofs.values.table.Table.follow_by_ends.Goals as goal

pub returns-then-step-clause-sets : goal.returns-then-step-clause-sets
returns-then-step-clause-sets c = λ told size.
    let old = c.args.self.now in
    let mid = c.set_text_in.new.self in
    let new = c.count.new.self in
    let is = c.in-Some.ensures in
    record {
      keeps = keeps_twice old mid new c.set_text_in.ensures.keeps c.count.ensures.keeps;
      changes = λ laid. set_and_counted old mid new c.args.code size form.Vector c.args.text.now c.in-Some.step
          (c.set_text_in.ensures.changes laid) is.some (is.step laid size) c.if-step.true c.count.ensures.changes;
    }

pub returns-else-step-clause-sets : goal.returns-else-step-clause-sets
returns-else-step-clause-sets c = λ told size.
    let is = c.in-Some.ensures in
    record {
      keeps = record { laid = λ laid. laid; codes = refl; bytes = refl };
      changes = λ laid. same_again c.args.self.now c.args.code size c.args.text.now c.in-Some.step is.some (is.step laid size) c.if-step.false (is.same c.if-step.false laid);
    }
