use Rattle.vcd_body.proofs.Cited.{with_text, with_value}
use Rattle.vcd_body.proofs.Facts.{change_as, set_value}
use Rattle.vcd_body.proofs.values.table.Table.set.Goals as goal

pub returns-clause-sets : goal.returns-clause-sets
returns-clause-sets c =
    let old = c.args.self.now in
    let new = c.set_value.new.self in
    let is = c.set_value.ensures.sets in
    record {
      keeps = is.keeps;
      changes = λ laid. change_as c.args.code (with_value c.of_text.result)
          (with_text c.args.form c.args.text.now) old.values.now new.values.now old.slots.now new.slots.now old.shares.now new.shares.now
          (λ k at. c.of_text.ensures.sets k) (is.changes laid);
    }

pub returns-clause-value : goal.returns-clause-value
returns-clause-value c = λ laid code k good event is most.
    let old = c.args.self.now in
    let new = c.set_value.new.self in
    let sets = returns-clause-sets c in
    set_value old.values.now new.values.now old.slots.now new.slots.now old.shares.now new.shares.now c.args.code c.args.form c.args.text.now code k (sets.changes laid) good event is most
