use Rattle.vcd_body.proofs.Cited.{List, length, refl, subst, ℕ, with_change, ChangesAt}
use Rattle.vcd_body.proofs.Facts.{alone}
use Rattle.vcd_body.specs.declared.item.Form.TheVariants as form
use Rattle.vcd_body.proofs.values.table.Table.follow_digits.Goals as goal

pub returns-in-Uncounted : goal.returns-in-Uncounted
returns-in-Uncounted c =
    let old = c.args.self.now in
    let new = c.add_steps.new.self in
    let k = c.add_steps.ensures.keeps in
    record {
      keeps = record { laid = λ laid. k.laid (c.step_digit_at.ensures.laid old.shares.now (length old.values.now) laid); codes = cc; bytes = cc };
      changes = λ laid. subst (λ (t : List ℕ). ChangesAt c.args.code
          (with_change c.args.size form.Vector t) old.values.now old.slots.now old.shares.now new.values.now new.slots.now new.shares.now)
          (alone c.args.text.now c.in-len1.len_at_least c.in-len1.len_below)
          (c.in-Uncounted.ensures.uncounted c.in-Uncounted.rises c.in-Uncounted.falls refl form.Vector
          (λ e. cc) c.args.size old.shares.now old.values.now new.values.now new.slots.now new.shares.now c.add_steps.ensures.changes);
    }

pub returns-else-not-follow_by_ends : goal.returns-else-not-follow_by_ends
returns-else-not-follow_by_ends c = c.follow_by_ends.ensures.sets c.if-not-follow_by_ends.false c.args.size
