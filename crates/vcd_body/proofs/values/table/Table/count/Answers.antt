use Rattle.vcd_body.proofs.Cited.{◌==◌, Bool, length, refl, subst, sym, with_step, with_steps, ChangesAt}
use Rattle.vcd_body.proofs.Facts.{change_as, one_step}
use Rattle.vcd_body.proofs.values.table.Table.count.Goals as goal

pub returns-then-not-count_in_slot-clause-keeps : goal.returns-then-not-count_in_slot-clause-keeps
returns-then-not-count_in_slot-clause-keeps c =
    let k = c.add_steps-then-not-count_in_slot.ensures.keeps in
    record { laid = λ laid. k.laid (c.count_in_slot.ensures.laid c.args.self.now.shares.now (length c.args.self.now.values.now) laid); codes = cc; bytes = k.bytes }

pub returns-then-not-count_in_slot-clause-changes : goal.returns-then-not-count_in_slot-clause-changes
returns-then-not-count_in_slot-clause-changes c =
    let t = c.args.self.now in
    let new = c.add_steps-then-not-count_in_slot.new.self in
    let way = c.way_of.result in
    let goes = c.way_of.ensures in
    let rises = goes.rises c.if-rises-falls.false in
    let falls = goes.falls c.if-rises-falls.false in
    let rest = subst (λ (b : Bool). ChangesAt c.args.code (with_steps 256 (way == 2) b) t.values.now c.count_in_slot.new.slots t.shares.now new.values.now new.slots.now new.shares.now) (sym falls)
    (subst (λ (b : Bool). ChangesAt c.args.code (with_steps 256 b c.args.falls)
    t.values.now c.count_in_slot.new.slots t.shares.now new.values.now new.slots.now new.shares.now)
    (sym rises) c.add_steps-then-not-count_in_slot.ensures.changes) in
    subst (λ (b : Bool). ChangesAt c.args.code (with_step b c.args.falls) t.values.now t.slots.now t.shares.now new.values.now new.slots.now new.shares.now) rises
    (subst (λ (b : Bool). ChangesAt c.args.code (with_step (way == 2) b) t.values.now t.slots.now t.shares.now new.values.now new.slots.now new.shares.now) falls
    (c.count_in_slot.ensures.left c.if-not-count_in_slot.true t.shares.now t.values.now new.values.now new.slots.now new.shares.now rest))

pub returns-then-rises-falls-clause-changes : goal.returns-then-rises-falls-clause-changes
returns-then-rises-falls-clause-changes c =
    let t = c.args.self.now in
    let new = c.add_steps.new.self in
    change_as c.args.code (with_steps 1 c.args.rises c.args.falls)
    (with_step c.args.rises c.args.falls) t.values.now new.values.now t.slots.now new.slots.now t.shares.now new.shares.now
    (λ k kept. one_step c.args.rises c.args.falls k) c.add_steps.ensures.changes

pub returns-else-not-count_in_slot-clause-keeps : goal.returns-else-not-count_in_slot-clause-keeps
returns-else-not-count_in_slot-clause-keeps c = record { laid = c.count_in_slot.ensures.laid c.args.self.now.shares.now (length c.args.self.now.values.now); codes = cc; bytes = refl }

pub returns-else-not-count_in_slot-clause-changes : goal.returns-else-not-count_in_slot-clause-changes
returns-else-not-count_in_slot-clause-changes c =
    let t = c.args.self.now in
    let way = c.way_of.result in
    let goes = c.way_of.ensures in
    subst (λ (b : Bool). ChangesAt c.args.code (with_step b c.args.falls)
    t.values.now t.slots.now t.shares.now t.values.now c.count_in_slot.new.slots t.shares.now) (goes.rises c.if-rises-falls.false)
    (subst (λ (b : Bool). ChangesAt c.args.code (with_step (way == 2) b) t.values.now t.slots.now t.shares.now t.values.now c.count_in_slot.new.slots t.shares.now) (goes.falls c.if-rises-falls.false)
    (c.count_in_slot.ensures.counts c.if-not-count_in_slot.false t.shares.now t.values.now))
