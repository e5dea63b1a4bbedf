use Rattle.vcd_merge.proofs.Cited.{◌≡◌, ◌+◌, ◌-◌, length, subst, arith, IsOrder}
use Rattle.vcd_merge.proofs.Facts.{last_is_next, others_wait}
use Rattle.vcd_merge.proofs.order.TurnOrder.take_next.Goals as goal

pub end_of-requires-clause-order : goal.end_of-requires-clause-order
end_of-requires-clause-order c =
    let e : c.args.self.now.len ≡ c.args.self.now.len - 1 + 1 = omega arith in
    others_wait c.args.seats.now c.args.self.now.inputs (c.args.self.now.len - 1)
    (subst (IsOrder c.args.seats.now (length c.args.seats.now) (length c.args.seats.now) c.args.self.now.inputs) e c.requires.order)

pub returns-clause-next : goal.returns-clause-next
returns-clause-next c =
    let e : c.args.self.now.len ≡ c.args.self.now.len - 1 + 1 = omega arith in
    last_is_next c.args.seats.now c.args.self.now.inputs (c.args.self.now.len - 1)
    (subst (IsOrder c.args.seats.now (length c.args.seats.now) (length c.args.seats.now) c.args.self.now.inputs) e c.requires.order)

pub returns-clause-before : goal.returns-clause-before
returns-clause-before c = λ t l. c.end_of.ensures t (let least = c.min-before.ensures in omega (arith, l, least))

pub returns-clause-others : goal.returns-clause-others
returns-clause-others c =
    let e : c.args.self.now.len ≡ c.args.self.now.len - 1 + 1 = omega arith in
    others_wait c.args.seats.now c.args.self.now.inputs (c.args.self.now.len - 1)
    (subst (IsOrder c.args.seats.now (length c.args.seats.now) (length c.args.seats.now) c.args.self.now.inputs) e c.requires.order)
