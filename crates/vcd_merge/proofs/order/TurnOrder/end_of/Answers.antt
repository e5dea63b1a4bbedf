use Rattle.vcd_merge.proofs.Cited.{◌≡◌, ◌+◌, ◌-◌, length, subst, arith, IsOrder}
use Rattle.vcd_merge.proofs.Facts.{alone_before, before_last}
use Rattle.vcd_merge.proofs.order.TurnOrder.end_of.Goals as goal

pub returns-then-count-eq0 : goal.returns-then-count-eq0
returns-then-count-eq0 c = alone_before c.args.seats.now c.args.input c.args.self.now.inputs _
    (subst (IsOrder c.args.seats.now (length c.args.seats.now) c.args.input c.args.self.now.inputs) c.if-count-eq0.true c.requires.order)

pub end_before-requires : goal.end_before-requires
end_before-requires c = let w = c.requires.order.there (c.args.count - 1) (omega arith) in w.within

pub returns : goal.returns
returns c =
    let e : c.args.count ≡ c.args.count - 1 + 1 = omega arith in
    before_last c.args.seats.now c.args.input c.args.self.now.inputs (c.args.count - 1) _
    (subst (IsOrder c.args.seats.now (length c.args.seats.now) c.args.input c.args.self.now.inputs) e c.requires.order) c.end_before.ensures
