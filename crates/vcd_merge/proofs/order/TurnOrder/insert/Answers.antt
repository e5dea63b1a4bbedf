use Rattle.vcd_merge.proofs.Cited.{◌+◌, arith}
use Rattle.vcd_merge.proofs.Facts.{moved_behind, put_in, with_one}
use Rattle.vcd_merge.proofs.order.TurnOrder.insert.Goals as goal

pub returns-clause-back : goal.returns-clause-back
returns-clause-back c = λ n o within.
    let (x, here, going) = c.requires.unfinished in
    let b = c.copy_within.ensures in
    let m = moved_behind c.args.self.now.inputs c.copy_within.new.self c.index_for-index.result c.args.self.now.len c.args.input c.index_for-index.ensures.within
    (omega arith) b.len b.by_index.1 b.by_index.0 in
    put_in c.args.seats.now c.args.input x here n c.args.input n _ _ going within (λ j h. h) (λ j h other. (h, other))
    (with_one _ _ _ _ o c.args.input _ c.index_for-index.result c.index_for-index.ensures.within m.below m.here m.above c.index_for-index.ensures.before c.index_for-index.ensures.after)

pub returns-clause-last : goal.returns-clause-last
returns-clause-last c = λ o.
    let (x, here, going) = c.requires.unfinished in
    let b = c.copy_within.ensures in
    let m = moved_behind c.args.self.now.inputs c.copy_within.new.self c.index_for-index.result c.args.self.now.len c.args.input c.index_for-index.ensures.within
    (omega arith) b.len b.by_index.1 b.by_index.0 in
    put_in c.args.seats.now c.args.input x here c.args.input c.args.input (c.args.input + 1) _ _ going (omega arith) (λ j h. omega (arith, h)) (λ j h other. (omega (arith, h, other), other))
    (with_one _ _ _ _ o c.args.input _ c.index_for-index.result c.index_for-index.ensures.within m.below m.here m.above c.index_for-index.ensures.before c.index_for-index.ensures.after)
