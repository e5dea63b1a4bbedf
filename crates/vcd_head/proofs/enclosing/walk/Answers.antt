use Rattle.vcd_head.proofs.Cited.{arith}
use Rattle.vcd_head.proofs.Facts.{walk_first, walk_next, walk_ends, walk_stops}
use Rattle.vcd_head.proofs.enclosing.walk.Goals as goal

pub loop-passed-init : goal.loop-passed-init
loop-passed-init c = λ h v l. walk_first h c.args.row c.args.rows.now l (omega arith)

pub loop-passed-preserved : goal.loop-passed-preserved
loop-passed-preserved c = λ h v l.
    let w = c.loop-passed.invariant h v l in
    walk_next h c.args.row c.loop-passed.rows c.loop-passed.passed c.loop-passed.scope c.in-Some.outer w (c.in-Some.ensures.scope h v w.within)

pub returns-in_default-clause-walks : goal.returns-in_default-clause-walks
returns-in_default-clause-walks c = λ h v l.
    let w = c.loop-passed.invariant h v l in
    walk_ends h c.args.row c.args.most c.loop-passed.rows c.loop-passed.passed c.loop-passed.scope w (c.in_default.ensures.scope h v w.within) c.loop-passed-test.true

pub returns-clause-walks : goal.returns-clause-walks
returns-clause-walks c = λ h v l. walk_stops h c.args.row c.args.most c.loop-passed.rows c.loop-passed.passed c.loop-passed.scope (c.loop-passed.invariant h v l) (omega arith)
