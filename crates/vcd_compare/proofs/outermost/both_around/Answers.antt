use Rattle.vcd_compare.proofs.Cited.{arith, texts_in}
use Rattle.vcd_compare.proofs.Facts.{around_apart, around_both, around_first, around_second, consists}
use Rattle.vcd_compare.proofs.outermost.both_around.Goals as goal
use Rattle.vcd_compare.proofs.outermost.both_around.Goals.{then-one-eq0-via-then-one-eq0, then-one-eq0-via-else-one-eq0+then-one-pair, then-one-eq0-via-else-one-eq0+else-one-pair+then-other-eq0, then-one-eq0-via-else-one-eq0+else-one-pair+else-other-eq0+then-part-last}

pub returns-then-one-eq0-clause-around : goal.returns-then-one-eq0-clause-around
returns-then-one-eq0-clause-around c = λ texts n has is.
    let parts = texts_in c.args.paths.now.parts in
    let nodes = c.args.paths.now.nodes.keys in
    let pair = c.args.pair in
    let one = c.node_at-one.result in
    let other = c.node_at-other.result in
    let a = consists parts nodes texts has pair.0 n.0 one is.0 c.node_at-one.ensures in
    let b = consists parts nodes texts has pair.1 n.1 other is.1 c.node_at-other.ensures in
    elim c.then-one-eq0.branch [
      | then-one-eq0-via-then-one-eq0 w ↦ around_first parts nodes texts has pair n one other a b w.if-one-eq0.true
      | then-one-eq0-via-else-one-eq0+then-one-pair w ↦ let below = a.below in absurd (omega (arith, below))
      | then-one-eq0-via-else-one-eq0+else-one-pair+then-other-eq0 w ↦ around_second parts nodes texts has pair n one other a b w.if-other-eq0.true
      | then-one-eq0-via-else-one-eq0+else-one-pair+else-other-eq0+then-part-last w ↦ around_apart parts nodes texts has pair n one other a b w.if-one-eq0.false w.if-other-eq0.false w.if-part-last.true
    ]

pub returns-clause-around : goal.returns-clause-around
returns-clause-around c = λ texts n has is.
    let parts = texts_in c.args.paths.now.parts in
    let nodes = c.args.paths.now.nodes.keys in
    let pair = c.args.pair in
    let one = c.node_at-one.result in
    let other = c.node_at-other.result in
    around_both parts nodes texts has pair n one other (consists parts nodes texts has pair.0 n.0 one is.0 c.node_at-one.ensures)
    (consists parts nodes texts has pair.1 n.1 other is.1 c.node_at-other.ensures) c.if-one-eq0.false c.if-other-eq0.false c.if-part-last.false
