use Rattle.vcd_merge.proofs.Cited.{◌+◌, ◌-◌, ◌/◌, ◌<◌, arith}
use Rattle.vcd_merge.proofs.Facts.{later_to, not_in, sooner_from}
use Rattle.vcd_merge.proofs.order.TurnOrder.index_for.Goals as goal

pub comes_before-requires : goal.comes_before-requires
comes_before-requires c =
    let (n, out, le, o, other) = c.requires.order in
    let w = (o.there (c.loop-low.low + (c.loop-low.high - c.loop-low.low) / 2) (omega arith)).within in
    record { input = omega (arith, w, le); other = c.requires.input }

pub loop-low-preserved-then-comes_before : goal.loop-low-preserved-then-comes_before
loop-low-preserved-then-comes_before c =
    let (n, out, le, o, other) = c.requires.order in record {
      order = omega arith;
      within = omega arith;
      before = sooner_from _ _ _ _ o c.args.input _ (c.comes_before.ensures.yes c.if-comes_before.true);
      after = c.loop-low.invariant.after;
    }

pub loop-low-preserved : goal.loop-low-preserved
loop-low-preserved c =
    let (n, out, le, o, other) = c.requires.order in
    let h : c.loop-low.low + (c.loop-low.high - c.loop-low.low) / 2 < c.args.self.now.len = omega arith in
    let apart = not_in c.args.seats.now n out _ c.args.input other (o.there _ h) in record {
      order = omega arith;
      within = omega arith;
      before = c.loop-low.invariant.before;
      after = later_to _ _ _ _ o c.args.input _ h (c.comes_before.ensures.no c.if-comes_before.false apart);
    }
