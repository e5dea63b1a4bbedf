use Rattle.vcd_compare.proofs.Cited.{◌++◌}
use Rattle.vcd_compare.proofs.Facts.{entering_more}
use Rattle.vcd_compare.proofs.paths.enter_path.Goals as goal

pub loop-part-preserved : goal.loop-part-preserved
loop-part-preserved c = λ texts has l.
    let e = c.loop-part.invariant texts has l in
    entering_more texts c.args.around c.args.name.now c.loop-part.paths c.enter_part.new.paths c.loop-part.number c.in_ok-number.number c.loop-part.rest.now c.in-Some.part.now c.in-Some.more.now e c.in-Some.ensures.some
    (c.in_ok-number.ensures (texts ++ e.more) e.has e.within c.in-Some.ensures.first)
