use Rattle.vcd_compare.proofs.Cited.{Slices}
use Rattle.vcd_compare.proofs.Facts.{slice_entered}
use Rattle.vcd_compare.proofs.slices.enter_slice.Goals as goal

pub returns : goal.returns
returns c = λ texts list t apart has number.
    let new : Slices = record { ranges = c.enter_text.new.texts; pairs = c.insert_full.new.self } in
    slice_entered texts list (t, c.args.range.now) c.args.slices.now new
    (c.args.path, c.in_ok-number.number) c.in-Ok.index apart has number c.in_ok-number.ensures c.in-Ok.ensures.keys c.in-Ok.ensures.index
