use Rattle.vcd_compare.proofs.Facts.{ranged_place}
use Rattle.vcd_compare.proofs.counterparts.same_range.Goals as goal

pub returns : goal.returns
returns c = λ q h n texts j v finds nth at.
    ranged_place q h n texts c.args.variables.now c.args.places.now c.args.index j v c.key_at-slice.result c.key_at-path.result c.place_at.result c.looked_up-place.result c.looked_up.result finds nth at
    c.key_at-slice.ensures c.key_at-path.ensures c.place_at.ensures c.looked_up-place.ensures c.looked_up.ensures
