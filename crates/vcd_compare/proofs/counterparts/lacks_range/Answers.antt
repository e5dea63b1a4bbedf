use Rattle.vcd_compare.proofs.Cited.{range_of}
use Rattle.vcd_compare.proofs.Facts.{range_number}
use Rattle.vcd_compare.proofs.counterparts.lacks_range.Goals as goal

pub returns : goal.returns
returns c = λ h texts v are nth.
    c.is_empty_at.ensures
    (range_of v.variable)
    (range_number h texts c.args.variables.now are c.args.index v c.key_at-slice.result c.key_at-range.result nth c.key_at-slice.ensures c.key_at-range.ensures)
