use Rattle.vcd_head.proofs.Cited.{◌<◌, sym, subst}
use Rattle.vcd_head.proofs.Facts.{some_power}
use Rattle.vcd_head.proofs.moment.divided_up.Goals as goal

pub div_ceil-requires : goal.div_ceil-requires
div_ceil-requires c = subst (λ d. 0 < d) (sym c.in-Some.ensures.1) (some_power c.from.result)
