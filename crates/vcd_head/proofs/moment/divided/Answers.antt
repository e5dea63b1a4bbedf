use Rattle.vcd_head.proofs.Cited.{◌<◌, sym, subst}
use Rattle.vcd_head.proofs.Facts.{some_power}
use Rattle.vcd_head.proofs.moment.divided.Goals as goal

pub nonzero_div-result : goal.nonzero_div-result
nonzero_div-result c = subst (λ d. 0 < d) (sym c.in-Some.ensures.1) (some_power c.from.result)
