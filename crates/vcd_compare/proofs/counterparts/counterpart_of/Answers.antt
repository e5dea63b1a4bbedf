use Rattle.vcd_compare.proofs.Facts.{lone_place, ranged_first}
use Rattle.vcd_compare.proofs.counterparts.counterpart_of.Goals as goal

pub returns-in-Some : goal.returns-in-Some
returns-in-Some c = λ q h n texts j v finds nth at. ranged_first h n v c.in-Some.found (c.in-Some.ensures q h n texts j v finds nth at)

pub returns-in-None : goal.returns-in-None
returns-in-None c = λ q h n texts j v finds nth at. lone_place h n v c.lone_counterpart.result (c.in-None.ensures q h n texts j v finds nth at)
    (c.lone_counterpart.ensures q h n texts j v finds nth at)
