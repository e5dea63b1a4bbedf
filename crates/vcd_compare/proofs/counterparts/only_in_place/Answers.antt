use Rattle.vcd_compare.proofs.Cited.{IsCounterpart, replaced, subst}
use Rattle.vcd_compare.proofs.Facts.{only_none}
use Rattle.vcd_compare.proofs.counterparts.only_in_place.Goals as goal

pub returns-in-Some : goal.returns-in-Some
returns-in-Some c = λ h n texts t are is. c.only_at.ensures h texts (replaced n t) are (subst (IsCounterpart texts n t) c.in-Some.is is)

pub returns-in-None : goal.returns-in-None
returns-in-None c = λ h n texts t are is. only_none h texts c.args.variables.now are (replaced n t) (subst (IsCounterpart texts n t) c.in-None.is is)
