use Rattle.vcd_body.proofs.Cited.{take}
use Rattle.vcd_body.proofs.Facts.{AreLowBy}
use Rattle.vcd_body.proofs.digits.are_lower.Given as goal

abbrev pub invariant-loop-digit : goal.invariant-loop-digit
invariant-loop-digit l = AreLowBy l.all (take l.digit-index l.digits)
