use Rattle.vcd_text.proofs.Facts.{HasRead}
use Rattle.vcd_text.proofs.number.decimal_of.Given as goal

abbrev pub invariant-loop-digit : goal.invariant-loop-digit
invariant-loop-digit l = HasRead l.fn.digits l.digit-index l.number
