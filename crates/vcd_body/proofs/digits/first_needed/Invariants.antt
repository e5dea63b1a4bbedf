use Rattle.vcd_body.proofs.Cited.{◌-◌, Serves}
use Rattle.vcd_body.proofs.digits.first_needed.Given as goal

abbrev pub invariant-digits : goal.invariant-digits
invariant-digits g l = Serves l.from (g.D.Digits.digits l.fn.digits)

abbrev pub decreases-digits : goal.decreases-digits
decreases-digits g l = l.count - l.from
