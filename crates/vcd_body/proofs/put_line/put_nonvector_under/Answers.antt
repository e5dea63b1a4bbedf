use Rattle.vcd_body.proofs.Cited.{sym}
use Rattle.vcd_body.proofs.put_line.put_nonvector_under.Goals as goal

pub returns-in-Own : goal.returns-in-Own
returns-in-Own g c = λ size one. rw c.in-Own.is (c.put_nonvector.ensures size one)

pub returns-in-Number : goal.returns-in-Number
returns-in-Number g c = λ size one. rw (c.in-Number.is, sym c.of.ensures, sym c.text.ensures) (c.put_nonvector-in-Number.ensures size one)
