use Rattle.vcd_body.proofs.Cited.{arith, eqb-true}
use Rattle.vcd_body.proofs.Facts.{low_clear}
use Rattle.vcd_body.proofs.words.are_binary_at.Goals as goal

pub returns-clause-digits : goal.returns-clause-digits
returns-clause-digits c = λ e k less. c.nonbinary_32.ensures.digits k (omega (arith, c.requires.few)) (low_clear c.nonbinary_32.result c.args.n k c.requires.few (eqb-true _ _ e) less)

pub returns-clause-binary : goal.returns-clause-binary
returns-clause-binary c = λ e k less. c.nonbinary_32.ensures.binary k (omega (arith, c.requires.few)) (low_clear c.nonbinary_32.result c.args.n k c.requires.few (eqb-true _ _ e) less)
