use Rattle.vcd_body.proofs.Cited.{◌∙◌, arith}
use Rattle.vcd_body.proofs.Facts.{front_bit, front_fits}
use Rattle.vcd_body.proofs.words.binary_number_at.Goals as goal

pub returns-clause-fits : goal.returns-clause-fits
returns-clause-fits c = front_fits c.ones_32.result c.args.n c.requires.few c.ones_32.ensures.few

pub returns-clause-bits : goal.returns-clause-bits
returns-clause-bits c = λ k less.
    front_bit c.ones_32.result c.args.n k c.requires.few less
    ∙ c.ones_32.ensures.bits k (omega (arith, c.requires.few))
