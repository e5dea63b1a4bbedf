use Rattle.vcd_body.proofs.Cited.{◌∙◌, ap, get_or-chunk, length-chunk, chunk, bit_of}
use Rattle.vcd_body.proofs.Facts.{ones_bits, ones_few}
use Rattle.vcd_body.proofs.words.ones_32.Goals as goal

pub returns-clause-few : goal.returns-clause-few
returns-clause-few c = ones_few (chunk c.args.at 32 c.args.bytes.now)

pub returns-clause-bits : goal.returns-clause-bits
returns-clause-bits c = λ k less.
    ones_bits (chunk c.args.at 32 c.args.bytes.now) k (length-chunk c.args.at 32 c.args.bytes.now c.requires) less
    ∙ ap bit_of (get_or-chunk c.args.at 32 c.args.bytes.now k 0 less)
