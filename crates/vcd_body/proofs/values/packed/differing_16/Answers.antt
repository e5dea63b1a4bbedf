use Rattle.vcd_body.proofs.Cited.{◌∙◌, sym, arith, get_or-chunk, length-chunk, chunk}
use Rattle.vcd_body.proofs.Facts.{clear_is, differ_bit}
use Rattle.vcd_body.proofs.values.packed.differing_16.Goals as goal

pub returns : goal.returns
returns c = λ k less none.
    let bytes = c.args.bytes.now in
    let long = length-chunk c.args.at 16 bytes (omega (arith, c.requires.within, c.requires.room)) in
    let bit = differ_bit (chunk c.args.at 16 bytes) c.packed_16-packed.result 16 long c.packed_16-packed.ensures.long (omega arith) k less in
    sym (get_or-chunk c.args.at 16 bytes k 0 less) ∙ clear_is _ _ bit none ∙ c.packed_16-packed.ensures.each k less
