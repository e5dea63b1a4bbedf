use Rattle.vcd_body.proofs.Cited.{◌∙◌, arith, get_or-put_chunk_at, get_or-put_chunk_below}
use Rattle.vcd_body.proofs.values.packed.pack_16.Goals as goal

pub returns-clause-packed : goal.returns-clause-packed
returns-clause-packed c = λ k less.
    let long = c.packed_16.ensures.long in
    get_or-put_chunk_at c.args.at c.args.bytes.now c.packed_16.result k 0 (omega (arith, long, less)) (omega (arith, long, c.requires.within, c.requires.room))
    ∙ c.packed_16.ensures.each k less

pub returns-clause-before : goal.returns-clause-before
returns-clause-before c = λ position before. get_or-put_chunk_below c.args.at c.args.bytes.now c.packed_16.result position 0 before
