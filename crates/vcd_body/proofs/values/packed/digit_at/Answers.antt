use Rattle.vcd_body.proofs.Cited.{sym, ap, Some, ◌∙◌, digit_of}
use Rattle.vcd_body.proofs.Facts.{digit_among, none_behind}
use Rattle.vcd_body.proofs.values.packed.digit_at.Goals as goal

pub returns-then-index-len : goal.returns-then-index-len
returns-then-index-len c = sym (none_behind c.args.len c.args.bytes.now c.args.index c.if-index-len.true)

pub returns : goal.returns
returns c =
    ap (λ d. Some d) (c.digit_of.ensures ∙ ap digit_of c.two_bits_at.ensures)
    ∙ sym (digit_among c.args.len c.args.bytes.now c.args.index c.if-index-len.false)
