use Rattle.vcd_body.proofs.Cited.{length, sym, ◌∙◌, arith}
use Rattle.vcd_body.proofs.Facts.{ends_same}
use Rattle.vcd_body.proofs.values.packed.ends_differ.Goals as goal

pub returns-then-bytes-back-clause-differ : goal.returns-then-bytes-back-clause-differ
returns-then-bytes-back-clause-differ c = λ t len is size e.
    let bytes = c.args.bytes.now in
    let less = c.loop-back-test.true in
    c.if-bytes-back.true (ends_same bytes c.args.text.now len (length bytes) c.loop-back.back size (sym is)
    (omega (arith, less, c.min-back-end.ensures, c.min.ensures))
    (omega (arith, less, c.min-back-end.ensures, c.min.ensures)) c.type_inv.bytes c.type_inv.text e ∙ sym c.two_bits_of.ensures)
