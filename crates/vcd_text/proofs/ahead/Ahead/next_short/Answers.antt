use Rattle.vcd_text.proofs.Cited.{arith, rules}
use Rattle.vcd_text.proofs.Facts.{run_bits}
use Rattle.vcd_text.proofs.ahead.Ahead.next_short.Goals as goal

pub take-requires-clause-bits : goal.take-requires-clause-bits
take-requires-clause-bits g c =
    let w = c.before-then-this-ne0.ensures in
    let line = c.is_two_byte_line.ensures.cr_lf c.if-not-is_two_byte_line.false (search rules) in
    run_bits 2 _ _ 2 _ line.1 (omega (arith, w.next)) w.bit w.set

pub take-requires-2-clause-bits : goal.take-requires-2-clause-bits
take-requires-2-clause-bits g c =
    let w = c.before-2.ensures in
    let line = c.is_two_byte_line.ensures.line_feed c.if-not-is_two_byte_line.false (search rules) in
    run_bits 2 _ _ 2 _ line (omega (arith, w.next)) w.bit w.set
