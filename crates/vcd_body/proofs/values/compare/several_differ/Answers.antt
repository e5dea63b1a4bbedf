use Rattle.vcd_body.proofs.Cited.{arith, to_ascii_lowercase, str_to_ascii_lowercase, length-map, digits_with}
use Rattle.vcd_body.proofs.Facts.{differ_at_longest}
use Rattle.vcd_body.proofs.values.compare.several_differ.Goals as goal

pub returns : goal.returns
returns c =
    let xs = digits_with c.args.held.holding c.args.held.bytes.now in
    let ys = str_to_ascii_lowercase c.args.text.now in
    let l = length-map c.args.text.now to_ascii_lowercase in
    differ_at_longest xs ys c.args.size c.max-3.result (omega (arith, c.max-3.ensures, c.count-count.ensures))
    (omega (arith, c.max.ensures, c.max-2.ensures, c.count-count.ensures, c.if-max.false)) c.are_same.result c.are_same.ensures
