use Rattle.vcd_body.proofs.Cited.{arith}
use Rattle.vcd_body.proofs.Facts.{front_there, if_some_more}
use Rattle.vcd_body.proofs.lines.left_out_of_front.Goals as goal

pub returns : goal.returns
returns c =
    let s = c.requires.spelled.2 in
    let ends = s.3.ends in
    let inside = s.3.within in
    if_some_more c.left_out_of_text.result (λ k p.
    let line = p.4 s.0 s.1 ends c.requires.binary in
    let f = front_there c.args.scanned.bytes.now c.args.scanned.begin c.args.scanned.end k c.args.scanned.code_at p.1 s.0 p.0 inside ends p.2 line in
    (f.0, omega arith, p.1, p.3, f.1))
    c.left_out_of_text.ensures
