use Rattle.vcd_body.proofs.Cited.{◌∷◌, ◌-◌, arith, str_to_ascii_lowercase, extend, short}
use Rattle.vcd_body.proofs.Facts.{if_some_more, shortest_line, text_within}
use Rattle.vcd_body.proofs.lines.left_out_of_vector.Goals as goal

pub returns : goal.returns
returns c =
    let bytes = c.args.bytes.now in
    let text = c.args.digits.now in
    if_some_more c.left_out_of.result (λ k p. (
      p.0,
      λ code t long known size.
          let within = text_within bytes c.args.from c.args.to text code t in
          shortest_line bytes c.args.from (c.args.to - 1) k 98 text (32 ∷ code) (short (extend (str_to_ascii_lowercase text) size)) (omega arith) p.0
          (p.1 known size) (c.has_one_blank.ensures.line c.if-not-has_one_blank.false code t long),
    ))
    c.left_out_of.ensures
