use Rattle.vcd_view.proofs.Cited.{◌≡◌, length, sym, ap, ◌∙◌, arith, mixed}
use Rattle.vcd_view.proofs.Facts.{word_alone}
use Rattle.vcd_view.proofs.code_hash.CodeSeed.hashed.Goals as goal

pub returns-in-len8 : goal.returns-in-len8
returns-in-len8 c =
    let eight : length c.args.bytes.now ≡ 8 = omega (arith, c.in-len8.len_at_least, c.in-len8.len_below) in
    c.mixed.ensures ∙ ap (mixed c.args.self c.args.state) c.from_le_bytes.ensures ∙ sym (word_alone c.args.self c.args.state c.args.bytes.now eight)
