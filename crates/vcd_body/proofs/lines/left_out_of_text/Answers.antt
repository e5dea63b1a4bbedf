use Rattle.vcd_body.proofs.Cited.{◌<◌, false, ◌∷◌, ◌-◌, sym, subst, refl, ◌∙◌, arith, IfSome, str_to_ascii_lowercase, extend, short, LeavesText, HasChange}
use Rattle.vcd_body.proofs.Facts.{if_some_more, text_within, without_none, real_item, vector_item}
use Rattle.vcd_body.proofs.lines.left_out_of_text.Goals as goal

pub returns-in-Vector : goal.returns-in-Vector
returns-in-Vector c =
    let bytes = c.args.scanned.bytes.now in
    let text = c.args.scanned.text.now in
    let size : 1 < c.args.size = c.if-size-gt1.true in
    let there = subst (λ f. HasChange bytes c.args.scanned.begin c.args.scanned.end f text c.requires.0) c.in-Vector.is c.requires.1 in
    let within = text_within bytes c.args.scanned.begin c.args.scanned.end text c.requires.0 there in
    subst (λ f. IfSome c.left_out_of_vector.result
    (LeavesText bytes c.args.scanned.begin c.args.scanned.end c.args.size f text c.args.scanned.binary c.args.scanned.code_at))
    (sym c.in-Vector.is) (if_some_more c.left_out_of_vector.result (λ k p. let few = p.0 in (
      omega arith,
      98 ∷ short (extend (str_to_ascii_lowercase text) c.args.size),
      omega arith,
      λ code. vector_item (record { text = code; size = c.args.size; event = false }) text refl (λ one. absurd (omega (arith, size, one))),
      λ code t long known. p.1 code t long known c.args.size,
    )) c.left_out_of_vector.ensures)

pub returns-in-RealText : goal.returns-in-RealText
returns-in-RealText c =
    let bytes = c.args.scanned.bytes.now in
    let text = c.args.scanned.text.now in
    let there = subst (λ f. HasChange bytes c.args.scanned.begin c.args.scanned.end f text c.requires.0) c.in-RealText.is c.requires.1 in
    let within = text_within bytes c.args.scanned.begin c.args.scanned.end text c.requires.0 there in
    subst (λ f. LeavesText bytes c.args.scanned.begin c.args.scanned.end c.args.size f text c.args.scanned.binary c.args.scanned.code_at 0) (sym c.in-RealText.is) (
      omega arith,
      114 ∷ text,
      omega arith,
      λ code. real_item (record { text = code; size = c.args.size; event = false }) text refl,
      λ code t long known. without_none bytes c.args.scanned.begin (c.args.scanned.end - 1) (omega arith) ∙ c.has_one_blank.ensures.line c.if-has_one_blank.true code t long,
    )
