use Rattle.vcd_body.proofs.Cited.{[], ◌∷◌, ◌++◌, sym, ap, ◌∙◌, subst, drop-map, to_ascii_lowercase, id_text, Puts}
use Rattle.vcd_body.proofs.Facts.{bit_line, vector_line}
use Rattle.vcd_body.proofs.put_line.put_change.Goals as goal

pub returns-in-len1 : goal.returns-in-len1
returns-in-len1 g c =
    let (size, event, form) = c.is_bit.ensures.bit c.if-is_bit.true in
    let id = id_text c.args.id in
    let line = bit_line c.args.text.now id c.args.size c.args.event c.args.form size event form c.in-len1.len_at_least c.in-len1.len_below in
    let same = ap (λ d. d ∷ id ++ 10 ∷ []) c.to_ascii_lowercase.ensures.value in
    subst (λ l. Puts (g.W.Sink.device c.args.w.now) (g.W.Sink.device c.put_code_under.new.w) l c.put_code_under.result) (same ∙ sym line) c.put_code_under.ensures

pub returns-in_default : goal.returns-in_default
returns-in_default g c =
    let (size, event, form) = c.is_vector.ensures.vector c.if-is_vector.true in
    let id = id_text c.args.id in
    let line = vector_line c.args.text.now id c.args.size c.args.event c.args.form size event form in
    let rest = drop-map to_ascii_lowercase c.needless.result c.args.text.now ∙ c.needless.ensures.rest c.args.size in
    subst (λ l. Puts (g.W.Sink.device c.args.w.now) (g.W.Sink.device c.put_vector.new.w) l c.put_vector.result)
    (ap (λ ds. 98 ∷ ds ++ (32 ∷ id ++ 10 ∷ [])) rest ∙ sym line) c.put_vector.ensures

pub returns-in_default-2 : goal.returns-in_default-2
returns-in_default-2 g c = c.put_nonvector_under.ensures c.args.size (c.is_vector.ensures.other c.if-is_vector.false)
