use Rattle.vcd_compare.proofs.Cited.{refl, rules, counted, full_name}
use Rattle.vcd_compare.proofs.Facts.{alone_line, alone_texts, texts_cut, texts_last, texts_more, texts_none}
use Rattle.vcd_compare.proofs.lines.put_alone_line.Goals as goal

pub returns-in_err-put : goal.returns-in_err-put
returns-in_err-put g c = counted (search rules) (λ h v views at.
    let ts = alone_texts c.args.letter.now (full_name v) in
    texts_cut _ _ _ ts 0 _ refl (texts_none ts _) c.from_residual.result _ (alone_line c.args.letter.now (full_name v) v refl) c.from_residual.ensures.0 c.in_err-put.ensures.0)

pub returns-in_err-put-2 : goal.returns-in_err-put-2
returns-in_err-put-2 g c = counted (search rules) (λ h v views at.
    let ts = alone_texts c.args.letter.now (full_name v) in
    texts_cut _ _ _ ts 1 _ refl (texts_more _ _ _ ts 0 _ refl (texts_none ts _) c.in_ok-put.ensures.0) c.from_residual-in_err-put-2.result _
    (alone_line c.args.letter.now (full_name v) v refl) c.from_residual-in_err-put-2.ensures.0 c.in_err-put-2.ensures.0)

pub returns-in_err-put-3 : goal.returns-in_err-put-3
returns-in_err-put-3 g c = counted (search rules) (λ h v views at.
    let ts = alone_texts c.args.letter.now (full_name v) in
    texts_cut _ _ _ ts 2 _ refl (texts_more _ _ _ ts 1 _ refl (texts_more _ _ _ ts 0 _ refl (texts_none ts _) c.in_ok-put.ensures.0)
    c.in_ok-put-2.ensures.0) c.from_residual-in_err-put-3.result _
    (alone_line c.args.letter.now (full_name v) v refl) c.from_residual-in_err-put-3.ensures.0 c.in_err-put-3.ensures.0)

pub returns-in_err-put_name : goal.returns-in_err-put_name
returns-in_err-put_name g c = counted (search rules) (λ h v views at.
    let ts = alone_texts c.args.letter.now (full_name v) in
    texts_cut _ _ _ ts 3 _ refl (texts_more _ _ _ ts 2 _ refl (texts_more _ _ _ ts 1 _ refl
    (texts_more _ _ _ ts 0 _ refl (texts_none ts _) c.in_ok-put.ensures.0) c.in_ok-put-2.ensures.0) c.in_ok-put-3.ensures.0)
    c.from_residual-in_err-put_name.result _ (alone_line c.args.letter.now (full_name v) v refl) c.from_residual-in_err-put_name.ensures.0
    (c.in_err-put_name.ensures.0 h (full_name v) v.variable views (record { path = v.path; at = at; name_is = refl })))

pub returns : goal.returns
returns g c = counted (search rules) (λ h v views at.
    let ts = alone_texts c.args.letter.now (full_name v) in
    texts_last _ _ _ ts 4 _ refl (texts_more _ _ _ ts 3 _ refl (texts_more _ _ _ ts 2 _ refl
    (texts_more _ _ _ ts 1 _ refl (texts_more _ _ _ ts 0 _ refl (texts_none ts _) c.in_ok-put.ensures.0) c.in_ok-put-2.ensures.0)
    c.in_ok-put-3.ensures.0) (c.in_ok-put_name.ensures.0 h (full_name v) v.variable views (record { path = v.path; at = at; name_is = refl })))
    c.put-4.result _ (alone_line c.args.letter.now (full_name v) v refl) refl c.put-4.ensures.0)
