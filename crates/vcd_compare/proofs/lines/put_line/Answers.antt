use Rattle.vcd_compare.proofs.Cited.{decimal, refl, rules, counted, states_of}
use Rattle.vcd_compare.proofs.Facts.{pair_line, pair_texts, texts_cut, texts_last, texts_more, texts_none}
use Rattle.vcd_compare.proofs.lines.put_line.Goals as goal

pub returns-in_err-put : goal.returns-in_err-put
returns-in_err-put g c = counted (search rules) (λ h items p views current pair late.
    let ts = pair_texts (decimal c.args.time) p.path (states_of items p c.args.time) in
    texts_cut _ _ _ ts 0 _ refl (texts_none ts _) c.from_residual.result _ (pair_line items p c.args.time p.path refl) c.from_residual.ensures.0 c.in_err-put.ensures.0)

pub returns-in_err-put_number : goal.returns-in_err-put_number
returns-in_err-put_number g c = counted (search rules) (λ h items p views current pair late.
    let ts = pair_texts (decimal c.args.time) p.path (states_of items p c.args.time) in
    texts_cut _ _ _ ts 1 _ refl (texts_more _ _ _ ts 0 _ refl (texts_none ts _) c.in_ok-put.ensures.0) c.from_residual-in_err-put_number.result _
    (pair_line items p c.args.time p.path refl) c.from_residual-in_err-put_number.ensures.0 c.in_err-put_number.ensures.0)

pub returns-in_err-put-2 : goal.returns-in_err-put-2
returns-in_err-put-2 g c = counted (search rules) (λ h items p views current pair late.
    let ts = pair_texts (decimal c.args.time) p.path (states_of items p c.args.time) in
    texts_cut _ _ _ ts 2 _ refl (texts_more _ _ _ ts 1 _ refl (texts_more _ _ _ ts 0 _ refl (texts_none ts _) c.in_ok-put.ensures.0)
    c.in_ok-put_number.ensures.0) c.from_residual-in_err-put-2.result _
    (pair_line items p c.args.time p.path refl) c.from_residual-in_err-put-2.ensures.0 c.in_err-put-2.ensures.0)

pub returns-in_err-put_name : goal.returns-in_err-put_name
returns-in_err-put_name g c = counted (search rules) (λ h items p views current pair late.
    let ts = pair_texts (decimal c.args.time) p.path (states_of items p c.args.time) in
    texts_cut _ _ _ ts 3 _ refl (texts_more _ _ _ ts 2 _ refl (texts_more _ _ _ ts 1 _ refl
    (texts_more _ _ _ ts 0 _ refl (texts_none ts _) c.in_ok-put.ensures.0) c.in_ok-put_number.ensures.0) c.in_ok-put-2.ensures.0)
    c.from_residual-in_err-put_name.result _ (pair_line items p c.args.time p.path refl) c.from_residual-in_err-put_name.ensures.0
    (c.in_err-put_name.ensures.0 h p.path p.one views pair.at))

pub returns-in_err-put-3 : goal.returns-in_err-put-3
returns-in_err-put-3 g c = counted (search rules) (λ h items p views current pair late.
    let ts = pair_texts (decimal c.args.time) p.path (states_of items p c.args.time) in
    texts_cut _ _ _ ts 4 _ refl (texts_more _ _ _ ts 3 _ refl (texts_more _ _ _ ts 2 _ refl
    (texts_more _ _ _ ts 1 _ refl (texts_more _ _ _ ts 0 _ refl (texts_none ts _) c.in_ok-put.ensures.0) c.in_ok-put_number.ensures.0)
    c.in_ok-put-2.ensures.0) (c.in_ok-put_name.ensures.0 h p.path p.one views pair.at)) c.from_residual-in_err-put-3.result _
    (pair_line items p c.args.time p.path refl) c.from_residual-in_err-put-3.ensures.0 c.in_err-put-3.ensures.0)

pub returns : goal.returns
returns g c = counted (search rules) (λ h items p views current pair late.
    let ts = pair_texts (decimal c.args.time) p.path (states_of items p c.args.time) in
    texts_last _ _ _ ts 5 _ refl (texts_more _ _ _ ts 4 _ refl (texts_more _ _ _ ts 3 _ refl
    (texts_more _ _ _ ts 2 _ refl (texts_more _ _ _ ts 1 _ refl (texts_more _ _ _ ts 0 _ refl (texts_none ts _) c.in_ok-put.ensures.0)
    c.in_ok-put_number.ensures.0) c.in_ok-put-2.ensures.0) (c.in_ok-put_name.ensures.0 h p.path p.one views pair.at)) c.in_ok-put-3.ensures.0)
    c.put_states.result _ (pair_line items p c.args.time p.path refl) refl (c.put_states.ensures.0 h items p views current pair.class late))
