use Rattle.vcd_compare.proofs.Cited.{refl, rules, kind_of, kind_shown, counted}
use Rattle.vcd_compare.proofs.Facts.{texts_cut, texts_last, texts_more, texts_none, unlike_line, unlike_texts}
use Rattle.vcd_compare.proofs.lines.put_unlike_line.Goals as goal

pub returns-in_err-put : goal.returns-in_err-put
returns-in_err-put g c = counted (search rules) (λ h p views at.
    let ts = unlike_texts p.path (kind_shown (kind_of p.one)) (kind_shown (kind_of p.other)) in
    texts_cut _ _ _ ts 0 _ refl (texts_none ts _) c.from_residual.result _ (unlike_line p p.path refl) c.from_residual.ensures.0 c.in_err-put.ensures.0)

pub returns-in_err-put_name : goal.returns-in_err-put_name
returns-in_err-put_name g c = counted (search rules) (λ h p views at.
    let ts = unlike_texts p.path (kind_shown (kind_of p.one)) (kind_shown (kind_of p.other)) in
    texts_cut _ _ _ ts 1 _ refl (texts_more _ _ _ ts 0 _ refl (texts_none ts _) c.in_ok-put.ensures.0) c.from_residual-in_err-put_name.result _
    (unlike_line p p.path refl) c.from_residual-in_err-put_name.ensures.0 (c.in_err-put_name.ensures.0 h p.path p.one views at.at))

pub returns-in_err-put-2 : goal.returns-in_err-put-2
returns-in_err-put-2 g c = counted (search rules) (λ h p views at.
    let ts = unlike_texts p.path (kind_shown (kind_of p.one)) (kind_shown (kind_of p.other)) in
    texts_cut _ _ _ ts 2 _ refl (texts_more _ _ _ ts 1 _ refl (texts_more _ _ _ ts 0 _ refl (texts_none ts _) c.in_ok-put.ensures.0)
    (c.in_ok-put_name.ensures.0 h p.path p.one views at.at)) c.from_residual-in_err-put-2.result _
    (unlike_line p p.path refl) c.from_residual-in_err-put-2.ensures.0 c.in_err-put-2.ensures.0)

pub returns-in_err-put_kind : goal.returns-in_err-put_kind
returns-in_err-put_kind g c = counted (search rules) (λ h p views at.
    let ts = unlike_texts p.path (kind_shown (kind_of p.one)) (kind_shown (kind_of p.other)) in
    texts_cut _ _ _ ts 3 _ refl (texts_more _ _ _ ts 2 _ refl (texts_more _ _ _ ts 1 _ refl
    (texts_more _ _ _ ts 0 _ refl (texts_none ts _) c.in_ok-put.ensures.0) (c.in_ok-put_name.ensures.0 h p.path p.one views at.at))
    c.in_ok-put-2.ensures.0) c.from_residual-in_err-put_kind.result _ (unlike_line p p.path refl) c.from_residual-in_err-put_kind.ensures.0
    (c.in_err-put_kind.ensures.0 h p.one views at.at.at.declared))

pub returns-in_err-put-3 : goal.returns-in_err-put-3
returns-in_err-put-3 g c = counted (search rules) (λ h p views at.
    let ts = unlike_texts p.path (kind_shown (kind_of p.one)) (kind_shown (kind_of p.other)) in
    texts_cut _ _ _ ts 4 _ refl (texts_more _ _ _ ts 3 _ refl (texts_more _ _ _ ts 2 _ refl
    (texts_more _ _ _ ts 1 _ refl (texts_more _ _ _ ts 0 _ refl (texts_none ts _) c.in_ok-put.ensures.0)
    (c.in_ok-put_name.ensures.0 h p.path p.one views at.at)) c.in_ok-put-2.ensures.0)
    (c.in_ok-put_kind.ensures.0 h p.one views at.at.at.declared)) c.from_residual-in_err-put-3.result _
    (unlike_line p p.path refl) c.from_residual-in_err-put-3.ensures.0 c.in_err-put-3.ensures.0)

pub returns-in_err-put_kind-2 : goal.returns-in_err-put_kind-2
returns-in_err-put_kind-2 g c = counted (search rules) (λ h p views at.
    let ts = unlike_texts p.path (kind_shown (kind_of p.one)) (kind_shown (kind_of p.other)) in
    texts_cut _ _ _ ts 5 _ refl (texts_more _ _ _ ts 4 _ refl (texts_more _ _ _ ts 3 _ refl
    (texts_more _ _ _ ts 2 _ refl (texts_more _ _ _ ts 1 _ refl (texts_more _ _ _ ts 0 _ refl (texts_none ts _) c.in_ok-put.ensures.0)
    (c.in_ok-put_name.ensures.0 h p.path p.one views at.at)) c.in_ok-put-2.ensures.0)
    (c.in_ok-put_kind.ensures.0 h p.one views at.at.at.declared)) c.in_ok-put-3.ensures.0) c.from_residual-in_err-put_kind-2.result _
    (unlike_line p p.path refl) c.from_residual-in_err-put_kind-2.ensures.0 (c.in_err-put_kind-2.ensures.0 h p.other views at.other))

pub returns : goal.returns
returns g c = counted (search rules) (λ h p views at.
    let ts = unlike_texts p.path (kind_shown (kind_of p.one)) (kind_shown (kind_of p.other)) in
    texts_last _ _ _ ts 6 _ refl (texts_more _ _ _ ts 5 _ refl (texts_more _ _ _ ts 4 _ refl
    (texts_more _ _ _ ts 3 _ refl (texts_more _ _ _ ts 2 _ refl (texts_more _ _ _ ts 1 _ refl
    (texts_more _ _ _ ts 0 _ refl (texts_none ts _) c.in_ok-put.ensures.0) (c.in_ok-put_name.ensures.0 h p.path p.one views at.at))
    c.in_ok-put-2.ensures.0) (c.in_ok-put_kind.ensures.0 h p.one views at.at.at.declared)) c.in_ok-put-3.ensures.0)
    (c.in_ok-put_kind-2.ensures.0 h p.other views at.other)) c.put-4.result _ (unlike_line p p.path refl) refl c.put-4.ensures.0)
