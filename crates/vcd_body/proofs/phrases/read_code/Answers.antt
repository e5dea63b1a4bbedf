use Rattle.vcd_body.proofs.Cited.{◌∷◌, [], None, subst, err_from_is_err_and, token_of, Finds}
use Rattle.vcd_body.proofs.Facts.{refused_at, kept, kept_ahead}
use Rattle.vcd_body.proofs.phrases.read_code.Goals as goal

pub returns-in_err-next_inner-clause-reads : goal.returns-in_err-next_inner-clause-reads
returns-in_err-next_inner-clause-reads g c =
    let p = err_from_is_err_and c.from_residual.result c.from_residual.ensures.1 in
    rw (p.1, p.2) (λ h i front placed first v asks r. c.in_err-next_inner.ensures.reads h.codes i front placed first []
    (kept h.codes i front placed (first ∷ []) c.args.feed.now c.keep.new.self c.keep.ensures.still.stands r))

pub returns-in-None-clause-reads : goal.returns-in-None-clause-reads
returns-in-None-clause-reads g c = λ h i front placed first v asks r.
    let l = c.in_ok-next_inner.ensures.reads h.codes i front placed first [] (kept h.codes i front placed (first ∷ []) c.args.feed.now c.keep.new.self c.keep.ensures.still.stands r) in
    let f = subst (λ t. Finds h.codes t None) c.token.ensures (c.in-None.ensures.found h v) in
    refused_at h.codes i front placed (first ∷ []) c.next_inner.new.feed 16 (asks (token_of c.next_inner.new.feed).bytes f) l

pub returns-in_err-next_inner-clause-ahead : goal.returns-in_err-next_inner-clause-ahead
returns-in_err-next_inner-clause-ahead g c = kept_ahead c.args.feed.now c.keep.new.self c.next_inner.new.feed c.keep.ensures.still c.in_err-next_inner.ensures.ahead

pub returns-in-Some-clause-ahead : goal.returns-in-Some-clause-ahead
returns-in-Some-clause-ahead g c = kept_ahead c.args.feed.now c.keep.new.self c.next_inner.new.feed c.keep.ensures.still c.in_ok-next_inner.ensures.ahead

pub returns-in-None-clause-ahead : goal.returns-in-None-clause-ahead
returns-in-None-clause-ahead g c = kept_ahead c.args.feed.now c.keep.new.self c.next_inner.new.feed c.keep.ensures.still c.in_ok-next_inner.ensures.ahead
