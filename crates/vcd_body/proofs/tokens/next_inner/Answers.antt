use Rattle.vcd_body.proofs.Cited.{◌∷◌, None, refl, err_from_is_err_and, limit_of, token_of}
use Rattle.vcd_body.proofs.Facts.{cut_short, stopped_at_end}
use Rattle.vcd_body.proofs.tokens.next_inner.Goals as goal

pub returns-in_err-next_token-clause-reads : goal.returns-in_err-next_token-clause-reads
returns-in_err-next_token-clause-reads g c =
    let p = err_from_is_err_and c.from_residual.result c.from_residual.ensures.1 in
    rw (p.1, p.2) (λ codes i front placed first before r. c.in_err-next_token.ensures.reads codes i front placed (first ∷ before) r)

pub returns-clause-reads : goal.returns-clause-reads
returns-clause-reads g c = λ codes i front placed first before r.
    let a = rw c.if-branch.false at c.in_ok-next_token.ensures.reads codes i front placed (first ∷ before) r in
    let feed = c.next_token.new.feed in (
      cut_short codes i front placed (limit_of feed) a.given first before (token_of feed).line a.so_far a.all,
      stopped_at_end codes i front placed (first ∷ before) feed (limit_of feed) a.given None (token_of feed).line refl a.stands a.so_far a.all,
    )

pub returns-in_err-next_token-clause-ahead : goal.returns-in_err-next_token-clause-ahead
returns-in_err-next_token-clause-ahead g c = λ t ts w. (c.in_err-next_token.ensures.ahead t ts w).1.source

pub returns-then-branch-clause-ahead : goal.returns-then-branch-clause-ahead
returns-then-branch-clause-ahead g c = λ t ts w. (c.in_ok-next_token.ensures.ahead t ts w).1.source

pub returns-clause-ahead : goal.returns-clause-ahead
returns-clause-ahead g c = λ t ts w. (c.in_ok-next_token.ensures.ahead t ts w).1.source
