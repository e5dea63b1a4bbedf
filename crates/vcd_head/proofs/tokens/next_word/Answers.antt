use Rattle.vcd_head.proofs.Cited.{sym, ◌∙◌, err_from_is_err_and, token_of, fault_number}
use Rattle.vcd_head.proofs.Facts.{ends_on, refused, welcomed}
use Rattle.vcd_head.proofs.tokens.next_word.Goals as goal

pub returns-in_err-next_ends-clause-reads : goal.returns-in_err-next_ends-clause-reads
returns-in_err-next_ends-clause-reads g c =
    let p = err_from_is_err_and c.from_residual.result c.from_residual.ensures.1 in
    rw (p.1, p.2) (λ most i placed before w at r. c.in_err-next_ends.ensures.reads most i placed before r)

pub returns-then-branch-clause-reads : goal.returns-then-branch-clause-reads
returns-then-branch-clause-reads g c = λ most i placed before w at r.
    at (refused most i placed before c.next_ends.new.feed (fault_number c.args.fault)
    (w.1 (token_of c.next_ends.new.feed).bytes (sym c.in_ok-next_ends.ensures.end ∙ c.if-branch.true))
    (c.in_ok-next_ends.ensures.reads most i placed before r))

pub returns-then-branch-clause-advances : goal.returns-then-branch-clause-advances
returns-then-branch-clause-advances g c = ends_on g.S.Source.failures c.args.feed.now c.next_ends.new.feed _ c.requires.found c.in_ok-next_ends.ensures.goes.advances

pub returns-clause-reads : goal.returns-clause-reads
returns-clause-reads g c = λ most i placed before w at r.
    let e = sym c.in_ok-next_ends.ensures.end ∙ c.if-branch.false in
    (welcomed most i placed before _ c.next_ends.new.feed w e (c.in_ok-next_ends.ensures.reads most i placed before r), e)
