use Rattle.vcd_head.proofs.Cited.{err_from_is_err_and}
use Rattle.vcd_head.proofs.tokens.next_ends.Goals as goal

pub returns-in_err-next_token-clause-reads : goal.returns-in_err-next_token-clause-reads
returns-in_err-next_token-clause-reads g c =
    let p = err_from_is_err_and c.from_residual.result c.from_residual.ensures.1 in
    rw (p.1, p.2) c.in_err-next_token.ensures.reads
