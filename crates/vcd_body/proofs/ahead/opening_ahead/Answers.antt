use Rattle.vcd_body.proofs.Cited.{drop, subst, Begins}
use Rattle.vcd_body.proofs.Facts.{first_rest}
use Rattle.vcd_body.proofs.ahead.opening_ahead.Goals as goal

pub returns-clause-opens : goal.returns-clause-opens
returns-clause-opens c =
    let t = c.in_ok-token.ensures.takes in
    let token = c.in_ok-token.token.now in
    record {
      token = t;
      begins = subst (λ t. Begins t c.phrase_kind_by.result) (first_rest token t.some) (c.phrase_kind_by.ensures (drop 1 token));
    }
