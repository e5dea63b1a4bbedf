use Rattle.vcd_body.proofs.Cited.{drop, subst, Begins}
use Rattle.vcd_body.proofs.Facts.{first_rest}
use Rattle.vcd_body.proofs.ahead.line_timestamp.Goals as goal

pub returns-clause-opens : goal.returns-clause-opens
returns-clause-opens g c =
    let n = c.in_ok-token.ensures in
    let token = c.in_ok-token.token.now in
    record {
      token = n.takes;
      begins = subst (λ t. Begins t c.phrase_kind_by-kind.result) (first_rest token n.takes.some) (c.phrase_kind_by-kind.ensures (drop 1 token));
    }
