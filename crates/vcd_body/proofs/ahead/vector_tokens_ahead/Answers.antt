use Rattle.vcd_body.proofs.Cited.{subst, Begins}
use Rattle.vcd_body.proofs.ahead.vector_tokens_ahead.Goals as goal

pub returns : goal.returns
returns c = record {
  opens = λ a o.
      let token = c.args.opening.token.now in
      record {
        middle = c.args.ahead.now;
        token = o.token;
        begins = subst (Begins token) c.requires.kind o.begins;
        code = c.in_ok-code.ensures.takes;
        at = c.begin_of-at.ensures;
        code_at = c.begin_of-code_at.ensures;
      };
}
