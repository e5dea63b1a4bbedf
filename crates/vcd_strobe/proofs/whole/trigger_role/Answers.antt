use Rattle.std.proofs.Common.{◌∙◌, ◌++◌, ◌∷◌, [], ap, cond, take}
use Rattle.vcd_strobe.proofs.whole.trigger_role.Goals as goal

pub returns-clause-enlists : goal.returns-clause-enlists
returns-clause-enlists c = λ r there.
    let idle = c.trigger_at-new.ensures.idle r there in
    record {
      roles_are = c.trigger_at-new.ensures.role r there;
      within = c.list.ensures.within;
      long = c.list.ensures.len;
      more = λ lt. c.list.ensures.codes lt ∙ ap (λ b. take c.args.count c.args.listed.now ++ cond b (c.args.code ∷ []) []) idle;
      same = λ e. c.list.ensures.same (idle ∙ e);
    }
