use Rattle.std.proofs.Common.{◌≡◌, ◌∙◌, ◌++◌, ◌∷◌, ◌<◌, [], Bool, ap, cond, set, subst, sym, take}
use Rattle.std.proofs.lemmas.Option.{same_Some}
use Rattle.vcd_body.specs.Contents.{held_at, shown_as}
use Rattle.vcd_strobe.specs.Lines.{place_of}
use Rattle.vcd_strobe.specs.Roles.{changed, enlisted, is_idle}
use Rattle.vcd_strobe.specs.Strobes.{is_start}
use Rattle.vcd_strobe.specs.declared.role.Role.{Role}
use Rattle.vcd_strobe.proofs.whole.change_role.Goals as goal

pub returns-clause-enlists : goal.returns-clause-enlists
returns-clause-enlists c = λ r there low few.
    let its : c.in-Some.role ≡ r = same_Some c.in-Some.role r (c.in-Some.ensures ∙ there) in
    let here = c.place_of.ensures low (subst (λ (q : Role). q.now < 4) (sym its) few) ∙ ap (λ (q : Role). place_of c.args.code q.now) its in
    let start = c.is_start-start.ensures ∙ ap (λ o. is_start o c.args.regs.section) (c.get-shown.ensures ∙ ap (λ i. shown_as (held_at c.args.table.now i)) here) in
    let next = ap (λ (p : Bool). changed c.in-Some.role c.args.regs.time c.args.place p) start in
    let role = c.change_at-new.ensures.role c.in-Some.role (sym c.in-Some.ensures) in
    let idle = c.change_at-new.ensures.idle c.in-Some.role (sym c.in-Some.ensures) ∙ ap (λ (q : Role). is_idle q.wanted) its in
    record {
      roles_are = role ∙ ap (λ (q : Role). set c.args.roles.now c.args.code (enlisted q))
          (next ∙ ap (λ (q : Role). changed q c.args.regs.time c.args.place (is_start (shown_as (held_at c.args.table.now (place_of c.args.code r.now))) c.args.regs.section)) its);
      within = c.list.ensures.within;
      long = c.list.ensures.len;
      more = λ lt. c.list.ensures.codes lt ∙ ap (λ b. take c.args.count c.args.listed.now ++ cond b (c.args.code ∷ []) []) idle;
      same = λ e. c.list.ensures.same (idle ∙ e);
    }
