use Rattle.vcd_compare.proofs.Cited.{get_or, sym, ap, subst, ◌∙◌, Users, IsFound, all_named, only_at}
use Rattle.vcd_compare.proofs.Facts.{only_is}
use Rattle.vcd_compare.proofs.counterparts.only_at.Goals as goal

pub returns : goal.returns
returns c = λ h texts t are number.
    subst (IsFound h (only_at (all_named h) t)) (sym c.index_in.ensures)
    (only_is h texts c.args.variables.now are c.args.path t c.users_at.result number (c.users_at.ensures
    ∙ ap (λ l. get_or l c.args.path Users.None) c.deref.ensures.value))
