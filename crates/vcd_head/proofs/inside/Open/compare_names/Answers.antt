use Rattle.vcd_head.proofs.Cited.{◌++◌, Some, map, take, string_bytes, sym, ap, subst, ◌∙◌, path_of, selects_path, Matches, scopes_text}
use Rattle.vcd_head.proofs.Facts.{the_variable, path_is}
use Rattle.vcd_head.proofs.inside.Open.compare_names.Goals as goal

pub returns-in-Some : goal.returns-in-Some
returns-in-Some c = λ h d v at var are.
    let e = take c.args.row h.declarations in
    let names = map string_bytes c.args.group.now.names.now in
    subst (λ p. Matches (selects_path p) names c.args.matched.now c.note_selecting.new.matched c.note_selecting.result)
    (ap (λ l. scopes_text e ++ l) (c.name_of.ensures h d v at) ∙ sym (path_is e d))
    (c.note_selecting.ensures (scopes_text e) (c.in-Some.ensures.run h names c.args.group.now.order.now c.args.matched.now v are))

pub returns-in-None : goal.returns-in-None
returns-in-None c = λ h d v at var are.
    let e = take c.args.row h.declarations in
    let names = map string_bytes c.args.group.now.names.now in
    let x = the_variable d var in
    subst (λ q. Matches (selects_path (path_of e q)) names c.args.matched.now c.compare_each.new.matched c.compare_each.result) (sym x.1)
    (c.compare_each.ensures h x.0 v (at ∙ ap Some x.1))
