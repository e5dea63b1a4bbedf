use Rattle.vcd_head.proofs.Cited.{◌≡◌, Some, slice_get, length, refl, sym, ap, subst, ◌∙◌, rules, arith, slice_get_read, front, Follows, parts, parent_of_row}
use Rattle.vcd_head.proofs.Facts.{front_is}
use Rattle.vcd_head.proofs.inside.Open.around.Goals as goal

pub returns-clause-run : goal.returns-clause-run
returns-clause-run c = λ h names order flags v are.
    let inside = c.in_ok-inside.inside.now in
    let self = c.args.self.now in
    let row : slice_get c.args.view.rows.now c.args.row ≡ Some c.in_ok-declared.declared = search rules in
    let parent = parent_of_row (parts c.args.view) h c.args.row c.in_ok-declared.declared v row in
    let scope : inside.scope ≡ c.in_ok-declared.declared.parent = search rules in
    let at : slice_get self.inside.now self.entered ≡ Some inside = slice_get_read self.inside.now
    (length self.inside.now) self.entered inside refl c.in_ok-inside.ensures.lookup.3.0 c.in_ok-inside.ensures.lookup.1 in
    subst (λ f. Follows names order flags f inside.run) (sym (front_is h.declarations c.args.row
    ∙ ap (front h.declarations) (sym parent ∙ sym scope))) (are.held self.entered inside (omega arith) at)
