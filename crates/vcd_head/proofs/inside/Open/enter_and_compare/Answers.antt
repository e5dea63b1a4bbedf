use Rattle.vcd_head.proofs.Cited.{map, take, string_bytes, inl, refl, sym, subst, slice_get_within, name_of, path_of, selects_path, HasEntered, scopes_text}
use Rattle.vcd_head.proofs.Facts.{notes_then_match, open_matched, path_is}
use Rattle.vcd_head.proofs.inside.Open.enter_and_compare.Goals.{then-self, else-self}
use Rattle.vcd_head.proofs.inside.Open.enter_and_compare.Goals as goal

pub returns : goal.returns
returns c = λ h d v at var are.
    let e = take c.args.row h.declarations in
    let names = map string_bytes c.args.group.now.names.now in
    let order = c.args.group.now.order.now in
    let old = c.args.matched.now in
    let mid = c.if-self.matched in
    let now = c.if-self.self in
    let path = path_of e d in
    let entered : HasEntered h names order (scopes_text e) old mid now =
    elim c.if-self.branch [
      | then-self w ↦
          subst (HasEntered h names order (scopes_text e) old mid) (sym w.self-is)
          (subst (λ l. HasEntered h names order (scopes_text e) old l w.enter_around.new.self) (sym w.matched-is) (w.enter_around.ensures h v (slice_get_within h.declarations c.args.row d at) are))
      | else-self w ↦
          subst (HasEntered h names order (scopes_text e) old mid) (sym w.self-is)
          (subst (λ l. HasEntered h names order (scopes_text e) old l c.args.self.now) (sym w.matched-is) (record { open_scopes = are; notes = λ p name is. inl refl }))
    ] in
    let m = c.compare_names.ensures h d v at var entered.open_scopes in
    record {
      open_scopes = open_matched (selects_path path) h names order mid c.compare_names.new.matched now m.flags entered.open_scopes;
      matches = notes_then_match names (scopes_text e) (name_of d) path old mid c.compare_names.new.matched c.compare_names.result (path_is e d) entered.notes m;
    }
