use Rattle.vcd_head.proofs.Cited.{◌≡◌, ◌++◌, ◌∷◌, [], suc, map, take, string_bytes, refl, sym, ap, subst, ◌∙◌, add-one, inl, front, scopes_text, Follows, GoesOn, there}
use Rattle.vcd_head.proofs.Facts.{front_next, notes_grow, open_kept}
use Rattle.vcd_head.proofs.inside.Open.enter.Goals as goal

pub returns-in_default : goal.returns-in_default
returns-in_default c = λ h v within are. record { open_scopes = are; notes = λ p name at. inl refl }

pub returns : goal.returns
returns c = λ h v within are.
    let ds = h.declarations in
    let names = map string_bytes c.args.group.now.names.now in
    let order = c.args.group.now.order.now in
    let d = there ds c.args.row within in
    let inside = front ds (suc c.args.row) in
    let is : scopes_text (take c.args.row ds) ++ (c.name_of.result.now ++ 46 ∷ []) ≡ inside = ap
    (λ l. scopes_text (take c.args.row ds) ++ (l ++ 46 ∷ [])) (c.name_of.ensures h d.0 v d.1) ∙ sym (front_next ds c.args.row d.0 d.1) in
    let goes = subst (λ p. GoesOn names order c.args.matched.now c.follow_scope-run.new.matched p c.follow_scope-run.result) is
    (c.follow_scope-run.ensures (scopes_text (take c.args.row ds)) (c.in-Some.ensures.run h names order c.args.matched.now v are)) in
    record {
      open_scopes = c.keep_inner.ensures h names order c.follow_scope-run.new.matched
          (open_kept h names order c.args.matched.now c.follow_scope-run.new.matched c.args.self.now
          (notes_grow names inside c.args.matched.now c.follow_scope-run.new.matched goes.notes) goes.follows.same are)
          (subst (λ n. Follows names order c.follow_scope-run.new.matched (front ds n) c.follow_scope-run.result)
          (sym (add-one c.args.row)) goes.follows);
      notes = goes.notes;
    }
