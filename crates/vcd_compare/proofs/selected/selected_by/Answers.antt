use Rattle.vcd_compare.proofs.Cited.{length, sym, subst, ◌∙◌, AllZip, AreInside, AreNearest, AreWithin, IsNumberOf, both_names}
use Rattle.vcd_compare.proofs.Facts.{both_zip, ok_then}
use Rattle.vcd_compare.proofs.selected.selected_by.Goals as goal

pub returns : goal.returns
returns c = ok_then c.inside_of.result _ _ (λ lists inside texts es ns has below keys names exceptions.
    let numbers = subst (λ l. AllZip (IsNumberOf texts) l (both_names ns)) (sym (c.deref.ensures.value ∙ c.in_ok-numbers.ensures)) (both_zip texts c.args.names.now ns names) in
    let near = c.in_ok-nearest.ensures texts (both_names ns) has numbers in
    let left = c.in_ok-left_out.ensures texts es has exceptions in
    let keys_in = subst (λ l. AreWithin l (length texts)) (sym c.deref-4.ensures.value) keys in
    subst (λ l. AreInside texts (both_names ns) es l (length l) lists.items) c.deref-4.ensures.value
    (inside texts (both_names ns) es has (subst (AreNearest texts (both_names ns) (length texts)) (sym c.deref-2.ensures.value) near)
    (subst (AreNearest texts es (length texts)) (sym c.deref-3.ensures.value) left) keys_in below)) c.inside_of.ensures
