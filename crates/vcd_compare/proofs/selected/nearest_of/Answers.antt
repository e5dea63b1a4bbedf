use Rattle.vcd_compare.proofs.Cited.{◌≡◌, ◌∷◌, ◌++◌, [], ℕ, suc, List, Bool, false, cond, get_or, refl, sym, ap, subst, ◌∙◌, add-one, arith, slice_get, Some, slice_get-get_or, texts_in, AreNearest}
use Rattle.vcd_compare.proofs.PlaceLemmas.{marked_is}
use Rattle.vcd_compare.proofs.SelectedLemmas.{nearest_more}
use Rattle.vcd_compare.proofs.selected.nearest_of.Goals as goal

pub loop-index-preserved : goal.loop-index-preserved
loop-index-preserved c = λ texts names has all.
    let i = c.loop-index.index in
    let nodes = c.args.paths.now.nodes.keys in
    let nearest = c.loop-index.nearest.items in
    let marks = c.in_ok-marks.marks.items in
    let old = c.loop-index.invariant texts names has all in
    let node = get_or nodes i (0, 0) in
    let at = slice_get-get_or nodes i (0, 0) (omega (arith, c.len-index-end.ensures.len)) in
    let mark = get_or marks (suc i) false in
    let is_mark = λ (t : List ℕ) (text : slice_get texts i ≡ Some t). c.in_ok-marks.ensures (suc i)
    (omega (arith, c.len-index-end.ensures.len, c.len.ensures.len))
    ∙ marked_is texts (suc i) t c.args.numbers.now names has.apart (i, refl, text) all in
    let number : c.nearest_at-number.result ≡ cond mark (suc i) (get_or nearest node.0 0) = c.nearest_at-number.ensures
    ∙ ap (λ (n : ℕ). cond (get_or c.deref.result.now n false) n (get_or c.deref-in-loop-index.result.now (get_or c.as_slice.result.now i (0, 0)).0 0)) (add-one i)
    ∙ ap (λ (l : List Bool). cond (get_or l (suc i) false) (suc i) (get_or c.deref-in-loop-index.result.now (get_or c.as_slice.result.now i (0, 0)).0 0)) c.deref.ensures.value
    ∙ ap (λ (l : List ℕ). cond mark (suc i) (get_or l (get_or c.as_slice.result.now i (0, 0)).0 0)) c.deref-in-loop-index.ensures.value
    ∙ ap (λ (l : List (ℕ × ℕ)). cond mark (suc i) (get_or nearest (get_or l i (0, 0)).0 0)) c.as_slice.ensures.keys in
    subst (λ j. AreNearest texts names j c.push-in-loop-index.new.self.items) (sym (add-one i))
    (subst (AreNearest texts names (suc i)) (sym (c.in_ok-push-2.ensures.items ∙ ap (λ n. nearest ++ n ∷ []) number))
    (nearest_more (texts_in c.args.paths.now.parts) nodes texts has names i node nearest mark at (λ t text. is_mark t text) old))
