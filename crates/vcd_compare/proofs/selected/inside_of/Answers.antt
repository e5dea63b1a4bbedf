use Rattle.vcd_compare.proofs.Cited.{◌≡◌, ◌++◌, ◌∷◌, [], cond, length, get_or, sym, ap, subst, ◌∙◌, add-one, arith, slice_get-get_or, AreInside, AreNamedBelow, is_inside}
use Rattle.vcd_compare.proofs.selected.inside_of.Goals as goal

pub loop-index-preserved : goal.loop-index-preserved
loop-index-preserved c = λ texts names es has near left within below.
    let i = c.loop-index.index in
    let items = c.args.items.now in
    let s = c.loop-index.invariant texts names es has near left within below in
    let item = get_or items i 0 in
    let at = slice_get-get_or items i 0 (omega arith) in
    let room = subst (AreNamedBelow texts names) (sym s.0) below in
    let put = c.in_ok-put_inside.ensures texts names es has near left (within i item at) room in (
      put.len ∙ s.0,
      subst (λ j. AreInside texts names es items j c.put_inside.new.lists.items) (sym (add-one i)) (λ m w number one. put.each m w number one
          ∙ ap (λ l. l ++ cond (is_inside texts es w item) (i ∷ []) []) (s.1 m w number one)),
    )

pub returns : goal.returns
returns c = λ texts names es has near left within below.
    let s = c.loop-index.invariant texts names es has near left within below in
    let end : c.loop-index.index ≡ length c.args.items.now = omega arith in
    subst (λ j. AreInside texts names es c.args.items.now j c.loop-index.lists.items) end s.1
