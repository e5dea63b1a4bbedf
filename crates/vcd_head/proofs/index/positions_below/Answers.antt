use Rattle.vcd_head.proofs.Cited.{◌++◌, ◌∷◌, [], ap, sym, ◌∙◌, zero-add, add-one, range_with_len}
use Rattle.vcd_head.proofs.Facts.{range_push}
use Rattle.vcd_head.proofs.index.positions_below.Goals as goal

pub loop-position-preserved : goal.loop-position-preserved
loop-position-preserved c =
    let n = c.loop-position.position in
    c.in_ok-push.ensures.items ∙ ap (λ l. l ++ n ∷ []) c.loop-position.invariant ∙ ap (λ k. range_with_len 0 n ++ k ∷ []) (sym (zero-add n))
    ∙ sym (range_push 0 n) ∙ ap (range_with_len 0) (sym (add-one n))
